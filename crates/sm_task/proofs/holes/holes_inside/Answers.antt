use Rattle.sm_task.proofs.Imports.{arith, common_steps}
use Rattle.sm_task.proofs.Numbers.{holes_inside-codes}
use Rattle.sm_task.proofs.holes.holes_inside.Goals as goal

pub returns : goal.returns
returns c = let same = holes_inside-codes c.args.fillings.now.list.items in grind (arith, common_steps)
