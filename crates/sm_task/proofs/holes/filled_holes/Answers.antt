use Rattle.sm_task.proofs.Imports.{arith, common_steps}
use Rattle.sm_task.proofs.Numbers.{filled_holes-codes}
use Rattle.sm_task.proofs.holes.filled_holes.Goals as goal

pub returns : goal.returns
returns c = let same = filled_holes-codes c.args.fillings.now.list.items in grind (arith, common_steps)
