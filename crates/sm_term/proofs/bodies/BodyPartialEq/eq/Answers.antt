use Rattle.sm_term.proofs.Imports.{same_from_decides, same_body-Decides}
use Rattle.sm_term.proofs.bodies.BodyPartialEq.eq.Goals as goal

pub returns : goal.returns
returns c = same_from_decides _ _ c.same_block.ensures (same_body-Decides c.args.self.now c.args.other.now)
