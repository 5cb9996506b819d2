-- A tree that a line closes.
use Rattle.std.proofs.Common.{refl}
use Rattle.sm_cert.proofs.CheckLemmas.{tree_closed}
use Rattle.sm_sided.proofs.part_trees.closed_by.Goals as goal

pub returns : goal.returns
returns c = λ trees. tree_closed trees _ c.args.line refl
