-- What is left of each copy is copied.
use Rattle.sm_candidates.proofs.Imports.{sym, subst, IsWellSorted}
use Rattle.sm_candidates.proofs.loops.state_at.Goals as goal

pub returns : goal.returns
returns c = λ sorts sorted copy. subst (IsWellSorted sorts) (sym (c.in_ok-rests.ensures copy)) (sorted copy)
