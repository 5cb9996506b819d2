-- Those of the kinds so far.
use Rattle.sm_follow.proofs.Imports.{take, AreThose}
use Rattle.sm_follow.proofs.following.those.Given as goal

abbrev pub invariant-loop-kind : goal.invariant-loop-kind
invariant-loop-kind l = AreThose l.text (take l.kind-index l.kinds) l.shown.items
