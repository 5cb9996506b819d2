-- Nothing is kept but the place.
use Rattle.sm_certify.proofs.labelled.is_refuted_by.Given as goal

abbrev pub invariant-loop-i : goal.invariant-loop-i
invariant-loop-i l = Unit {0}
