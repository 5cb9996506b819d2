-- The terms that were passed have places.
use Rattle.sm_judge.proofs.Imports.{trees_in, HavePlacesBelow}
use Rattle.sm_judge.proofs.term_places.terms_have_places.Given as goal

abbrev pub invariant-loop-n : goal.invariant-loop-n
invariant-loop-n l = HavePlacesBelow (trees_in l.table) l.n
