-- The keys of the facts before are there.
use Rattle.sm_judge.proofs.Imports.{nat_eq, get, HasKeys}
use Rattle.sm_judge.proofs.keyed.places_of.Given as goal

abbrev pub invariant-loop-n : goal.invariant-loop-n
invariant-loop-n l = HasKeys (get nat_eq l.places) l.list l.n
