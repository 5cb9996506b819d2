-- The variables so far have their values.
use Rattle.sm_exact.proofs.Imports.{◌≡◌, nat_eq, map, take, get, values_in}
use Rattle.sm_exact.proofs.atoms.pairs_of.Given as goal

abbrev pub invariant-loop-a : goal.invariant-loop-a
invariant-loop-a l = l.list.items ≡ map (λ a. (a, values_in (get nat_eq l.values) a)) (take l.a-index l.a-items)
