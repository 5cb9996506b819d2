-- The sum so far, with the parts from here on, is that of all parts.
use Rattle.sm_exact.proofs.Imports.{◌≡◌, pos, nat_eq, drop, get, parts_without, same_atom, sum_from, values_in}
use Rattle.sm_exact.proofs.values.rest.Given as goal

abbrev pub invariant-loop-part : goal.invariant-loop-part
invariant-loop-part l =
    sum_from (values_in (get nat_eq l.values)) (pos 0) (parts_without same_atom l.t l.part-items)
    ≡ sum_from (values_in (get nat_eq l.values)) l.sum (parts_without same_atom l.t (drop l.part-index l.part-items))
