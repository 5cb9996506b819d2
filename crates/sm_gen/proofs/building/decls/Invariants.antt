use Rattle.sm_gen.proofs.Imports.{◌≡◌, map, range_with_len, Name, Sort, Num, with_sort}
use Rattle.sm_gen.proofs.building.decls.Given as goal

abbrev pub invariant-loop-number : goal.invariant-loop-number
invariant-loop-number l =
    map (λ (e : Name × Sort). (e.0.0, e.1)) l.list.items ≡ with_sort Num (range_with_len 0 l.number)
