-- The shadows so far have entered.
use Rattle.sm_exact.proofs.Imports.{◌≡◌, ◌++◌, List, map, drop, Item, Count, entered, shadow, before}
use Rattle.sm_exact.proofs.shadows.enter_row.Given as goal

abbrev pub invariant-loop-u : goal.invariant-loop-u
invariant-loop-u l =
    (rest : List Item) →
    before l.fn.out.items (entered l.steps (map (λ u. Count (shadow l.t l.l u)) l.upper ++ rest) l.fn.count)
    ≡ before l.so_far.items (entered l.steps (map (λ u. Count (shadow l.t l.l u)) (drop l.u-index l.upper) ++ rest) l.counted)
