-- A turn for each set of copies whose mask is less.
use Rattle.sm_plan.proofs.Imports.{◌≡◌, ◌==◌, ◌-◌, ℕ, List, map, bit_and, filter, range_with_len, Copy, Sorts, IsWellSorted, of_copy, Assertion, Tree, IsHeadReady, set_of, AreFormsReady, AreSuccessorsReady, rest_code, forms_in, stores_in, successor_in}
use Rattle.sm_plan.specs.Heads as heads
use Rattle.sm_plan.proofs.turns.turns.Given as goal

abbrev pub invariant-loop-smaller : goal.invariant-loop-smaller
invariant-loop-smaller l = record {
  made : (sorts : Sorts) (trees : List Tree) (facts : List Assertion) →
      map (successor_in sorts trees facts) l.states.items
      ≡ map
      (λ (m : ℕ).
      heads.turn_of (λ (c : Copy). rest_code (of_copy l.rests c)) facts (stores_in trees l.head.stores)
      (forms_in sorts trees l.head.kept.value.list.items)
      (heads.guard_forms sorts trees l.head.guards) (forms_in sorts trees l.target.value.list.items) (set_of m))
      (filter (λ (m : ℕ). bit_and m l.set == m) (range_with_len 1 l.smaller));
  ready : (sorts : Sorts) (trees : List Tree) →
      ((c : Copy) → IsWellSorted sorts (rest_code (of_copy l.rests c))) →
      IsHeadReady sorts trees l.head → AreFormsReady sorts trees l.target.value.list.items → AreSuccessorsReady sorts trees l.states.items;
}
