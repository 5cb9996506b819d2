-- The guards of loops, one copy after the other, and the turns.
use Rattle.sm_plan.proofs.Imports.{◌≡◌, ℕ, Bool, true, false, if◌then◌else◌, Option, Some, None, option_map, List, [], ◌∷◌, ◌++◌, map, length, refl, sym, ap, ◌∙◌, subst, Code, Condition, Sorts, IsWellSorted, Assertion, numbered, assertion_in, IsFormulaWithin, Formula, IsFormSorted, IsStoreSorted, SymbolicStore, form_of, store_in, IsStoreWithin, SymStore, TableValue, trees_in, sorts_in, AddsTerms, Tree, store-more, assertion-more, form_kept, IsFormReady, loop_guard}
use Rattle.std.specs.Prelude.{IfSome}
use Rattle.sm_plan.proofs.SortedCode.{guard_well}
use Rattle.sm_plan.proofs.SortedTerms.{form_sorted}

-- the formula of a guard that may be there
abbrev pub form_if : TableValue → Option Formula → Option Assertion
form_if v o = option_map (λ (f : Formula). assertion_in (sorts_in v) (trees_in v) (numbered f)) o

-- the formula that it should be
abbrev pub guard_if : Bool → Code → SymbolicStore → Option Assertion
guard_if b code s = if b then Some (form_of (loop_guard code) s) else None

-- a guard that was made over a table between two others
pub guard_more : (u v w x : TableValue) → AddsTerms u v → AddsTerms w x → (b : Bool) (code : Code) (s : SymStore) (o : Option Formula) →
    IsStoreWithin (length (trees_in u)) s →
    IfSome o (λ (f : Formula). IsFormulaWithin (length (trees_in w)) (numbered f)) →
    form_if w o ≡ guard_if b code (store_in (trees_in v) s) →
    form_if x o ≡ guard_if b code (store_in (trees_in u) s)
guard_more u v w x before after b code s o first within e =
    later o within ∙ e ∙ ap (guard_if b code) (store-more u v before s first)
  where
    later : (o : Option Formula) → IfSome o (λ (f : Formula). IsFormulaWithin (length (trees_in w)) (numbered f)) →
        form_if x o ≡ form_if w o
    later None h = refl
    later (Some f) h = ap (λ (a : Assertion). Some a) (assertion-more w x after (numbered f) h)

-- it is ready
pub guard_ready : (u w x : TableValue) → AddsTerms u x → AddsTerms w x → (b : Bool) (code : Code) (s : SymbolicStore) (o : Option Formula) →
    IsWellSorted (sorts_in u) code → IsStoreSorted (sorts_in u) s →
    IfSome o (λ (f : Formula). IsFormulaWithin (length (trees_in w)) (numbered f)) → form_if x o ≡ guard_if b code s →
    IfSome o (IsFormReady (sorts_in x) (trees_in x))
guard_ready u w x before after b code s None well good within e = tt
guard_ready u w x before after true code s (Some f) well good within e =
    let same : assertion_in (sorts_in x) (trees_in x) (numbered f) ≡ form_of (loop_guard code) s = cc in (
      form_kept w x after (numbered f) within,
      subst (IsFormSorted (sorts_in x)) (sym same)
          (subst (λ (sorts : Sorts). IsFormSorted sorts (form_of (loop_guard code) s)) (sym before.sorts)
          (form_sorted (sorts_in u) (loop_guard code) s (guard_well (sorts_in u) code well) good)),
    )
guard_ready u w x before after false code s (Some f) well good within e =
    absurd (let wrong : Some (assertion_in (sorts_in x) (trees_in x) (numbered f)) ≡ None = e in cc)
