-- Formulas over a table that grows.
use Rattle.sm_term.proofs.Imports.{◌≡◌, ℕ, ◌≤◌, List, ◌++◌, length, refl, sym, ap, ◌∙◌, subst, arith, length-append, Condition, Sorts, IsWellSortedCondition, Tree, form_of, store_in, IsStoreWithin, SymStore, NumberedFormula, contrary, assertion_in, IsFormulaWithin, TableValue, trees_in, sorts_in, AddsTerms}
use Rattle.sm_term.specs.Formulas as form
use Rattle.sm_term.proofs.TreesLemmas.{tree_at-more}
use Rattle.sm_term.proofs.ExpressionLemmas.{store-more}

-- a condition's sorts stay
pub tested_more : (v w : TableValue) → AddsTerms v w → (c : Condition) → IsWellSortedCondition (sorts_in v) c → IsWellSortedCondition (sorts_in w) c
tested_more v w grows c well = subst (λ f. IsWellSortedCondition f c) (sym grows.sorts) well

-- what a formula stands for stays where more trees are put behind
assertion-trees : (sorts : Sorts) (trees more : List Tree) (f : NumberedFormula) → IsFormulaWithin (length trees) f → assertion_in sorts (trees ++ more) f ≡ assertion_in sorts trees f
assertion-trees sorts trees more form.Yes w = refl
assertion-trees sorts trees more form.No w = refl
assertion-trees sorts trees more (form.Eq t u) w = rw (tree_at-more trees more t w.0, tree_at-more trees more u w.1) refl
assertion-trees sorts trees more (form.Ne t u) w = rw (tree_at-more trees more t w.0, tree_at-more trees more u w.1) refl
assertion-trees sorts trees more (form.Le t u) w = rw (tree_at-more trees more t w.0, tree_at-more trees more u w.1) refl
assertion-trees sorts trees more (form.Lt t u) w = rw (tree_at-more trees more t w.0, tree_at-more trees more u w.1) refl
assertion-trees sorts trees more (form.And p q) w = rw (assertion-trees sorts trees more p w.0, assertion-trees sorts trees more q w.1) refl
assertion-trees sorts trees more (form.Or p q) w = rw (assertion-trees sorts trees more p w.0, assertion-trees sorts trees more q w.1) refl

pub assertion-more : (v w : TableValue) → AddsTerms v w → (f : NumberedFormula) → IsFormulaWithin (length (trees_in v)) f → assertion_in (sorts_in w) (trees_in w) f ≡ assertion_in (sorts_in v) (trees_in v) f
assertion-more v w grows f within =
    ap (λ l. assertion_in (sorts_in w) l f) grows.trees.1
    ∙ ap (λ s. assertion_in s (trees_in v ++ grows.trees.0) f) grows.sorts
    ∙ assertion-trees (sorts_in v) (trees_in v) grows.trees.0 f within

-- numbers below a count are below a greater one
pub form-later : (m n : ℕ) → m ≤ n → (f : NumberedFormula) → IsFormulaWithin m f → IsFormulaWithin n f
form-later m n h form.Yes w = tt
form-later m n h form.No w = tt
form-later m n h (form.Eq t u) w = (omega arith, omega arith)
form-later m n h (form.Ne t u) w = (omega arith, omega arith)
form-later m n h (form.Le t u) w = (omega arith, omega arith)
form-later m n h (form.Lt t u) w = (omega arith, omega arith)
form-later m n h (form.And p q) w = (form-later m n h p w.0, form-later m n h q w.1)
form-later m n h (form.Or p q) w = (form-later m n h p w.0, form-later m n h q w.1)

pub form_kept : (v w : TableValue) → AddsTerms v w → (f : NumberedFormula) → IsFormulaWithin (length (trees_in v)) f → IsFormulaWithin (length (trees_in w)) f
form_kept v w grows f within =
    let long = ap length grows.trees.1 ∙ length-append (trees_in v) grows.trees.0 in
    form-later (length (trees_in v)) (length (trees_in w)) (omega arith) f within

-- a formula that was made over the store of a later table
pub formed-more : (u v : TableValue) → AddsTerms u v → (s : SymStore) → IsStoreWithin (length (trees_in u)) s → (c : Condition) → form_of c (store_in (trees_in v) s) ≡ form_of c (store_in (trees_in u) s)
formed-more u v grows s within c = ap (form_of c) (store-more u v grows s within)

-- the contrary has the same terms
pub contrary_within : (count : ℕ) (f : NumberedFormula) → IsFormulaWithin count f → IsFormulaWithin count (contrary f)
contrary_within count form.Yes w = tt
contrary_within count form.No w = tt
contrary_within count (form.Eq t u) w = w
contrary_within count (form.Ne t u) w = w
contrary_within count (form.Le t u) w = (w.1, w.0)
contrary_within count (form.Lt t u) w = (w.1, w.0)
contrary_within count (form.And p q) w = (contrary_within count p w.0, contrary_within count q w.1)
contrary_within count (form.Or p q) w = (contrary_within count p w.0, contrary_within count q w.1)
