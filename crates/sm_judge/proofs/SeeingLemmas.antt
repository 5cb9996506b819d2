-- Formulas over a table are the same exactly where their numbers are.
use Rattle.sm_judge.proofs.Imports.{◌≡◌, ◌==◌, ◌<◌, Bool, true, false, ◌&&◌, ◌||◌, List, [], ◌∷◌, length, refl, sym, ap, ◌∙◌, list_any, Sorts, Tree, tree_at, AreApart, same_tree, same_sort, tree_sort, NumberedFormula, assertion_in, IsFormulaWithin, same_tree_is, same_sort_is, numbers_tell, same_formula, assertions_in, AreFormulasWithin, same_numbered}
use Rattle.std.proofs.Common.{ℕ}
use Rattle.sm_term.specs.Formulas.{Yes, No, Eq, Ne, Le, Lt, And, Or}

module _ (sorts : Sorts) (trees : List Tree) (apart : AreApart trees) where
  -- two terms
  two : (t u v w : ℕ) → (t < length trees) × (u < length trees) → (v < length trees) × (w < length trees) →
      ((t == v) && (u == w)) ≡ (same_tree (tree_at trees t) (tree_at trees v) && same_tree (tree_at trees u) (tree_at trees w))
  two t u v w h k =
      ap (λ (b : Bool). b && (u == w)) (numbers_tell trees apart t v h.0 k.0)
      ∙ ap (λ (b : Bool). same_tree (tree_at trees t) (tree_at trees v) && b) (numbers_tell trees apart u w h.1 k.1)

  -- the sort of the left side tells nothing more
  sorted : (t v : Tree) (rest : Bool) → (same_sort (tree_sort sorts t) (tree_sort sorts v) && (same_tree t v && rest)) ≡ (same_tree t v && rest)
  sorted t v rest = by (same_tree t v) refl
    where
      and_false : (b : Bool) → (b && false) ≡ false
      and_false true = refl
      and_false false = refl

      by : (b : Bool) → same_tree t v ≡ b → (same_sort (tree_sort sorts t) (tree_sort sorts v) && (b && rest)) ≡ (b && rest)
      by true e =
          let same : same_sort (tree_sort sorts t) (tree_sort sorts v) ≡ true =
          (same_sort_is (tree_sort sorts t) (tree_sort sorts v)).1 (ap (tree_sort sorts) ((same_tree_is t v).0 e)) in
          ap (λ (b : Bool). b && rest) same
      by false e = and_false (same_sort (tree_sort sorts t) (tree_sort sorts v))

  pub formulas_tell : (f g : NumberedFormula) → IsFormulaWithin (length trees) f → IsFormulaWithin (length trees) g →
      same_numbered f g ≡ same_formula (assertion_in sorts trees f) (assertion_in sorts trees g)
  formulas_tell (Eq t u) (Eq v w) h k =
      two t u v w h k ∙ sym (sorted (tree_at trees t) (tree_at trees v) (same_tree (tree_at trees u) (tree_at trees w)))
  formulas_tell (Ne t u) (Ne v w) h k =
      two t u v w h k ∙ sym (sorted (tree_at trees t) (tree_at trees v) (same_tree (tree_at trees u) (tree_at trees w)))
  formulas_tell (Le t u) (Le v w) h k = two t u v w h k
  formulas_tell (Lt t u) (Lt v w) h k = two t u v w h k
  formulas_tell (And p q) (And r s) h k =
      ap (λ (b : Bool). b && same_numbered q s) (formulas_tell p r h.0 k.0)
      ∙ ap (λ (b : Bool). same_formula (assertion_in sorts trees p) (assertion_in sorts trees r) && b) (formulas_tell q s h.1 k.1)
  formulas_tell (Or p q) (Or r s) h k =
      ap (λ (b : Bool). b && same_numbered q s) (formulas_tell p r h.0 k.0)
      ∙ ap (λ (b : Bool). same_formula (assertion_in sorts trees p) (assertion_in sorts trees r) && b) (formulas_tell q s h.1 k.1)
  formulas_tell Yes Yes h k = refl
  formulas_tell No No h k = refl
  formulas_tell f g h k = refl

  pub facts_tell : (f : NumberedFormula) → IsFormulaWithin (length trees) f → (fs : List NumberedFormula) → AreFormulasWithin (length trees) fs →
      list_any (same_numbered f) fs ≡ list_any (same_formula (assertion_in sorts trees f)) (assertions_in sorts trees fs)
  facts_tell f h [] k = refl
  facts_tell f h (g ∷ fs) k =
      ap (λ (b : Bool). b || list_any (same_numbered f) fs) (formulas_tell f g h k.0)
      ∙ ap (λ (b : Bool). same_formula (assertion_in sorts trees f) (assertion_in sorts trees g) || b) (facts_tell f h fs k.1)
