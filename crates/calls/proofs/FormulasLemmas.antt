-- Formulas whose terms are in a table and have the sorts that they need.
use Rattle.calls.proofs.Imports.{◌≡◌, ℕ, ◌<◌, List, [], ◌∷◌, ◌++◌, length, refl, sym, subst, Sorts, Num, Tree, tree_at, IsFormSorted, AreFormsSorted, tree_sort, Formula, all_numbered, assertions_in, AreFormulasWithin}
use Rattle.sm_term.specs.declared.term.TermId.{TermId}
use Rattle.sm_term.specs.TableLaws.{AreTreesSorted}
use Rattle.sm_term.specs.declared.formula.Formula.TheVariants as form
use Rattle.sm_term.specs.Formulas.{numbered, assertion_in, IsFormulaWithin}

-- the formula is sorted over the trees of a table
abbrev pub IsSortedIn : Sorts → List Tree → Formula → Type 0
IsSortedIn sorts trees f = IsFormSorted sorts (assertion_in sorts trees (numbered f))

module _ (sorts : Sorts) (trees : List Tree) (all : AreTreesSorted sorts trees) (f : Formula) (t u : TermId)
    (left : t.0 < length trees) (right : u.0 < length trees) where
  -- an equation of terms of one sort
  pub equal_sorted : f ≡ form.Eq t u → tree_sort sorts (tree_at trees t.0) ≡ tree_sort sorts (tree_at trees u.0) →
      IsSortedIn sorts trees f
  equal_sorted e same = subst (IsSortedIn sorts trees) (sym e) ((all t.0 left, refl), (all u.0 right, sym same))

  -- its contrary
  pub unequal_sorted : f ≡ form.Ne t u → tree_sort sorts (tree_at trees t.0) ≡ tree_sort sorts (tree_at trees u.0) →
      IsSortedIn sorts trees f
  unequal_sorted e same = subst (IsSortedIn sorts trees) (sym e) ((all t.0 left, refl), (all u.0 right, sym same))

  -- a comparison of numbers
  pub at_most_sorted : f ≡ form.Le t u → tree_sort sorts (tree_at trees t.0) ≡ Num → tree_sort sorts (tree_at trees u.0) ≡ Num →
      IsSortedIn sorts trees f
  at_most_sorted e one two = subst (IsSortedIn sorts trees) (sym e) ((all t.0 left, one), (all u.0 right, two))

  -- a strict one
  pub below_sorted : f ≡ form.Lt t u → tree_sort sorts (tree_at trees t.0) ≡ Num → tree_sort sorts (tree_at trees u.0) ≡ Num →
      IsSortedIn sorts trees f
  below_sorted e one two = subst (IsSortedIn sorts trees) (sym e) ((all t.0 left, one), (all u.0 right, two))

-- one formula more
pub within_more : (n : ℕ) (fs : List Formula) (f : Formula) → AreFormulasWithin n (all_numbered fs) → IsFormulaWithin n (numbered f) →
    AreFormulasWithin n (all_numbered (fs ++ f ∷ []))
within_more n [] f before one = (one, tt)
within_more n (g ∷ fs) f before one = (before.0, within_more n fs f before.1 one)

pub sorted_more : (sorts : Sorts) (trees : List Tree) (fs : List Formula) (f : Formula) →
    AreFormsSorted sorts (assertions_in sorts trees (all_numbered fs)) → IsSortedIn sorts trees f →
    AreFormsSorted sorts (assertions_in sorts trees (all_numbered (fs ++ f ∷ [])))
sorted_more sorts trees [] f before one = (one, tt)
sorted_more sorts trees (g ∷ fs) f before one = (before.0, sorted_more sorts trees fs f before.1 one)
