-- Cited by public clauses: what one look tells of terms behind those of others.
use Rattle.std.specs.Prelude.{◌≡◌, ◌⊎◌, ℕ, false, List, Some, length, slice_get}
use Rattle.sm_term.specs.Tables.{trees_in, tree_at}
use Rattle.sm_term.specs.declared.term.TermId.{TermId}
use Rattle.sm_cc.specs.Classes.{Same}
use Rattle.sm_cc.specs.Views.{ClassesValue, setting_of, GivenFact}

-- a label for each term of classes: terms that have one are in one class
pub record AreEqualByLabels (v : ClassesValue) (labels : List ℕ) : Type 0 where
  pub count : length labels ≡ length v.terms
  pub each :
      (i j l : ℕ) (t u : TermId) → slice_get v.terms i ≡ Some t → slice_get v.terms j ≡ Some u →
      slice_get labels i ≡ Some l → slice_get labels j ≡ Some l →
      Same (setting_of v) (tree_at (trees_in v.table) t.0) (tree_at (trees_in v.table) u.0)

-- two facts say the same of the same terms
abbrev pub IsSameFact : GivenFact → GivenFact → Type 0
IsSameFact f g = (f.are_equal ≡ g.are_equal) × (f.left ≡ g.left) × (f.right ≡ g.right)

-- a fact was given before, but for its number
abbrev pub IsGivenBefore : List GivenFact → GivenFact → Type 0
IsGivenBefore old g =
    (n : ℕ) × (f : GivenFact) × (slice_get old n ≡ Some f) × IsSameFact f g

-- a fact says that the two terms of a pair aren't equal
abbrev pub IsContraryOf : List (TermId × TermId) → GivenFact → Type 0
IsContraryOf apart g =
    (g.are_equal ≡ false) × ((n : ℕ) × (slice_get apart n ≡ Some (g.left, g.right)))

-- what is given was given before, or says that the two terms of a pair aren't equal
abbrev pub AddsOnly : List GivenFact → List (TermId × TermId) → List GivenFact → Type 0
AddsOnly old apart new =
    (n : ℕ) (g : GivenFact) → slice_get new n ≡ Some g → IsGivenBefore old g ⊎ IsContraryOf apart g
