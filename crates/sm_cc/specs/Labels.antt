-- Cited by public clauses: labels that tell classes.
use Rattle.std.specs.Prelude.{◌≡◌, ◌↔◌, ℕ, List, Some, length, slice_get}
use Rattle.sm_term.specs.Tables.{trees_in, tree_at}
use Rattle.sm_term.specs.declared.term.TermId.{TermId}
use Rattle.sm_cc.specs.Classes.{Same}
use Rattle.sm_cc.specs.Rows.{Board, SamePlaces}
use Rattle.sm_cc.specs.Views.{ClassesValue, setting_of}

-- a label for each place: two places have one exactly where they are in one class
pub record AreLabels (b : Board) (labels : List ℕ) : Type 0 where
  pub count : length labels ≡ length b.rows
  pub each :
      (i j l m : ℕ) → slice_get labels i ≡ Some l → slice_get labels j ≡ Some m →
      (l ≡ m) ↔ SamePlaces b i j

-- a label for each term of classes: two terms have one exactly where they are in one class
pub record AreTermLabels (v : ClassesValue) (labels : List ℕ) : Type 0 where
  pub count : length labels ≡ length v.terms
  pub each :
      (i j l m : ℕ) (t u : TermId) → slice_get v.terms i ≡ Some t → slice_get v.terms j ≡ Some u →
      slice_get labels i ≡ Some l → slice_get labels j ≡ Some m →
      (l ≡ m)
      ↔ Same (setting_of v) (tree_at (trees_in v.table) t.0) (tree_at (trees_in v.table) u.0)
