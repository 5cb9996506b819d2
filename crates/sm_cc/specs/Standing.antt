-- Private: rows that stand for the terms of a list.
use Rattle.std.specs.Prelude.{◌≡◌, ℕ, suc, ℤ, Bool, if◌then◌else◌, slice_get, Option, Some, None, List, [], ◌∷◌, length, map}
use Rattle.sm_syntax.specs.text.Sorts.{Sorts}
use Rattle.sm_term.specs.Terms.{Tree, Read}
use Rattle.sm_term.specs.SameTerms.{same_tree}
use Rattle.sm_term.specs.Heads.{arguments_of, same_head}
use Rattle.sm_theory.specs.Elements.{Written, written_in, read_in}
use Rattle.sm_theory.specs.Arithmetic.{compared_forms}
use Rattle.sm_term.specs.Assertions.{Assertion}
use Rattle.sm_theory.specs.Lines.{followed, Sides, equal_sides, unequal_sides}
use Rattle.sm_cc.specs.Classes.{Setting}
use Rattle.sm_cc.specs.Rows.{one_head, shapes_pass, Board, Row, Element}

-- the place of a term in a list, the list's length where it isn't there
abbrev pub place_of : List Tree → Tree → ℕ
place_of [] t = 0
place_of (u ∷ us) t = if same_tree u t then 0 else suc (place_of us t)

-- the element that a term reads from an array after one was written, by places
abbrev pub element_of : List Tree → Tree → Option Element
element_of terms t =
    followed (read_in t) (λ (r : Tree × Tree).
    followed (written_in r.0) (λ (w : Written). Some (record {
      index = place_of terms w.index;
      written = place_of terms w.element;
      other = place_of terms r.1;
      before = place_of terms (Read w.before r.1);
    })))

-- rows know what there is to know of the terms with their places
pub record RowsStand (sorts : Sorts) (terms : List Tree) (rows : List Row) : Type 0 where
  pub count : length rows ≡ length terms
  pub arguments :
      (i : ℕ) (r : Row) (t : Tree) → slice_get rows i ≡ Some r → slice_get terms i ≡ Some t →
      r.arguments.items ≡ map (place_of terms) (arguments_of t)
  pub element :
      (i : ℕ) (r : Row) (t : Tree) → slice_get rows i ≡ Some r → slice_get terms i ≡ Some t →
      r.element ≡ element_of terms t
  pub heads :
      (i j : ℕ) (r s : Row) (t u : Tree) → slice_get rows i ≡ Some r → slice_get terms i ≡ Some t →
      slice_get rows j ≡ Some s → slice_get terms j ≡ Some u → one_head r s ≡ same_head t u
  pub shapes :
      (i j : ℕ) (r s : Row) (t u : Tree) (test : ℤ → ℤ → Bool) →
      slice_get rows i ≡ Some r → slice_get terms i ≡ Some t →
      slice_get rows j ≡ Some s → slice_get terms j ≡ Some u →
      shapes_pass r s test ≡ compared_forms sorts t u test

-- the places of two sides go before others
abbrev pub with_places : List Tree → Option Sides → List (ℕ × ℕ) → List (ℕ × ℕ)
with_places terms None rest = rest
with_places terms (Some s) rest = (place_of terms s.left, place_of terms s.right) ∷ rest

-- the places of the sides of formulas
abbrev pub places_given : List Tree → (Assertion → Option Sides) → List Assertion → List (ℕ × ℕ)
places_given terms sides [] = []
places_given terms sides (f ∷ fs) = with_places terms (sides f) (places_given terms sides fs)

-- the rows of terms, and the places of what is given
abbrev pub board_for : Setting → List Row → Board
board_for s rows = record {
  rows = rows;
  equal = places_given s.terms equal_sides s.given;
  unequal = places_given s.terms unequal_sides s.given;
}
