-- Private: classes of terms and of the places at which they stand.
use Rattle.std.specs.Prelude.{◌≡◌, ℕ, Bool, not, if◌then◌else◌, slice_get, Some, List, map}
use Rattle.std.specs.List.{filter}
use Rattle.sm_term.specs.Tables.{trees_in, sorts_in}
use Rattle.sm_cc.specs.declared.log.Given.{Given}
use Rattle.sm_cc.specs.declared.row.Row.{Row}
use Rattle.sm_cc.specs.Standing.{RowsStand, board_for}
use Rattle.sm_cc.specs.Positions.{ArePositions, place_at, Positions}
use Rattle.sm_cc.specs.Log.{Placed}
use Rattle.sm_cc.specs.Exact.{with_equal, with_unequal}
use Rattle.sm_cc.specs.Views.{ClassesValue, setting_of, IsOfTwoTerms, GivenFact}

-- the numbers of the given facts that pass a test
abbrev pub numbers_where : (GivenFact → Bool) → List GivenFact → List ℕ
numbers_where test given = map (λ (g : GivenFact). g.number) (filter test given)

-- the places of what is given of terms that have these rows
abbrev pub placed_for : ClassesValue → List Row → Placed
placed_for v rows = record {
  board = board_for (setting_of v) rows;
  equal_facts = numbers_where (λ (g : GivenFact). g.are_equal) v.given;
  unequal_facts = numbers_where (λ (g : GivenFact). not g.are_equal) v.given;
}

-- a given fact by the places of its terms
abbrev pub placed_fact : Positions → GivenFact → Given
placed_fact p g =
    record { fact = g.number; left = place_at p g.left.0; right = place_at p g.right.0 }

-- the equations among given facts, by the places of their terms
abbrev pub placed_equations : Positions → List GivenFact → List Given
placed_equations p given =
    map (placed_fact p) (filter (λ (g : GivenFact). g.are_equal) given)

-- the contraries among them
abbrev pub placed_contraries : Positions → List GivenFact → List Given
placed_contraries p given =
    map (placed_fact p) (filter (λ (g : GivenFact). not g.are_equal) given)

-- a fact is given of two places, last of all
abbrev pub with_fact : Placed → GivenFact → ℕ → ℕ → Placed
with_fact v g i j =
    if g.are_equal then with_equal v g.number i j else with_unequal v g.number i j

-- positions tell the places of terms, rows stand for the terms, and the same is given of both
pub record AreClasses (v : ClassesValue) (positions : Positions) (places : Placed) : Type 0 where
  pub positions_tell : ArePositions (trees_in v.table) (setting_of v).terms positions
  pub rows_stand : RowsStand (sorts_in v.table) (setting_of v).terms places.board.rows
  pub given_of_both : places ≡ placed_for v places.board.rows
  pub of_two_terms : (n : ℕ) (g : GivenFact) → slice_get v.given n ≡ Some g → IsOfTwoTerms v g
