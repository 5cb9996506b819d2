-- Private: the row of one term, by what was numbered before.
use Rattle.std.specs.Prelude.{◌≡◌, ℕ, ◌+◌, ◌<◌, ℤ, IsTrue, List, length, map, slice_get, Some}
use Rattle.sm_term.specs.RowLaws.{Contents}
use Rattle.sm_term.specs.Terms.{Tree}
use Rattle.sm_term.specs.Heads.{arguments_of}
use Rattle.sm_term.specs.Fitting.{term_fits}
use Rattle.sm_term.specs.Tables.{TableValue, trees_in, sorts_in, codes_in, tree_in, IsTermWithin}
use Rattle.sm_term.specs.declared.term.Term.{Term}
use Rattle.sm_cc.specs.declared.row.Row.{Row}
use Rattle.sm_cc.specs.declared.ground.Numbering.{Numbering}
use Rattle.sm_cc.specs.Numbered.{StandApart, heads_met, parts_met, head_of, IsHeadAt, IsShapeAt}
use Rattle.sm_pairs.specs.Longer.{IsLonger}
use Rattle.sm_cc.specs.Standing.{place_of, element_of}

-- a term of a table that has a tree
pub record HasTree (table : TableValue) (term : Term) (t : Tree) : Type 0 where
  pub place : ℕ
  pub inside : place < length (trees_in table)
  pub within : IsTermWithin (sorts_in table) (length (codes_in table)) place term
  pub fits : IsTrue (term_fits (sorts_in table) (trees_in table) term)
  pub tree : tree_in (codes_in table) (trees_in table) term ≡ t

-- a row knows what there is to know of a term; its head and its parts have numbers in these lists
pub record IsRowOf (table : TableValue) (terms : List Tree) (heads : List Contents)
    (parts : List (List (ℕ × ℤ))) (t : Tree) (r : Row) : Type 0 where
  pub term : Term
  pub tree : HasTree table term t
  pub arguments : r.arguments.items ≡ map (place_of terms) (arguments_of t)
  pub element : r.element ≡ element_of terms t
  pub head : IsHeadAt heads (head_of term) r.head
  pub shape : IsShapeAt (sorts_in table) (trees_in table) parts t r.shape

-- the heads and the parts that were met are others with more behind them, and stay apart
pub record IsFurther (old new : Numbering) : Type 0 where
  pub heads : IsLonger (heads_met old.heads) (heads_met new.heads)
  pub parts : IsLonger (parts_met old.shapes) (parts_met new.shapes)
  pub heads_apart : StandApart (heads_met old.heads) → StandApart (heads_met new.heads)
  pub parts_apart : StandApart (parts_met old.shapes) → StandApart (parts_met new.shapes)

-- rows are those of the terms from a place on, by what heads and forms are numbered by
abbrev pub AreRowsFrom : TableValue → List Tree → Numbering → ℕ → List Row → Type 0
AreRowsFrom table terms n from rows =
    (i : ℕ) (r : Row) (t : Tree) → slice_get rows i ≡ Some r → slice_get terms (from + i) ≡ Some t →
    IsRowOf table terms (heads_met n.heads) (parts_met n.shapes) t r
