-- Cited by public clauses: classes that others begin with, whose terms go behind these.
use Rattle.std.specs.Prelude.{◌≡◌, ℕ, ◌<◌, Option, Some, None, List, [], ◌∷◌, length, slice_get}
use Rattle.sm_term.specs.Terms.{Tree}
use Rattle.sm_term.specs.Tables.{TableValue, trees_in, AreBefore}
use Rattle.sm_term.specs.TableLaws.{AddsTerms}
use Rattle.sm_cc.specs.declared.row.Row.{Row}
use Rattle.sm_cc.specs.declared.row.Element.{Element}
use Rattle.sm_cc.specs.declared.ground.BaseClasses.{BaseClasses}
use Rattle.sm_cc.specs.declared.ground.Numbering.{Numbering}
use Rattle.sm_cc.specs.Numbered.{StandApart, heads_met, parts_met}
use Rattle.sm_pairs.specs.Longer.{IsLonger}
use Rattle.sm_cc.specs.RowOf.{IsRowOf}
use Rattle.sm_cc.specs.Views.{ClassesValue, trees_of}
use Rattle.sm_cc.specs.Closures.{placed_of, are_together}
use Rattle.sm_cc.specs.Firsts.{AreFirsts, met_at, alike_at, headed_at}
use Rattle.sm_cc.specs.Exact.{IsExact}
use Rattle.sm_cc.specs.Assumed.{AreClasses}

-- numbers are below a bound
abbrev pub AreBelow : ℕ → List ℕ → Type 0
AreBelow bound [] = Unit {0}
AreBelow bound (n ∷ ns) = (n < bound) × AreBelow bound ns

-- the places that an element names are below a bound
abbrev pub IsElementBelow : ℕ → Option Element → Type 0
IsElementBelow bound None = Unit {0}
IsElementBelow bound (Some e) =
    (e.index < bound) × (e.written < bound) × (e.other < bound) × (e.before < bound)

-- what a row names stands below a bound
abbrev pub IsRowBelow : ℕ → Row → Type 0
IsRowBelow bound r = AreBelow bound r.arguments.items × IsElementBelow bound r.element

-- rows name one another alone
abbrev pub AreInside : List Row → Type 0
AreInside rows = (i : ℕ) (r : Row) → slice_get rows i ≡ Some r → IsRowBelow (length rows) r

-- a place is in one class with the first that has its key, by the maps of keys
pub record AreKeyed (g : BaseClasses) : Type 0 where
  pub alike :
      AreFirsts (alike_at g.closure) (are_together g.closure.roots.items) (met_at g.alike)
      (length g.closure.rows.items)
  pub headed :
      AreFirsts (headed_at g.closure) (are_together g.closure.roots.items) (met_at g.headed)
      (length g.closure.rows.items)

-- rows are those of terms of a table, by what heads and forms are numbered by
pub record AreNumberedBy (table : TableValue) (terms : List Tree) (rows : List Row) (n : Numbering)
    : Type 0 where
  pub heads_apart : StandApart (heads_met n.heads)
  pub parts_apart : StandApart (parts_met n.shapes)
  pub each :
      (i : ℕ) (r : Row) (t : Tree) → slice_get rows i ≡ Some r → slice_get terms i ≡ Some t →
      IsRowOf table terms (heads_met n.heads) (parts_met n.shapes) t r

-- these are the classes of terms by all that is given of them
pub record AreBaseClasses (v : ClassesValue) (g : BaseClasses) (n : Numbering) : Type 0 where
  pub before : AreBefore (length (trees_in v.table)) v.terms
  pub classes : AreClasses v g.positions (placed_of g.closure)
  pub exact : IsExact g.closure
  pub keyed : AreKeyed g
  pub inside : AreInside g.closure.rows.items
  pub numbered : AreNumberedBy v.table (trees_of (trees_in v.table) v.terms) g.closure.rows.items n

-- each given fact is given too
abbrev pub AreAllGiven : {A : Type 0} → List A → List A → Type 0
AreAllGiven {A} old new =
    (n : ℕ) (g : A) → slice_get old n ≡ Some g → (m : ℕ) × (slice_get new m ≡ Some g)

-- classes have the terms of others with more behind them, and all that is given of those
pub record IsLedBy (old new : ClassesValue) : Type 0 where
  pub table : AddsTerms old.table new.table
  pub terms : IsLonger old.terms new.terms
  pub given : AreAllGiven old.given new.given
