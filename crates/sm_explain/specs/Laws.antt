-- Laws of places and of clauses. Public clauses cite it.
use Rattle.std.specs.Prelude.{◌≡◌, ◌↔◌, ℕ, ℤ, true, List}
use Rattle.sm_syntax.specs.claim.Keeps.{Keeps, KeepsChange, AddsNothing}
use Rattle.sm_explain.specs.declared.places.Place.{Place}
use Rattle.sm_explain.specs.Places.{IsPlace}
use Rattle.sm_explain.specs.Rows.{agree, loses_change, adds_change}

-- an offset of a text has one place
abbrev pub PlaceIsOne : Type 0
PlaceIsOne =
    (text : List ℕ) (offset : ℕ) (p q : Place) → IsPlace text offset p → IsPlace text offset q
    → p ≡ q

-- words are said exactly where their clause fails, and where four values are one none does
pub record ClausesFail (base a b candidate : ℤ) : Type 0 where
  pub of_a : (loses_change base a candidate ≡ true) ↔ (¬ KeepsChange base a candidate)
  pub of_b : (loses_change base b candidate ≡ true) ↔ (¬ KeepsChange base b candidate)
  pub no_other : (adds_change base a b candidate ≡ true) ↔ (¬ AddsNothing base a b candidate)
  pub agreed : agree base a b candidate ≡ true → Keeps base a b candidate
