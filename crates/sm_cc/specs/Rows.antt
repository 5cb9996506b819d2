-- Private: classes over the places of terms in a list, by what rows know of the terms.
use Rattle.std.specs.Prelude.{ℕ, ◌==◌, ℤ, IsTrue, Bool, true, false, ◌&&◌, ◌||◌, not, ◌<◌, slice_get, List, [], ◌∷◌, length}
use Rattle.std.specs.List.{list_any, range_with_len}
use Rattle.std.specs.Ordering.{int_eq}
pub use Rattle.sm_cc.specs.declared.row.Row.{Row}
use Rattle.sm_cc.specs.declared.row.Shape.{Shape}
pub use Rattle.sm_cc.specs.declared.row.Element.{Element}
use Rattle.sm_cc.specs.Classes.{if_there}

-- which pairs of places are equal
abbrev pub PlacePairs : Type 0
PlacePairs = ℕ → ℕ → Bool

-- the rows of the terms, and what is given of places
pub record Board : Type 0 where
  pub rows : List Row
  pub equal : List (ℕ × ℕ)
  pub unequal : List (ℕ × ℕ)

-- whether a pair is in a list
abbrev pub is_listed : List (ℕ × ℕ) → ℕ → ℕ → Bool
is_listed pairs i j = list_any (λ p. (p.0 == i) && (p.1 == j)) pairs

-- whether the rows at two places are there and pass a test
abbrev pub rows_pass : List Row → ℕ → ℕ → (Row → Row → Bool) → Bool
rows_pass rows i j test =
    if_there (slice_get rows i) (λ (r : Row). if_there (slice_get rows j) (λ (s : Row). test r s))

-- whether two rows have one head
abbrev pub one_head : Row → Row → Bool
one_head r s =
    if_there r.head (λ (h : ℕ). if_there s.head (λ (k : ℕ). h == k))

-- whether two rows have the same parts, with constants that pass a test
abbrev pub shapes_pass : Row → Row → (ℤ → ℤ → Bool) → Bool
shapes_pass r s test =
    if_there r.shape (λ (f : Shape). if_there s.shape (λ (g : Shape).
    (f.parts == g.parts) && test f.constant g.constant))

-- whether two places can't be equal whatever the classes are
abbrev pub places_differ : Board → ℕ → ℕ → Bool
places_differ b i j =
    is_listed b.unequal i j
    || (is_listed b.unequal j i
    || rows_pass b.rows i j (λ r s. shapes_pass r s (λ (y z : ℤ). not (int_eq y z))))

-- whether two places are known apart
abbrev pub places_apart : Board → PlacePairs → ℕ → ℕ → Bool
places_apart b equal i j =
    let all = range_with_len 0 (length b.rows) in
    list_any (λ p. equal p i && list_any (λ q. equal q j && places_differ b p q) all) all

-- whether two lists of places are equal one by one
abbrev pub equal_places : PlacePairs → List ℕ → List ℕ → Bool
equal_places equal [] [] = true
equal_places equal (i ∷ is) (j ∷ js) = equal i j && equal_places equal is js
equal_places equal is js = false

-- whether places are equal by one rule, where some are already
abbrev pub row_brings : Board → PlacePairs → ℕ → ℕ → Bool
row_brings b equal i j =
    is_listed b.equal i j
    || (rows_pass b.rows i j (λ r s. shapes_pass r s int_eq)
    || (rows_pass b.rows i j (λ r s.
    one_head r s && equal_places equal r.arguments.items s.arguments.items)
    || (rows_pass b.rows i j (λ r s. if_there r.element (λ (e : Element).
    equal e.index e.other && (j == e.written)))
    || rows_pass b.rows i j (λ r s. if_there r.element (λ (e : Element).
    places_apart b equal e.index e.other && (j == e.before))))))

-- pairs of places that are closed
pub record ArePlacesClosed (b : Board) (equal : PlacePairs) : Type 0 where
  pub each : (i : ℕ) → i < length b.rows → IsTrue (equal i i)
  pub turned : (i j : ℕ) → IsTrue (equal i j) → IsTrue (equal j i)
  pub joined : (i j k : ℕ) → IsTrue (equal i j) → IsTrue (equal j k) → IsTrue (equal i k)
  pub brought :
      (i j : ℕ) → i < length b.rows → j < length b.rows → IsTrue (row_brings b equal i j) →
      IsTrue (equal i j)

-- two places are in one class
abbrev pub SamePlaces : Board → ℕ → ℕ → Type 0
SamePlaces b i j = (equal : PlacePairs) → ArePlacesClosed b equal → IsTrue (equal i j)

-- two places are known apart by the classes
abbrev pub ApartPlaces : Board → ℕ → ℕ → Type 0
ApartPlaces b i j =
    (equal : PlacePairs) → ArePlacesClosed b equal → IsTrue (places_apart b equal i j)
