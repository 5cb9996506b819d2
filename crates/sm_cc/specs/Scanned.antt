-- Private: places behind those of a base, and what one look at each tells.
use Rattle.std.specs.Prelude.{◌≡◌, ◌⊎◌, ℕ, ◌+◌, ◌-◌, ◌<◌, ◌≤◌, Bool, true, false, ◌&&◌, ◌||◌, IsTrue, Option, Some, None, List, ◌++◌, length, slice_get, take}
use Rattle.std.specs.List.{list_any}
use Rattle.sm_theory.specs.Lines.{followed}
use Rattle.sm_cc.specs.declared.ground.BaseClasses.{BaseClasses}
use Rattle.sm_cc.specs.declared.behind.Scanned.{Scanned}
use Rattle.sm_cc.specs.Rows.{Board, PlacePairs, ArePlacesClosed, is_listed, places_apart, Row, Element}
use Rattle.sm_cc.specs.Closures.{board_of, are_together, Closure, Equation}
use Rattle.sm_cc.specs.Firsts.{Keyed, AreFirsts, met_at, shape_key, row_key, label_at}
use Rattle.sm_cc.specs.BaseClasses.{AreBelow}
use Rattle.sm_cc.specs.Regrounding.{over_at}

-- places with more behind them, of which all is given that is given of the first
pub record IsBehind (c : Closure) (more : List Row) (b : Board) : Type 0 where
  pub rows : b.rows ≡ c.rows.items ++ more
  pub equal :
      (i j : ℕ) → IsTrue (is_listed (board_of c).equal i j) → IsTrue (is_listed b.equal i j)
  pub unequal :
      (i j : ℕ) → IsTrue (is_listed (board_of c).unequal i j) → IsTrue (is_listed b.unequal i j)

-- each place equals its label, whatever more is given
abbrev pub AreRootsSo : Closure → List Row → List Equation → Type 0
AreRootsSo c more roots =
    (b : Board) (equal : PlacePairs) → IsBehind c more b → ArePlacesClosed b equal →
    (i : ℕ) (r : Equation) → slice_get roots i ≡ Some r → IsTrue (equal i r.right)

-- how many places have labels when a place is looked at: the first ones have theirs at once
abbrev pub seen : ℕ → ℕ → ℕ
seen first i = first + (i - first)

-- the key of a place by its linear form
abbrev pub alike_in : List Row → ℕ → Option Keyed
alike_in rows i = followed (slice_get rows i) (λ (r : Row). shape_key r.shape)

-- the key of a place by its head and the labels that its arguments have when it is looked at
abbrev pub headed_in : ℕ → List Row → List Equation → ℕ → Option Keyed
headed_in first rows roots i = followed (slice_get rows i) (row_key (take (seen first i) roots))

-- any two places
abbrev pub any_two : ℕ → ℕ → Bool
any_two i j = true

-- two places have one key
abbrev pub HaveOneKey : (ℕ → Option Keyed) → ℕ → ℕ → Type 0
HaveOneKey key place j = (k : Keyed) × (key place ≡ Some k) × (key j ≡ Some k)

-- no place before this one has its key
abbrev pub IsKeyNew : (ℕ → Option Keyed) → ℕ → Type 0
IsKeyNew key place = (j : ℕ) (k : Keyed) → j < place → key place ≡ Some k → key j ≡ Some k → ⊥

-- a place before this one has its key, or this one is met, whose key is new
pub record IsMetFor (key : ℕ → Option Keyed) (place j : ℕ) : Type 0 where
  pub itself : j ≡ place → IsKeyNew key place
  pub other : (j ≡ place → ⊥) → (j < place) × HaveOneKey key place j

-- a label is that of a place, which isn't this one
abbrev pub IsLabelOf : List Equation → ℕ → ℕ → ℕ → Type 0
IsLabelOf roots place j label =
    ((j ≡ place → ⊥) × (label_at (slice_get roots j) ≡ Some label))

-- the label of a place that was met for one of two keys, or its own
abbrev pub IsLabelFor : List Equation → ℕ → ℕ → ℕ → ℕ → Type 0
IsLabelFor roots place i j label =
    IsLabelOf roots place i label ⊎ (IsLabelOf roots place j label ⊎ (label ≡ place))

-- each place from one on is its own label, names places before it, and has keys of its own
pub record AreNew (first : ℕ) (rows : List Row) (roots : List Equation) : Type 0 where
  pub own : (i : ℕ) (r : Equation) → first ≤ i → slice_get roots i ≡ Some r → r.right ≡ i
  pub below :
      (i : ℕ) (r : Row) → first ≤ i → i < length roots → slice_get rows i ≡ Some r →
      AreBelow i r.arguments.items
  pub alike : (i : ℕ) → first ≤ i → i < length roots → IsKeyNew (alike_in rows) i
  pub headed : (i : ℕ) → first ≤ i → i < length roots → IsKeyNew (headed_in first rows roots) i

-- what is known of the places that were looked at
pub record AreLooked (g : BaseClasses) (more : List Row) (s : Scanned) : Type 0 where
  pub begins : take (length g.closure.rows.items) s.roots.items ≡ g.closure.roots.items
  pub so : AreRootsSo g.closure more s.roots.items
  pub alike :
      AreFirsts (alike_in (g.closure.rows.items ++ more)) any_two
      (over_at (met_at g.alike) (met_at s.alike)) (length s.roots.items)
  pub headed :
      AreFirsts
      (headed_in (length g.closure.rows.items) (g.closure.rows.items ++ more) s.roots.items) any_two
      (over_at (met_at g.headed) (met_at s.headed)) (length s.roots.items)
  pub new :
      IsTrue s.are_new →
      AreNew (length g.closure.rows.items) (g.closure.rows.items ++ more) s.roots.items

-- whether two places have the labels of the two of a pair, in either order
abbrev pub has_labels : List Equation → ℕ → ℕ → ℕ × ℕ → Bool
has_labels roots i j p =
    (are_together roots p.0 i && are_together roots p.1 j)
    || (are_together roots p.0 j && are_together roots p.1 i)

-- whether two places have the labels of the two of some pair
abbrev pub are_parted : List Equation → List (ℕ × ℕ) → ℕ → ℕ → Bool
are_parted roots apart i j = list_any (has_labels roots i j) apart

-- that the two of these pairs aren't equal brings nothing more of an element that is read at a
-- place: the place equals what is read of the array before, or no pair has the labels of the two
-- indices
abbrev pub IsQuiet : Closure → List Equation → List (ℕ × ℕ) → ℕ → Option Element → Type 0
IsQuiet c roots apart i None = Unit {0}
IsQuiet c roots apart i (Some e) =
    IsTrue (are_together c.roots.items i e.before)
    ⊎ (are_parted roots apart e.index e.other ≡ false)

-- no rule brings anything of an element that is read behind those of classes: its indices are among
-- their places, and are neither equal nor known apart
abbrev pub IsQuietBehind : Closure → List Equation → List (ℕ × ℕ) → Option Element → Type 0
IsQuietBehind c roots apart None = Unit {0}
IsQuietBehind c roots apart (Some e) =
    (e.index < length c.rows.items)
    × (e.other < length c.rows.items)
    × (are_together c.roots.items e.index e.other ≡ false)
    × (places_apart (board_of c) (are_together c.roots.items) e.index e.other ≡ false)
    × (are_parted roots apart e.index e.other ≡ false)

-- no rule brings anything more of any element
pub record AreQuiet (c : Closure) (more : List Row) (roots : List Equation) (apart : List (ℕ × ℕ))
    : Type 0 where
  pub old : (i : ℕ) (r : Row) → slice_get c.rows.items i ≡ Some r → IsQuiet c roots apart i r.element
  pub new : (i : ℕ) (r : Row) → slice_get more i ≡ Some r → IsQuietBehind c roots apart r.element
