-- Private: the first places that have keys, by which places are found that are equal by their forms or
-- by their arguments.
use Rattle.std.specs.Prelude.{◌≡◌, ◌==◌, ℕ, ◌+◌, ℤ, pos, ◌<◌, Bool, IsTrue, Vec, length, slice_get, Option, Some, None, List, [], ◌∷◌, ◌++◌, ◌&&◌, if◌then◌else◌}
use Rattle.std.specs.Global.{Global}
use Rattle.std.specs.HashMap.{HashMap, get_by}
use Rattle.std.specs.Ordering.{int_eq}
use Rattle.std.specs.Cmp.Lexicographic.{pointwise}
use Rattle.sm_theory.specs.Lines.{followed}
use Rattle.sm_cc.specs.declared.row.Row.{Row}
use Rattle.sm_cc.specs.declared.row.Shape.{Shape}
use Rattle.sm_cc.specs.Closures.{Grows, are_together, board_of, Closure, Equation}
use Rattle.sm_cc.specs.Settled.{pair_brings, ArePairSettled}

-- what is told by a key
abbrev pub Keyed : Type 0
Keyed = List (ℕ × ℤ)

-- a key of the program
abbrev pub Key : Type 0
Key = Vec (ℕ × ℤ) Global

-- whether two parts of keys are equal
abbrev pub same_part : ℕ × ℤ → ℕ × ℤ → Bool
same_part p q = (p.0 == q.0) && int_eq p.1 q.1

-- whether two keys are equal
abbrev pub same_key : Keyed → Keyed → Bool
same_key k l = pointwise same_part k l

-- the first place that has a key that was met
abbrev pub met_at : {S : Type 0} → HashMap Key ℕ S → Keyed → Option ℕ
met_at met k = get_by (λ (v : Key). same_key k v.items) met

-- a place that was met, or a new one where its key is the one that is asked for
abbrev pub first_met : Option ℕ → Keyed → Keyed → ℕ → Option ℕ
first_met (Some j) key k place = Some j
first_met None key k place = if same_key k key then Some place else None

-- a key or none
abbrev pub key_told : Option Key → Option Keyed
key_told None = None
key_told (Some v) = Some v.items

-- the key of a linear form
abbrev pub shape_key : Option Shape → Option Keyed
shape_key None = None
shape_key (Some s) = Some ((s.parts, s.constant) ∷ [])

-- the key of a place by its linear form
abbrev pub alike_at : Closure → ℕ → Option Keyed
alike_at c i = followed (slice_get c.rows.items i) (λ (r : Row). shape_key r.shape)

-- the label that a root tells
abbrev pub label_at : Option Equation → Option ℕ
label_at None = None
label_at (Some r) = Some r.right

-- the labels of places, where each is there
abbrev pub labels_of : List Equation → List ℕ → Option Keyed
labels_of roots [] = Some []
labels_of roots (i ∷ is) =
    followed (label_at (slice_get roots i)) (λ (l : ℕ).
    followed (labels_of roots is) (λ (ls : Keyed). Some ((l, pos 0) ∷ ls)))

-- a key with labels behind it
abbrev pub with_labels : Keyed → Option Keyed → Option Keyed
with_labels key labels = followed labels (λ (ls : Keyed). Some (key ++ ls))

-- the key of a row by its head and the labels of its arguments
abbrev pub row_key : List Equation → Row → Option Keyed
row_key roots r =
    followed r.head (λ (h : ℕ). with_labels ((h, pos 0) ∷ []) (labels_of roots r.arguments.items))

-- the key of the row at a place, by its head and the labels of its arguments
abbrev pub headed_at : Closure → ℕ → Option Keyed
headed_at c i = followed (slice_get c.rows.items i) (row_key c.roots.items)

-- two places with one key are equal by a rule
abbrev pub KeysBring : (ℕ → Option Keyed) → Closure → Type 0
KeysBring key c =
    (i j : ℕ) (k : Keyed) → key i ≡ Some k → key j ≡ Some k →
    IsTrue (pair_brings (board_of c) (are_together c.roots.items) i j)

-- of the places below a bound, each is equal to the first that has its key
pub record AreFirsts
    (key : ℕ → Option Keyed) (equal : ℕ → ℕ → Bool) (met : Keyed → Option ℕ) (bound : ℕ)
    : Type 0 where
  pub stored :
      (v : Key) (j : ℕ) → met v.items ≡ Some j → (j < bound) × (key j ≡ Some v.items)
  pub found :
      (i : ℕ) (k : Keyed) → i < bound → key i ≡ Some k →
      (v : Key) × (v.items ≡ k) × ((j : ℕ) × (met v.items ≡ Some j) × IsTrue (equal i j))

-- entries are added, or else nothing changes and one more place is equal to the first with its key
pub record TriesFirst
    (key : ℕ → Option Keyed) (i : ℕ) (before after : Closure)
    (old new : Keyed → Option ℕ) : Type 0 where
  pub grows : Grows before after
  pub quiet :
      length after.entries.items ≡ length before.entries.items →
      (after ≡ before)
      × (AreFirsts key (are_together before.roots.items) old i →
      AreFirsts key (are_together before.roots.items) new (i + 1))

-- entries are added, or nothing changes and places below a bound equal the first with their key
pub record TriesFirsts
    (key : Closure → ℕ → Option Keyed) (bound : ℕ) (before after : Closure)
    (met : Keyed → Option ℕ) : Type 0 where
  pub grows : Grows before after
  pub quiet :
      length after.entries.items ≡ length before.entries.items →
      (after ≡ before) × AreFirsts (key before) (are_together before.roots.items) met bound

-- what the rules bring of two places is so, where both are there
abbrev pub IsPairThere : ℕ → ℕ → Closure → Type 0
IsPairThere i j c = i < length c.rows.items → j < length c.rows.items → ArePairSettled i j c

-- places with one key are in one class
abbrev pub AreKeysSettled : (Closure → ℕ → Option Keyed) → Closure → Type 0
AreKeysSettled key c =
    (i j : ℕ) (k : Keyed) → i < length c.rows.items → j < length c.rows.items →
    key c i ≡ Some k → key c j ≡ Some k → IsTrue (are_together c.roots.items i j)

-- places of one linear form are in one class
abbrev pub AreAlikeSettled : Closure → Type 0
AreAlikeSettled = AreKeysSettled alike_at

-- places of one head whose arguments are equal are in one class
abbrev pub AreHeadedSettled : Closure → Type 0
AreHeadedSettled = AreKeysSettled headed_at
