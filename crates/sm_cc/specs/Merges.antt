-- Private: two classes become one, as places get other labels.
use Rattle.std.specs.Prelude.{◌≡◌, ◌≢◌, ℕ, ◌==◌, ◌<◌, ◌≤◌, ◌⊎◌, IsTrue, if◌then◌else◌, slice_get, Some, List}
use Rattle.sm_cc.specs.Closures.{IsNoted, Grows, AddsEquation, are_together, Closure, Equation}

-- a place has a label
abbrev pub IsLabel : List Equation → ℕ → ℕ → Type 0
IsLabel roots i l = (r : Equation) → slice_get roots i ≡ Some r → l ≡ r.right

-- an equation is added of the label of the left side and the right side
pub record AddsSome (before after : Closure) (r e : Equation) : Type 0 where
  pub adds : AddsEquation before after r r.left e.right
  pub label : IsLabel before.roots.items e.left r.left

-- entries are added that end with the equation of the labels of both sides
pub record Bridges (before after : Closure) (b e : Equation) : Type 0 where
  pub grows : Grows before after
  pub roots : after.roots ≡ before.roots
  pub noted : IsNoted after b
  pub left : IsLabel before.roots.items e.left b.left
  pub right : IsLabel before.roots.items e.right b.right

-- an equation stays, or is turned
pub record Orients (before after : Closure) (r b : Equation) : Type 0 where
  pub grows : Grows before after
  pub roots : after.roots ≡ before.roots
  pub noted : IsNoted after r
  pub sides : ((r.left ≡ b.left) × (r.right ≡ b.right)) ⊎ ((r.left ≡ b.right) × (r.right ≡ b.left))

-- entries are added that end with the equation of the labels of both sides, one way or the other
pub record Crosses (before after : Closure) (r e : Equation) : Type 0 where
  pub grows : Grows before after
  pub roots : after.roots ≡ before.roots
  pub noted : IsNoted after r
  pub sides :
      (IsLabel before.roots.items e.left r.left × IsLabel before.roots.items e.right r.right)
      ⊎ (IsLabel before.roots.items e.left r.right × IsLabel before.roots.items e.right r.left)

-- the label that takes the place of another
abbrev pub relabelled : Equation → ℕ → ℕ
relabelled b l = if l == b.left then b.right else l

-- the root at a place gets the label that takes the place of its own
abbrev pub IsRelabelled : List Equation → List Equation → Equation → ℕ → Type 0
IsRelabelled before after b i =
    (r : Equation) → slice_get before i ≡ Some r →
    (s : Equation) × (slice_get after i ≡ Some s) × (s.right ≡ relabelled b r.right)

-- one place may get another label
pub record MovesRoot (before after : Closure) (b : Equation) (k : ℕ) : Type 0 where
  pub grows : Grows before after
  pub moved : IsRelabelled before.roots.items after.roots.items b k
  pub others : (i : ℕ) → i ≢ k → slice_get after.roots.items i ≡ slice_get before.roots.items i

-- the places before this one may have got other labels
pub record MovesBelow (before after : Closure) (b : Equation) (k : ℕ) : Type 0 where
  pub grows : Grows before after
  pub moved : (i : ℕ) → i < k → IsRelabelled before.roots.items after.roots.items b i
  pub rest : (i : ℕ) → k ≤ i → slice_get after.roots.items i ≡ slice_get before.roots.items i

-- all places may get other labels
pub record MovesRoots (before after : Closure) (b : Equation) : Type 0 where
  pub grows : Grows before after
  pub moved : (i : ℕ) → IsRelabelled before.roots.items after.roots.items b i

-- places that were in one class still are
abbrev pub IsCoarser : List Equation → List Equation → Type 0
IsCoarser before after =
    (i j : ℕ) → IsTrue (are_together before i j) → IsTrue (are_together after i j)
