-- Private: the rules bring nothing more of some places.
use Rattle.std.specs.Prelude.{◌≡◌, ℕ, ◌<◌, IsTrue, Bool, ◌||◌, ◌&&◌, slice_get, length, Some}
use Rattle.std.specs.Ordering.{int_eq}
use Rattle.sm_cc.specs.Rows.{Board, PlacePairs, rows_pass, shapes_pass, one_head, equal_places, row_brings, Element}
use Rattle.sm_cc.specs.Log.{HasElement}
use Rattle.sm_cc.specs.Closures.{Grows, are_together, board_of, Closure, Given}

-- what the rules bring of two places is so
abbrev pub IsSettledAt : ℕ → ℕ → Closure → Type 0
IsSettledAt i j c =
    let equal = are_together c.roots.items in
    IsTrue (row_brings (board_of c) equal i j) → IsTrue (equal i j)

-- what the rules bring of two places that are there is so
abbrev pub IsSettledThere : ℕ → ℕ → Closure → Type 0
IsSettledThere i j c = i < length c.rows.items → j < length c.rows.items → IsSettledAt i j c

-- what the rules bring of the two places of a given pair is so
abbrev pub IsGivenSettled : ℕ → Closure → Type 0
IsGivenSettled n c =
    (g : Given) → slice_get c.equal.items n ≡ Some g → IsSettledThere g.left g.right c

-- what the rules bring of the two places of each given pair is so
abbrev pub AreGivenSettled : Closure → Type 0
AreGivenSettled c = (n : ℕ) → n < length c.equal.items → IsGivenSettled n c

-- what the rules bring of a place with what was written, and with what stood before, is so
abbrev pub IsReadSettled : Element → ℕ → Closure → Type 0
IsReadSettled e i c = IsSettledThere i e.written c × IsSettledThere i e.before c

-- what the rules bring of an element that is read at a place is so
abbrev pub IsElementSettled : ℕ → Closure → Type 0
IsElementSettled i c = (e : Element) → HasElement c.rows.items i e → IsReadSettled e i c

-- what the rules bring of each element that is read is so
abbrev pub AreElementsSettled : Closure → Type 0
AreElementsSettled c = (i : ℕ) → i < length c.rows.items → IsElementSettled i c

-- what the rules bring of given pairs and of elements that are read is so
abbrev pub AreSinglesSettled : Closure → Type 0
AreSinglesSettled c = AreGivenSettled c × AreElementsSettled c

-- whether two places are equal by their forms or their arguments
abbrev pub pair_brings : Board → PlacePairs → ℕ → ℕ → Bool
pair_brings b equal i j =
    rows_pass b.rows i j (λ r s. shapes_pass r s int_eq)
    || rows_pass b.rows i j (λ r s.
    one_head r s && equal_places equal r.arguments.items s.arguments.items)

-- such places are in one class
abbrev pub ArePairSettled : ℕ → ℕ → Closure → Type 0
ArePairSettled i j c =
    let equal = are_together c.roots.items in
    IsTrue (pair_brings (board_of c) equal i j) → IsTrue (equal i j)

-- a place is in one class with each before it that is equal to it by forms or by arguments
abbrev pub ArePairsSettled : ℕ → Closure → Type 0
ArePairsSettled i c = (j : ℕ) → j < i → ArePairSettled i j c

-- any two places that are equal by their forms or by their arguments are in one class
abbrev pub AllPairsSettled : Closure → Type 0
AllPairsSettled c = (i : ℕ) → i < length c.rows.items → ArePairsSettled i c

-- what the rules bring of any two places is so
abbrev pub AreSettled : Closure → Type 0
AreSettled c =
    (i : ℕ) → i < length c.rows.items → (j : ℕ) → j < length c.rows.items → IsSettledAt i j c

-- entries are added, or else nothing changes and all is settled
pub record Tries (settled : Closure → Type 0) (before after : Closure) : Type 0 where
  pub grows : Grows before after
  pub quiet :
      length after.entries.items ≡ length before.entries.items →
      (after ≡ before) × settled before
