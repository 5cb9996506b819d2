-- Private: classes of places with the log of how they were found.
use Rattle.std.specs.Prelude.{◌≡◌, ℕ, ◌==◌, ◌≤◌, Bool, IsTrue, slice_get, slice_index, length, Option, Some, None, List, [], map}
pub use Rattle.sm_cc.specs.declared.log.Given.{Given}
pub use Rattle.sm_cc.specs.declared.log.Equation.{Equation}
use Rattle.sm_cc.specs.declared.log.Contrary.{Contrary}
pub use Rattle.sm_cc.specs.declared.closure.Closure.{Closure}
use Rattle.sm_cc.specs.Classes.{if_there}
use Rattle.sm_cc.specs.Rows.{Board, one_head, equal_places, Row}
use Rattle.sm_cc.specs.Log.{Placed, IsGivenAs, SayEqual, AllFollow, known_at, Known, Equal, Unequal, Entry}

-- the places of a given pair
abbrev pub pair_of : Given → ℕ × ℕ
pair_of g = (g.left, g.right)

-- the number under which a pair was given
abbrev pub fact_of : Given → ℕ
fact_of g = g.fact

-- a pair is in a list of given ones, under a number
abbrev pub GivenHere : List Given → ℕ → ℕ → ℕ → Type 0
GivenHere list fact i j =
    IsGivenAs (map pair_of list) (map fact_of list) fact i j

-- the board of classes
abbrev pub board_of : Closure → Board
board_of c = record {
  rows = c.rows.items;
  equal = map pair_of c.equal.items;
  unequal = map pair_of c.unequal.items;
}

-- what is seen of classes
abbrev pub placed_of : Closure → Placed
placed_of c = record {
  board = board_of c;
  equal_facts = map fact_of c.equal.items;
  unequal_facts = map fact_of c.unequal.items;
}

-- whether two places have one label
abbrev pub are_together : List Equation → ℕ → ℕ → Bool
are_together roots i j =
    if_there (slice_get roots i) (λ (r : Equation). if_there (slice_get roots j) (λ (s : Equation).
    r.right == s.right))

-- an entry says a fact
abbrev pub Noted : List Entry → ℕ → Known → Type 0
Noted entries n known = known_at entries n ≡ Some known

-- an entry says an equation
abbrev pub IsNoted : Closure → Equation → Type 0
IsNoted c e = Noted c.entries.items e.entry (Equal e.left e.right)

-- an entry says a contrary
abbrev pub IsContrary : Closure → Contrary → Type 0
IsContrary c e = Noted c.entries.items e.entry (Unequal e.left e.right)

-- entries say that each place equals its label
abbrev pub AllRooted : List Entry → List Equation → Type 0
AllRooted entries roots =
    (i : ℕ) (r : Equation) → slice_get roots i ≡ Some r →
    (r.left ≡ i) × Noted entries r.entry (Equal r.left r.right)

-- what the log and the labels say follows from what is given
pub record IsSound (c : Closure) : Type 0 where
  pub follow : AllFollow (placed_of c) c.entries.items
  pub rooted : AllRooted c.entries.items c.roots.items
  pub count : length c.roots.items ≡ length c.rows.items

-- entries are added, and labels may change
pub record Grows (before after : Closure) : Type 0 where
  pub rows : after.rows ≡ before.rows
  pub equal : after.equal ≡ before.equal
  pub unequal : after.unequal ≡ before.unequal
  pub kept : (n : ℕ) (k : Known) → Noted before.entries.items n k → Noted after.entries.items n k
  pub longer : length before.entries.items ≤ length after.entries.items
  pub sound : IsSound after

-- an entry says a fact, and entries may have been added
pub record Adds (before after : Closure) (n : ℕ) (known : Known) : Type 0 where
  pub grows : Grows before after
  pub roots : after.roots ≡ before.roots
  pub noted : Noted after.entries.items n known

-- an entry says that two places are equal, and entries may have been added
pub record AddsEquation (before after : Closure) (e : Equation) (i j : ℕ) : Type 0 where
  pub adds : Adds before after e.entry (Equal i j)
  pub left : e.left ≡ i
  pub right : e.right ≡ j

-- an entry says that two places aren't equal, and entries may have been added
pub record AddsContrary (before after : Closure) (e : Contrary) (i j : ℕ) : Type 0 where
  pub adds : Adds before after e.entry (Unequal i j)
  pub left : e.left ≡ i
  pub right : e.right ≡ j

-- the arguments of a row
abbrev pub arguments_in : Option Row → List ℕ
arguments_in None = []
arguments_in (Some r) = r.arguments.items

-- the arguments of the row at a place
abbrev pub arguments_at : Closure → ℕ → List ℕ
arguments_at c i = arguments_in (slice_get c.rows.items i)

-- argument k of the row at a place
abbrev pub argument_at : Closure → ℕ → ℕ → ℕ
argument_at c i k = slice_index (arguments_at c i) k

-- entries are added that say in order that places are equal
pub record AddsPremises (before after : Closure) (ns is js : List ℕ) : Type 0 where
  pub grows : Grows before after
  pub roots : after.roots ≡ before.roots
  pub say : SayEqual (Noted after.entries.items) ns is js

-- two rows of one head have arguments in the same classes
pub record HaveArguments (c : Closure) (i j : ℕ) : Type 0 where
  pub first : Row
  pub second : Row
  pub at_first : slice_get c.rows.items i ≡ Some first
  pub at_second : slice_get c.rows.items j ≡ Some second
  pub head : IsTrue (one_head first second)
  pub arguments :
      let equal = are_together c.roots.items in
      IsTrue (equal_places equal first.arguments.items second.arguments.items)
