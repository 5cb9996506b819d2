-- Stores that get their values name by name and element by element, from 0 on. No public clause
-- cites it.
use Rattle.std.specs.Prelude.{◌≡◌, ◌≢◌, ◌⊎◌, ◌↔◌, ℕ, ℤ, Option, Some, unwrap_or, List}
use Rattle.std.specs.List.{Contains}
use Rattle.sm_syntax.specs.claim.Stores.{Value, array, Store}

-- a name that has 0, or the value already, gets the value; the others stay
pub record GivesValue (zero value : Value) (x : ℕ) (old new : Store) : Type 0 where
  pub here : (old x ≡ zero) ⊎ (old x ≡ value) → new x ≡ value
  pub others : (y : ℕ) → y ≢ x → new y ≡ old y

-- the list has an index with a number where that is given, and nothing else
abbrev pub Lists : (ℤ → Option ℤ) → List (ℤ × ℤ) → Type 0
Lists given list = (i z : ℤ) → (given i ≡ Some z) ↔ Contains list (i, z)

-- an array gets the elements that are given, and keeps its others; so do the other names
pub record Overrides (given : ℤ → Option ℤ) (a : ℕ) (old new : Store) : Type 0 where
  pub elements : (i : ℤ) → array (new a) i ≡ unwrap_or (given i) (array (old a) i)
  pub others : (y : ℕ) → y ≢ a → new y ≡ old y
