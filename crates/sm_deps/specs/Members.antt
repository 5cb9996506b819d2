-- For private clauses alone: sets of names as tests.
use Rattle.std.specs.Prelude.{◌≡◌, ℕ, ◌==◌, Bool, true, ◌||◌}
use Rattle.std.specs.BTreeSet.{BTreeSet, contains}
use Rattle.std.specs.Ordering.{nat_cmp}

-- whether a set has a name
unfoldable pub members : BTreeSet ℕ → ℕ → Bool
members set x = contains nat_cmp set x

-- whether a name is this one
unfoldable pub only : ℕ → ℕ → Bool
only y x = x == y

-- whether a name is in one of two sets
unfoldable pub either : (ℕ → Bool) → (ℕ → Bool) → ℕ → Bool
either first second x = first x || second x

-- each name of the first set is in the second
abbrev pub Below : (ℕ → Bool) → (ℕ → Bool) → Type 0
Below first second = (x : ℕ) → first x ≡ true → second x ≡ true
