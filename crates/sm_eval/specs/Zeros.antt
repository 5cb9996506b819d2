-- Stores in which each declared name has 0. Public clauses cite `zeros`.
use Rattle.std.specs.Prelude.{◌≡◌, ◌==◌, ℕ, ℤ, pos, if◌then◌else◌, Option, Some, None, List}
use Rattle.std.specs.Option.{option_or}
use Rattle.sm_syntax.specs.claim.Stores.{Value, Number, Array, zero_value, Store}
use Rattle.sm_syntax.specs.text.Sorts.{Sorts}
use Rattle.sm_syntax.specs.declared.tree.Sort.{Sort}
use Rattle.sm_syntax.specs.declared.tree.Sort.TheVariants.{Num, Arr}
use Rattle.sm_eval.specs.StoredValues.{values, sorts, StoredValue}

-- 0 as a number, or at each index of an array
abbrev pub zero_of : Option Sort → Value
zero_of None = zero_value
zero_of (Some Num) = Number (pos 0)
zero_of (Some Arr) = Array (λ (i : ℤ). pos 0)

-- the store of names with these sorts
abbrev pub zeros : Sorts → Store
zeros declared x = zero_of (declared x)

-- stored values that hold 0 alone
abbrev pub AreZero : List StoredValue → Type 0
AreZero stored = (x : ℕ) → values stored x ≡ zero_of (sorts stored x)

-- a name more, which has the sort that it had, or else a new one
abbrev pub Declares : List StoredValue → List StoredValue → ℕ → Sort → Type 0
Declares old new x sort =
    (y : ℕ) → sorts new y ≡ option_or (sorts old y) (if x == y then Some sort else None)
