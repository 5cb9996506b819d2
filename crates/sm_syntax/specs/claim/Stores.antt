-- Values and stores, over all whole numbers. Public clauses cite them.
-- An array may be any function of its index, so there are more stores here than a program can hold.
use Rattle.std.specs.Prelude.{ℕ, ℤ, pos, ◌==◌, if◌then◌else◌}
use Rattle.std.specs.Ordering.{int_eq}

-- what a name may have: a whole number, or an array with a whole number at each index
pub data Value : Type 0 where
  Number : ℤ → Value
  Array : (ℤ → ℤ) → Value

-- the whole number of a value, 0 for an array
abbrev pub number : Value → ℤ
number (Number z) = z
number (Array f) = pos 0

-- the array of a value, zero everywhere for a number
abbrev pub array : Value → ℤ → ℤ
array (Number z) i = pos 0
array (Array f) i = f i

-- the value 0
abbrev pub zero_value : Value
zero_value = Number (pos 0)

-- a store: the value of each name
abbrev pub Store : Type 0
Store = ℕ → Value

-- the store with a new value of x
abbrev pub put : Store → ℕ → Value → Store
put s x v y = if y == x then v else s y

-- the array with a new number at index i
abbrev pub with_element : (ℤ → ℤ) → ℤ → ℤ → ℤ → ℤ
with_element f i z j = if int_eq j i then z else f j
