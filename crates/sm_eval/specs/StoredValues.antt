-- The store that a program's store stands for. Public clauses cite it.
-- With the sorts of its names.
use Rattle.std.specs.Prelude.{ℕ, ℤ, Option, Some, None, List, slice_index_or}
use Rattle.sm_syntax.specs.claim.Stores as plain
use Rattle.sm_syntax.specs.text.Sorts.{Sorts}
use Rattle.sm_syntax.specs.declared.tree.Sort.{Sort}
use Rattle.sm_syntax.specs.declared.tree.Sort.TheVariants.{Num, Arr}
pub use Rattle.sm_eval.specs.declared.stored_value.StoredValue.{StoredValue}
pub use Rattle.sm_eval.specs.declared.stored_value.StoredValue.TheVariants.{Absent, Array, Number}
use Rattle.sm_eval.specs.declared.store.Store.{Store}
use Rattle.sm_eval.specs.Cells.{listed}

-- the value that is stored
abbrev pub held : StoredValue → plain.Value
held Absent = plain.zero_value
held (Number z) = plain.Number z
held (Array cells) = plain.Array (listed cells)

-- the sort of its name, none where the name isn't declared
abbrev pub sort : StoredValue → Option Sort
sort Absent = None
sort (Number z) = Some Num
sort (Array cells) = Some Arr

-- what is stored for a name, at the name's number
abbrev pub stored_value_of : List StoredValue → ℕ → StoredValue
stored_value_of stored x = slice_index_or stored x Absent

-- the store that stored values stand for
abbrev pub values : List StoredValue → plain.Store
values stored x = held (stored_value_of stored x)

-- the sorts of the names of stored values
abbrev pub sorts : List StoredValue → Sorts
sorts stored x = sort (stored_value_of stored x)

-- the store that a program's store stands for
unfoldable pub meaning : Store → plain.Store
meaning s = values s.stored.items

-- the sorts of its names
unfoldable pub sorts_of : Store → Sorts
sorts_of s = sorts s.stored.items

-- the store with a new number at an index of an array
abbrev pub with_cell : plain.Store → ℕ → ℤ → ℤ → plain.Store
with_cell s a i z = plain.put s a (plain.Array (plain.with_element (plain.array (s a)) i z))
