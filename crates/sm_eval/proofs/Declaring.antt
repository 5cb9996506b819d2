-- The sorts of names, some of which have stored values, where the others are declared after them.
use Rattle.sm_eval.proofs.Imports.{◌≡◌, ℕ, Option, List, Sort, sort_of, stored_value_of, sorts, StoredValue}
use Rattle.std.specs.Option.{option_or}
use Rattle.sm_syntax.specs.declared.tree.Name.{Name}
use Rattle.sm_syntax.proofs.Repeats.{sorted_numbers}

-- stored values that agree at each name
abbrev pub Agree : List StoredValue → List StoredValue → Type 0
Agree old new = (x : ℕ) → stored_value_of new x ≡ stored_value_of old x

-- the sorts of declarations, where those of stored values go first
abbrev pub sorts_after : List StoredValue → List (Name × Sort) → ℕ → Option Sort
sorts_after stored rest x = option_or (sorts stored x) (sort_of (sorted_numbers rest) x)
