-- Cited by public clauses: the symbolic store that a list of terms stands for.
use Rattle.std.specs.Prelude.{ℕ, Option, Some, None, List, slice_get}
pub use Rattle.sm_term.specs.declared.symbolic.SymStore.{SymStore}
use Rattle.sm_term.specs.Terms.{Tree, Start}
use Rattle.sm_term.specs.Symbolic.{SymbolicStore}
use Rattle.sm_term.specs.Tables.{tree_at, AreBefore, TermId}

-- the tree of a number, or else the start of a name
abbrev pub tree_or_start : List Tree → ℕ → Option TermId → Tree
tree_or_start trees x None = Start x
tree_or_start trees x (Some t) = tree_at trees t.0

-- the symbolic store: the list has the terms of the first names, and each other name has its start
abbrev pub store_in : List Tree → SymStore → SymbolicStore
store_in trees s x = tree_or_start trees x (slice_get s.list.items x)

-- the numbers of a store are those of terms
abbrev pub IsStoreWithin : ℕ → SymStore → Type 0
IsStoreWithin count s = AreBefore count s.list.items
