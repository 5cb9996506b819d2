use Rattle.sm_term.proofs.Imports.{◌≡◌, ℕ, drop, sort_of, declared_of}
use Rattle.sm_syntax.proofs.Repeats.{sorted_numbers, sorts_after}
use Rattle.sm_term.proofs.table.sorts_of.Given as goal

abbrev pub invariant-loop-d : goal.invariant-loop-d
invariant-loop-d l = (x : ℕ) → sort_of (declared_of l.decls) x ≡ sorts_after l.sorts.entries (sorted_numbers (drop l.d-index l.d-items)) x
