use Rattle.sm_syntax.proofs.Imports.{◌≡◌, drop, map, nat_eq, get, first_sort_fault, names_used, End, sequence, statement_of, code_of}
use Rattle.sm_syntax.proofs.checks.+check_block.Given as goal

abbrev pub invariant-check_block-loop-s : goal.invariant-check_block-loop-s
invariant-check_block-loop-s l =
    first_sort_fault (get nat_eq l.sorts) (names_used (code_of l.b)) ≡ first_sort_fault (get nat_eq l.sorts) (names_used (sequence (map statement_of (drop l.s-index l.s-items)) End))
