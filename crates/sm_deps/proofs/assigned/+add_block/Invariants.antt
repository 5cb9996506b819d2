-- The names so far, with those of the statements that are left, are those of the start with the block's.
use Rattle.sm_deps.proofs.Imports.{◌≡◌, map, drop, assigns, End, sequence, statement_of, code_of, members, either}
use Rattle.sm_deps.proofs.assigned.+add_block.Given as goal

abbrev pub invariant-add_block-loop-s : goal.invariant-add_block-loop-s
invariant-add_block-loop-s l =
    either (members l.fn.names) (assigns (code_of l.b)) ≡ either (members l.names)
    (assigns (sequence (map statement_of (drop l.s-index l.s-items)) End))
