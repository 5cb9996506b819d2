-- The literals so far, with those of the statements that are left, are those of the start with the block's.
use Rattle.sm_template.proofs.Imports.{◌≡◌, map, drop, End, sequence, statement_of, code_of, with_literals, literals_used}
use Rattle.sm_template.proofs.literals.+add_block.Given as goal

abbrev pub invariant-add_block-loop-s : goal.invariant-add_block-loop-s
invariant-add_block-loop-s l =
    with_literals l.fn.list.items (literals_used (code_of l.b))
    ≡ with_literals l.list.items (literals_used (sequence (map statement_of (drop l.s-index l.s-items)) End))
