-- Where what is left is well sorted, so is the whole block.
use Rattle.sm_drawing.proofs.Imports.{drop, map, sorts_of, End, IsWellSorted, sequence, statement_of, code_of}
use Rattle.sm_drawing.proofs.sorted.+sorted.Given as goal

abbrev pub invariant-is_block_sorted-loop-t : goal.invariant-is_block_sorted-loop-t
invariant-is_block_sorted-loop-t l =
    IsWellSorted (sorts_of l.s) (sequence (map statement_of (drop l.t-index l.t-items)) End) → IsWellSorted (sorts_of l.s) (code_of l.b)
