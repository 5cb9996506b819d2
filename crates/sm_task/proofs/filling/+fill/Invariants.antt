-- What is filled so far, and then the rest filled, is the block filled.
use Rattle.sm_task.proofs.Imports.{◌≡◌, map, drop, fill, fillings_of, End, sequence, statement_of, code_of}
use Rattle.sm_task.proofs.filling.+fill.Given as goal

abbrev pub invariant-fill_block-loop-s : goal.invariant-fill_block-loop-s
invariant-fill_block-loop-s l =
    sequence (map statement_of l.list.items) (fill (fillings_of l.fillings) (sequence (map statement_of (drop l.s-index l.s-items)) End))
    ≡ fill (fillings_of l.fillings) (code_of l.block)
