-- The list, and then the statements that are left, are the list at first and then the block.
use Rattle.sm_task.proofs.Imports.{◌≡◌, map, drop, Code, append, sequence, statement_of, code_of}
use Rattle.sm_task.proofs.filling.append_block.Given as goal

abbrev pub invariant-loop-s : goal.invariant-loop-s
invariant-loop-s l =
    (k : Code) → sequence (map statement_of l.out.items) (sequence (map statement_of (drop l.s-index l.s-items)) k)
    ≡ sequence (map statement_of l.initial.out.items) (append (code_of l.block) k)
