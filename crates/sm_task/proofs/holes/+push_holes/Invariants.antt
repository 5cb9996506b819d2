use Rattle.sm_task.proofs.Imports.{◌≡◌, ◌++◌, drop, map, holes_of, End, sequence, statement_of, code_of}
use Rattle.sm_task.proofs.holes.+push_holes.Given as goal

abbrev pub invariant-push_holes-loop-s : goal.invariant-push_holes-loop-s
invariant-push_holes-loop-s l =
    l.initial.out.items ++ holes_of (code_of l.b) ≡ l.out.items ++ holes_of (sequence (map statement_of (drop l.s-index l.s-items)) End)
