use Rattle.sm_drawing.proofs.Imports.{◌≡◌, ◌+◌, ◌*◌, drop, map, sorts_of, End, IsWellSorted, sequence, statement_of, size-Stmt, size-Block}
use Rattle.sm_drawing.proofs.running.+run.Given as goal

abbrev pub decreases-run_all : goal.decreases-run_all
decreases-run_all l = 2 * size-Block l.b.now

abbrev pub decreases-run_one : goal.decreases-run_one
decreases-run_one l = 2 * size-Stmt l.t.now

abbrev pub decreases-run_loop : goal.decreases-run_loop
decreases-run_loop l = 2 * size-Block l.b.now + 1

-- what is left of the block may be run
abbrev pub invariant-run_all-loop-t : goal.invariant-run_all-loop-t
invariant-run_all-loop-t l = record {
  sorts : sorts_of l.s ≡ sorts_of l.fn.s;
  sorted : IsWellSorted (sorts_of l.s) (sequence (map statement_of (drop l.t-index l.t-items)) End);
}

-- no turn changes a sort
abbrev pub invariant-run_loop-loop-left : goal.invariant-run_loop-loop-left
invariant-run_loop-loop-left l = sorts_of l.s ≡ sorts_of l.fn.s

abbrev pub decreases-run_loop-loop-left : goal.decreases-run_loop-loop-left
decreases-run_loop-loop-left l = l.left
