use Rattle.sm_eval.proofs.Imports.{◌≡◌, ◌+◌, ◌*◌, drop, map, truth_of, turns, run, IsWellSorted, End, condition_of, sequence, statement_of, code_of, size-Stmt, turns_event, event, meaning, sorts_of}
use Rattle.sm_syntax.specs.declared.tree.Block.{size-Block}
use Rattle.sm_eval.proofs.runs.+run.Given as goal

abbrev pub decreases-run_block : goal.decreases-run_block
decreases-run_block l = 2 * size-Block l.b.now

abbrev pub decreases-run_stmt : goal.decreases-run_stmt
decreases-run_stmt l = 2 * size-Stmt l.t.now

abbrev pub decreases-run_loop : goal.decreases-run_loop
decreases-run_loop l = 2 * size-Block l.b.now + 1

-- what happens in the block from its start is what happens in the rest from here
abbrev pub invariant-run_block-loop-t : goal.invariant-run_block-loop-t
invariant-run_block-loop-t l = record {
  sorts : sorts_of l.s ≡ sorts_of l.fn.s;
  sorted : IsWellSorted (sorts_of l.s) (sequence (map statement_of (drop l.t-index l.t-items)) End);
  events : event l.turns (code_of l.b) (meaning l.fn.s) ≡ event l.turns (sequence (map statement_of (drop l.t-index l.t-items)) End)
      (meaning l.s);
  ends : run l.turns (code_of l.b) (meaning l.fn.s) ≡ run l.turns (sequence (map statement_of (drop l.t-index l.t-items)) End)
      (meaning l.s);
}

-- what happens in all turns is what happens in those that are left
abbrev pub invariant-run_loop-loop-left : goal.invariant-run_loop-loop-left
invariant-run_loop-loop-left l =
    let c = condition_of l.c in
    let b = code_of l.b in
    record {
      sorts : sorts_of l.s ≡ sorts_of l.fn.s;
      events : turns_event c (event l.turns b) (run l.turns b) l.turns (meaning l.fn.s) ≡ turns_event c (event l.turns b)
          (run l.turns b) l.left (meaning l.s);
      ends : turns (truth_of c) (run l.turns b) l.turns (meaning l.fn.s) ≡ turns (truth_of c) (run l.turns b) l.left (meaning l.s);
    }

abbrev pub decreases-run_loop-loop-left : goal.decreases-run_loop-loop-left
decreases-run_loop-loop-left l = l.left
