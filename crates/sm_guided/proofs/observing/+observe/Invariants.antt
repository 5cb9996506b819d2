use Rattle.std.proofs.Common.{◌≡◌, ◌+◌, ◌*◌, drop, map}
use Rattle.sm_eval.specs.StoredValues.{sorts_of}
use Rattle.sm_syntax.specs.claim.Syntax.{End}
use Rattle.sm_syntax.specs.text.Sorts.{IsWellSorted}
use Rattle.sm_syntax.specs.trees.Views.{sequence, statement_of}
use Rattle.sm_syntax.specs.declared.tree.Stmt.{size-Stmt}
use Rattle.sm_syntax.specs.declared.tree.Block.{size-Block}
use Rattle.sm_guided.proofs.observing.+observe.Given as goal

abbrev pub decreases-run_block : goal.decreases-run_block
decreases-run_block l = 2 * size-Block l.b.now

abbrev pub decreases-run_stmt : goal.decreases-run_stmt
decreases-run_stmt l = 2 * size-Stmt l.t.now

abbrev pub decreases-run_loop : goal.decreases-run_loop
decreases-run_loop l = 2 * size-Block l.b.now + 1

-- what is left of the block may be run
abbrev pub invariant-run_block-loop-t : goal.invariant-run_block-loop-t
invariant-run_block-loop-t l = record {
  sorts : sorts_of l.s ≡ sorts_of l.fn.s;
  sorted : IsWellSorted (sorts_of l.s) (sequence (map statement_of (drop l.t-index l.t-items)) End);
}

-- no turn changes a sort
abbrev pub invariant-run_loop-loop-left : goal.invariant-run_loop-loop-left
invariant-run_loop-loop-left l = sorts_of l.s ≡ sorts_of l.fn.s

abbrev pub decreases-run_loop-loop-left : goal.decreases-run_loop-loop-left
decreases-run_loop-loop-left l = l.left
