-- Before a block: the statements from i on were gone over. Before turns: some rounds were made.
use Rattle.sm_deps.proofs.Imports.{◌+◌, ◌-◌, ◌*◌, ◌^◌, ◌≤◌, max, length, map, drop, End, sequence, statement_of, code_of, size-Stmt, size-Block, GoesOver, members}
use Rattle.sm_deps.proofs.LoopsExact.{Turns}
use Rattle.sm_deps.proofs.backward.+before.Given as goal

abbrev pub decreases-before_block : goal.decreases-before_block
decreases-before_block l = 3 * size-Block l.b.now

abbrev pub decreases-before_stmt : goal.decreases-before_stmt
decreases-before_stmt l = 3 * size-Stmt l.s.now

abbrev pub decreases-before_choice : goal.decreases-before_choice
decreases-before_choice l = 3 * max (size-Block l.c.now) (size-Block l.d.now) + 1

abbrev pub decreases-before_loop : goal.decreases-before_loop
decreases-before_loop l = 3 * size-Block l.c.now + 2

abbrev pub decreases-before_turns : goal.decreases-before_turns
decreases-before_turns l = 3 * size-Block l.c.now + 1

abbrev pub invariant-before_block-loop-i : goal.invariant-before_block-loop-i
invariant-before_block-loop-i l = record {
  within : l.i ≤ length l.b.list.items;
  over : GoesOver (sequence (map statement_of (drop l.i l.b.list.items)) End) (members l.fn.names) (members l.names) l.fn.loops l.loops;
}

abbrev pub decreases-before_block-loop-i : goal.decreases-before_block-loop-i
decreases-before_block-loop-i l = l.i

abbrev pub invariant-before_turns-loop-more : goal.invariant-before_turns-loop-more
invariant-before_turns-loop-more l = Turns (code_of l.c) (members l.fn.names) (members l.names) l.fn.loops l.loops

abbrev pub decreases-before_turns-loop-more : goal.decreases-before_turns-loop-more
decreases-before_turns-loop-more l = 2 ^ 63 - length l.names.keys
