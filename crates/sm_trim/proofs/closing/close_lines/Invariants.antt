-- The lines so far have new numbers, and those of the facts before them are kept.
use Rattle.sm_trim.proofs.Imports.{◌≡◌, ◌≤◌, List, length, take, Tree, lines_before, Pruned, closed_up, left_before}
use Rattle.sm_trim.proofs.closing.close_lines.Given as goal

abbrev pub invariant-loop-i : goal.invariant-loop-i
invariant-loop-i l = record {
  within : l.i ≤ length l.lines;
  kept : take (length l.fn.moved.items) l.moved.items ≡ l.fn.moved.items;
  closed : (trees : List Tree) (p : Pruned) →
      closed_up l.fn.moved.items l.to (left_before trees l.lines p) ≡
      lines_before trees l.list.items (closed_up l.moved.items l.past (left_before trees (take l.i l.lines) p));
}

abbrev pub decreases-loop-i : goal.decreases-loop-i
decreases-loop-i l = l.i
