-- What is left of the lines from here on.
use Rattle.sm_trim.proofs.Imports.{◌≤◌, ℕ, List, length, take, drop, Tree, Certificate, lines_before, pruned, facts_past, Leaves}
use Rattle.sm_trim.proofs.pruning.prune_lines.Given as goal

abbrev pub invariant-loop-i : goal.invariant-loop-i
invariant-loop-i l = record {
  within : l.i ≤ length l.lines;
  left : (trees : List Tree) (at : ℕ) (c : Certificate) →
      Leaves trees (facts_past trees at l.lines) (pruned (facts_past trees at l.lines) c) l.fn.below →
      Leaves trees (facts_past trees at (take l.i l.lines))
      (pruned (facts_past trees at (take l.i l.lines)) (lines_before trees (drop l.i l.lines) c)) l.left;
}

abbrev pub decreases-loop-i : goal.decreases-loop-i
decreases-loop-i l = l.i
