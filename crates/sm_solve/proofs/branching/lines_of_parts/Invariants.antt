-- The lines so far, and behind them those of the formulas that are left, are those that are wanted.
use Rattle.sm_solve.proofs.Imports.{◌≡◌, ◌≤◌, ◌-◌, ◌++◌, ℕ, List, length, map, drop, Tree, line_in, AreLinesWithin, both_lines, all_numbered}
use Rattle.sm_solve.proofs.branching.lines_of_parts.Given as goal

abbrev pub invariant-loop-at : goal.invariant-loop-at
invariant-loop-at l = record {
  inside : l.at ≤ length l.facts;
  lines : (trees : List Tree) →
      map (line_in trees) l.lines.items ++ both_lines l.at (drop l.at (all_numbered l.facts))
      ≡ both_lines l.fn.from (drop l.fn.from (all_numbered l.facts));
  within : (count : ℕ) → AreLinesWithin count l.lines.items;
}

abbrev pub decreases-loop-at : goal.decreases-loop-at
decreases-loop-at l = length l.facts - l.at
