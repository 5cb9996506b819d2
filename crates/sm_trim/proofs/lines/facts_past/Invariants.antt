-- The facts after all lines are those after the lines from here on.
use Rattle.sm_trim.proofs.Imports.{◌≡◌, List, drop, Tree, facts_past}
use Rattle.sm_trim.proofs.lines.facts_past.Given as goal

abbrev pub invariant-loop-line : goal.invariant-loop-line
invariant-loop-line l =
    (trees : List Tree) → facts_past trees l.at l.lines ≡ facts_past trees l.past (drop l.line-index l.lines)
