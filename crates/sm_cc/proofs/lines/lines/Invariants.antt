-- The lines of the first steps.
use Rattle.sm_cc.proofs.Imports.{◌≡◌, List, map, take, Tree, line_in, step_line, AreLinesOf}
use Rattle.sm_cc.specs.Views.{trees_of}
use Rattle.sm_cc.proofs.lines.lines.Given as goal

abbrev pub invariant-loop-k : goal.invariant-loop-k
invariant-loop-k l =
    AreLinesOf l.terms l.lines.items
    × ((trees : List Tree) → map (line_in trees) l.lines.items ≡ map (step_line (trees_of trees l.terms)) (take l.k l.steps))
