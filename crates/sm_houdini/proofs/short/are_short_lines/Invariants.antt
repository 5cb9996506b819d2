-- The lines so far are short.
use Rattle.sm_houdini.proofs.Imports.{List, take, Tree, Certificate, lines_before, IsShort}
use Rattle.sm_houdini.proofs.short.are_short_lines.Given as goal

abbrev pub invariant-loop-line : goal.invariant-loop-line
invariant-loop-line l =
    (trees : List Tree) (c : Certificate) → IsShort c → IsShort (lines_before trees (take l.line-index l.lines) c)
