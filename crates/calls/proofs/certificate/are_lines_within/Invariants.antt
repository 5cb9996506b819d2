-- The lines from here on decide.
use Rattle.calls.proofs.Imports.{drop, length, trees_in, AreLinesWithin}
use Rattle.calls.proofs.certificate.are_lines_within.Given as goal

abbrev pub invariant-loop-line : goal.invariant-loop-line
invariant-loop-line l =
    AreLinesWithin (length (trees_in l.scene.table)) (drop l.line-index l.lines)
    → AreLinesWithin (length (trees_in l.scene.table)) l.lines
