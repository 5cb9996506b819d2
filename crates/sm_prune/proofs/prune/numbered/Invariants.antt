-- The lines so far are put down, and the others are left to be.
use Rattle.sm_prune.proofs.Imports.{◌≡◌, ◌++◌, length, map, reverse, line_of, left_lines, no_numbers, answers_of, lines_told, numbering_of}
use Rattle.sm_prune.proofs.prune.numbered.Given as goal

abbrev pub invariant-loop-next : goal.invariant-loop-next
invariant-loop-next l =
    map line_of l.left.items
    ++ left_lines (numbering_of l.numbers) (answers_of (reverse l.rest.items)) (lines_told (reverse l.rest.items))
    ≡ left_lines no_numbers (answers_of (reverse l.initial.rest.items)) (lines_told (reverse l.initial.rest.items))

abbrev pub decreases-loop-next : goal.decreases-loop-next
decreases-loop-next l = length l.rest.items
