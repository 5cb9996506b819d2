-- The lines so far are names, and those behind them decide.
use Rattle.sm_answers.proofs.Imports.{◌≡◌, ◌++◌, length, map, lines_in, bad_line, bad_line_after, names_in}
use Rattle.std.specs.String.{string_bytes}
use Rattle.sm_answers.proofs.listing.names_in.Given as goal

abbrev pub invariant-lines : goal.invariant-lines
invariant-lines l =
    (bad_line_after (length l.names.items) (lines_in l.rest).ended (lines_in l.rest).rest ≡ bad_line l.bytes)
    × (map string_bytes l.names.items ++ (lines_in l.rest).ended ≡ names_in l.bytes)

abbrev pub decreases-lines : goal.decreases-lines
decreases-lines l = length l.rest
