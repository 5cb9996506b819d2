-- What is left of the lines decides for all of them.
use Rattle.sm_replies.proofs.Imports.{◌≡◌, drop, has_status, lines_of, statuses}
use Rattle.sm_replies.proofs.batch_lines.has_status.Given as goal

abbrev pub invariant-lines : goal.invariant-lines
invariant-lines l =
    has_status l.wanted (statuses (lines_of (drop l.line-index l.lines))) ≡ has_status l.wanted (statuses (lines_of l.lines))
