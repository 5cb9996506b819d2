-- None of the bytes so far ends the line.
use Rattle.sm_replies.proofs.Imports.{◌≡◌, ◌++◌, drop, take, first_line}
use Rattle.sm_replies.proofs.batch_lines.first_line.Given as goal

abbrev pub invariant-bytes : goal.invariant-bytes
invariant-bytes l = take l.i l.text ++ first_line (drop l.i l.text) ≡ first_line l.text
