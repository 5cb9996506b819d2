-- The lines so far, and those that are left, from their number on.
use Rattle.sm_replies.proofs.Imports.{◌≡◌, ◌+◌, ◌++◌, drop, numbered, lines_of, texts}
use Rattle.sm_replies.proofs.batch_lines.numbered.Given as goal

abbrev pub invariant-lines : goal.invariant-lines
invariant-lines l =
    (l.number ≡ l.line-index + 1)
    × (l.text.items ++ numbered l.number (texts (lines_of (drop l.line-index l.lines))) ≡ numbered 1 (texts (lines_of l.lines)))
