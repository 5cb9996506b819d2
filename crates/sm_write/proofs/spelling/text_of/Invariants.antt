-- The lines so far and those that are left are all of them.
use Rattle.sm_write.proofs.Imports.{◌≡◌, ◌++◌, drop, map, bytes_of}
use Rattle.sm_proof.specs.Lines.{line_of}
use Rattle.sm_write.proofs.spelling.text_of.Given as goal

abbrev pub invariant-loop-line : goal.invariant-loop-line
invariant-loop-line l = l.text.items ++ bytes_of (map line_of (drop l.line-index l.lines)) ≡ bytes_of (map line_of l.lines)
