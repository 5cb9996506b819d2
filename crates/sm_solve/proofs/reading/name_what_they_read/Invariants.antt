-- The lines so far do.
use Rattle.std.proofs.Common.{take}
use Rattle.sm_solve.proofs.ReadingLemmas.{LeadTo}
use Rattle.sm_solve.proofs.reading.name_what_they_read.Given as goal

abbrev pub invariant-loop-line : goal.invariant-loop-line
invariant-loop-line l = LeadTo (take l.line-index l.lines)
