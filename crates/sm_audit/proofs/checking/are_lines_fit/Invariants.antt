-- The lines from here on decide.
use Rattle.sm_audit.proofs.Imports.{drop, AreLinesFit}
use Rattle.sm_audit.proofs.checking.are_lines_fit.Given as goal

abbrev pub invariant-loop-line : goal.invariant-loop-line
invariant-loop-line l = AreLinesFit l.since l.node (drop l.line-index l.lines) → AreLinesFit l.since l.node l.lines
