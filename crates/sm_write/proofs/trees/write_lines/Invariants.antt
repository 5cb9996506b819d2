-- The lines that are left.
use Rattle.sm_write.proofs.Imports.{drop, LinesLeft, value_of}
use Rattle.sm_write.proofs.trees.write_lines.Given as goal

abbrev pub invariant-loop-line : goal.invariant-loop-line
invariant-loop-line l = LinesLeft l.table (value_of l.fn.w) (value_of l.w) l.lines (drop l.line-index l.lines)
