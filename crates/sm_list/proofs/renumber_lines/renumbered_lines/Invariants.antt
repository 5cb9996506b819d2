use Rattle.sm_list.proofs.Imports.{take, AreLinesUnder}
use Rattle.sm_list.proofs.renumber_lines.renumbered_lines.Given as goal

abbrev pub invariant-loop-line : goal.invariant-loop-line
invariant-loop-line l = AreLinesUnder l.numbers (take l.line-index l.lines) l.list.items
