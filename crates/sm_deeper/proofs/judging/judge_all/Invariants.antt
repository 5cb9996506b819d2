-- The table has no fewer terms.
use Rattle.sm_term.specs.TableLaws.{ExtendsTable}
use Rattle.sm_deeper.proofs.judging.judge_all.Given as goal

abbrev pub invariant-loop-left : goal.invariant-loop-left
invariant-loop-left l = ExtendsTable l.initial.table l.table

abbrev pub decreases-loop-left : goal.decreases-loop-left
decreases-loop-left l = l.left
