-- The table has no fewer terms.
use Rattle.sm_term.specs.TableLaws.{ExtendsTable}
use Rattle.sm_deeper.proofs.end_jobs.take_all.Given as goal

abbrev pub invariant-loop-end : goal.invariant-loop-end
invariant-loop-end l = ExtendsTable l.initial.table l.table
