-- The table has no fewer terms.
use Rattle.sm_term.specs.TableLaws.{ExtendsTable}
use Rattle.sm_deeper.proofs.end_jobs.put_ends.Given as goal

abbrev pub invariant-loop-n : goal.invariant-loop-n
invariant-loop-n l = ExtendsTable l.initial.table l.table
