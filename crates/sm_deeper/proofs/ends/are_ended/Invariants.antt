-- The table has no fewer terms.
use Rattle.sm_term.specs.TableLaws.{ExtendsTable}
use Rattle.sm_deeper.proofs.ends.are_ended.Given as goal

abbrev pub invariant-loop-at : goal.invariant-loop-at
invariant-loop-at l = ExtendsTable l.initial.table l.table
