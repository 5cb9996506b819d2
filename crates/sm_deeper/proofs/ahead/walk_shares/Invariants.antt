-- The table has no fewer terms.
use Rattle.sm_term.specs.TableLaws.{ExtendsTable}
use Rattle.sm_deeper.proofs.ahead.walk_shares.Given as goal

abbrev pub invariant-loop-share : goal.invariant-loop-share
invariant-loop-share l = ExtendsTable l.initial.table l.table
