-- The table grows with each turn.
use Rattle.sm_term.proofs.TablesLemmas.{grows-twice}
use Rattle.sm_observed.proofs.clauses.put_values_of.Goals as goal

pub loop-x-preserved : goal.loop-x-preserved
loop-x-preserved c = grows-twice c.args.table.now c.loop-x.table c.put_values_at.new.table c.loop-x.invariant c.put_values_at.ensures

pub returns-in_err-put_values_at : goal.returns-in_err-put_values_at
returns-in_err-put_values_at c = grows-twice c.args.table.now c.loop-x.table c.put_values_at.new.table c.loop-x.invariant c.put_values_at.ensures
