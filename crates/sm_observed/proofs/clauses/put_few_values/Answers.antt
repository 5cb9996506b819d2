-- The table grows with each turn.
use Rattle.sm_term.proofs.TablesLemmas.{grows-twice}
use Rattle.sm_observed.proofs.clauses.put_few_values.Goals as goal

pub loop-copy-preserved : goal.loop-copy-preserved
loop-copy-preserved c = grows-twice c.args.table.now c.loop-copy.table c.put_values_of.new.table c.loop-copy.invariant c.put_values_of.ensures

pub returns-in_err-put_values_of : goal.returns-in_err-put_values_of
returns-in_err-put_values_of c = grows-twice c.args.table.now c.loop-copy.table c.put_values_of.new.table c.loop-copy.invariant c.put_values_of.ensures
