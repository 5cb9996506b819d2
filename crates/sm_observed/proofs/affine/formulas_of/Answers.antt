-- The table grows with each turn.
use Rattle.sm_term.proofs.TablesLemmas.{grows-twice}
use Rattle.sm_observed.proofs.affine.formulas_of.Goals as goal

pub loop-equality-preserved : goal.loop-equality-preserved
loop-equality-preserved c = grows-twice c.args.table.now c.loop-equality.table c.put_equality.new.table c.loop-equality.invariant c.put_equality.ensures

pub returns-in_err-put_equality : goal.returns-in_err-put_equality
returns-in_err-put_equality c = grows-twice c.args.table.now c.loop-equality.table c.put_equality.new.table c.loop-equality.invariant c.put_equality.ensures
