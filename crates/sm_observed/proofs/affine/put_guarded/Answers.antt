-- The table grows with each turn.
use Rattle.sm_term.proofs.TablesLemmas.{grows-twice}
use Rattle.sm_observed.proofs.affine.put_guarded.Goals as goal

pub loop-guard-preserved : goal.loop-guard-preserved
loop-guard-preserved c = grows-twice c.args.table.now c.loop-guard.table c.put_both_ways.new.table c.loop-guard.invariant c.put_both_ways.ensures

pub returns-in_err-put_both_ways : goal.returns-in_err-put_both_ways
returns-in_err-put_both_ways c = grows-twice c.args.table.now c.loop-guard.table c.put_both_ways.new.table c.loop-guard.invariant c.put_both_ways.ensures
