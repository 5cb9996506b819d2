-- The table grows with each turn.
use Rattle.sm_term.proofs.TablesLemmas.{grows-twice}
use Rattle.sm_observed.proofs.guards.guards_of.Goals as goal

pub loop-copy-preserved : goal.loop-copy-preserved
loop-copy-preserved c = grows-twice c.args.table.now c.loop-copy.table c.add_guard.new.table c.loop-copy.invariant c.add_guard.ensures

pub returns-in_err-add_guard : goal.returns-in_err-add_guard
returns-in_err-add_guard c = grows-twice c.args.table.now c.loop-copy.table c.add_guard.new.table c.loop-copy.invariant c.add_guard.ensures
