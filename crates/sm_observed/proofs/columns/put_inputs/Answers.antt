-- The table grows with each turn.
use Rattle.sm_term.proofs.TablesLemmas.{grows-twice}
use Rattle.sm_observed.proofs.columns.put_inputs.Goals as goal

pub loop-copy-2-preserved : goal.loop-copy-2-preserved
loop-copy-2-preserved c = grows-twice c.args.table.now c.loop-copy-2.table c.put_loop_reads.new.table c.loop-copy-2.invariant c.put_loop_reads.ensures

pub returns-in_err-put_loop_reads : goal.returns-in_err-put_loop_reads
returns-in_err-put_loop_reads c = grows-twice c.args.table.now c.loop-copy-2.table c.put_loop_reads.new.table c.loop-copy-2.invariant c.put_loop_reads.ensures
