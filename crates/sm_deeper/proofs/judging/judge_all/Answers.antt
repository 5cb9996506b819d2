-- What is asked stays ready while the table widens.
use Rattle.sm_deeper.proofs.Imports.{widens_twice, dues_ready}
use Rattle.sm_deeper.proofs.judging.judge_all.Goals as goal

pub judge-requires : goal.judge-requires
judge-requires c = dues_ready c.args.table.now c.loop-left.table c.loop-left.invariant c.args.round.now.dues.now c.requires

pub loop-left-preserved : goal.loop-left-preserved
loop-left-preserved c = widens_twice c.args.table.now c.loop-left.table c.judge.new.table c.loop-left.invariant c.in_ok-judge.ensures
