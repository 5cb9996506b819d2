-- The rows of one job more.
use Rattle.sm_deeper.proofs.Imports.{widens_twice, front_within}
use Rattle.sm_deeper.proofs.RowsLemmas.{job_sound}
use Rattle.sm_deeper.proofs.end_jobs.take_all.Goals as goal

pub adopted-requires-clause-behind : goal.adopted-requires-clause-behind
adopted-requires-clause-behind c = front_within c.args.table.now c.loop-end.table c.loop-end.invariant c.args.from c.requires.behind

pub adopted-requires-clause-sound : goal.adopted-requires-clause-sound
adopted-requires-clause-sound c =
    job_sound c.args.table.now c.loop-end.table c.loop-end.invariant c.args.from c.requires.behind c.args.ends.now c.loop-end.end-index
    c.end-item.result c.end-item.is (c.requires.sound c.loop-end.end-index c.end-item.result c.loop-end-test.true)

pub loop-end-preserved : goal.loop-end-preserved
loop-end-preserved c = widens_twice c.args.table.now c.loop-end.table c.adopted.new.table c.loop-end.invariant c.adopted.ensures
