-- A trial that meets the assumption, or none.
use Rattle.sm_replay.proofs.Imports.{sort_of, task_of, parts_of, meaning, trial}
use Rattle.sm_replay.proofs.VerdictSound.{some_met, none_met, none_more, met_there, unmet_there}
use Rattle.sm_replay.proofs.trial_jobs.some_trial_meets.Goals as goal

pub returns-then-meets : goal.returns-then-meets
returns-then-meets c =
    let t = parts_of c.args.task.now in
    some_met (task_of t) (sort_of t.declared) c.loop-j.j c.loop-j-test.true
    (met_there t.assumed (trial (sort_of t.declared) c.loop-j.j)
    (meaning c.in_ok-input.input) c.meets.result c.in_ok-input.ensures.value c.meets.ensures c.if-meets.true)

pub loop-j-preserved : goal.loop-j-preserved
loop-j-preserved c =
    let t = parts_of c.args.task.now in
    none_more (task_of t) (sort_of t.declared) c.loop-j.j c.loop-j.invariant
    (unmet_there t.assumed (trial (sort_of t.declared) c.loop-j.j)
    (meaning c.in_ok-input.input) c.meets.result c.in_ok-input.ensures.value c.meets.ensures c.if-meets.false)

pub returns : goal.returns
returns c = let t = parts_of c.args.task.now in none_met (task_of t) (sort_of t.declared) c.loop-j.j c.loop-j-test.false c.loop-j.invariant
