-- The answer has the marks that stay after the nodes of the job.
use Rattle.sm_houdini.specs.NodeJobs.{NodeGoalsValue}
use Rattle.sm_houdini.proofs.GoalJobsLemmas.{known_over, nodes_tell}
use Rattle.sm_houdini.proofs.node_jobs.NodeGoalsJob.run.Goals as goal

pub judge_all-requires-clause-known : goal.judge_all-requires-clause-known
judge_all-requires-clause-known c =
    let i = c.self.inside in
    known_over i.table.now c.in_ok-table.table c.in_ok-table.ensures.sorts c.in_ok-table.ensures.trees i.reach i.dues.now i.known.now
    c.self.invariant.1

pub returns : goal.returns
returns c =
    let i = c.self.inside in
    let v : NodeGoalsValue =
    record {
      table = i.table.now;
      dues = i.dues.now;
      known = i.known.now;
      numbers = i.numbers.now;
      owners = i.owners.now;
      marks = i.marks.now;
      reach = i.reach;
      jobs = i.jobs;
    } in
    nodes_tell v c.args.self.now c.self.view_is c.in_ok-table.table c.args.index c.in_ok-marks.marks
    c.judge_all.new.marks c.in_ok-table.ensures.sorts c.in_ok-table.ensures.trees c.in_ok-marks.ensures
    c.in_ok-judge_all.ensures.judged
