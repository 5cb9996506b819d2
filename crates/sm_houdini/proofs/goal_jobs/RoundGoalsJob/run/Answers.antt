-- The answer has the marks of the share with the job's number.
use Rattle.sm_houdini.proofs.Imports.{choice_in, RoundGoalsValue, in_share}
use Rattle.sm_houdini.proofs.GoalJobsLemmas.{known_over, share_tells}
use Rattle.sm_houdini.proofs.goal_jobs.RoundGoalsJob.run.Goals as goal

pub judge_all-requires-clause-known : goal.judge_all-requires-clause-known
judge_all-requires-clause-known c =
    let i = c.self.inside in
    known_over i.table.now c.in_ok-table.table c.in_ok-table.ensures.sorts c.in_ok-table.ensures.trees i.reach i.dues.now i.known.now
    c.self.invariant.1

pub returns : goal.returns
returns c =
    let i = c.self.inside in
    let v : RoundGoalsValue =
    record {
      table = i.table.now;
      dues = i.dues.now;
      known = i.known.now;
      numbers = i.numbers.now;
      owners = i.owners.now;
      choice = i.choice.now;
      reach = i.reach;
      shares = i.shares;
    } in
    share_tells v c.args.self.now c.self.view_is c.in_ok-table.table c.args.index c.judge_all.new.marks c.in_ok-table.ensures.sorts
    c.in_ok-table.ensures.trees
    (c.in_ok-judge_all.ensures.judged (λ s. in_share i.shares c.args.index) (choice_in i.choice.now) c.in_ok-marks.ensures)
