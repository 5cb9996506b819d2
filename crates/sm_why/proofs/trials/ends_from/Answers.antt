use Rattle.sm_eval.specs.StoredValues.{meaning}
use Rattle.sm_why.proofs.Imports.{task_of, parts_of}
use Rattle.sm_why.proofs.TrialsCounted.{ended_ok}
use Rattle.sm_why.proofs.trials.ends_from.Goals as goal

pub returns : goal.returns
returns c =
    ended_ok (task_of (parts_of c.args.task.now)) (meaning c.args.input.now) c.args.turns c.judge.result c.ended.result
    c.judge.ensures.judges c.ended.ensures
