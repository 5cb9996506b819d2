-- The answer is that of the trial.
use Rattle.sm_replay.proofs.Imports.{◌≡◌, ◌≢◌, Option, Err, IfOk-weaker, sort_of, task_of, AreFilled, parts_of, meaning, trial, shown_of}
use Rattle.sm_replay.specs.declared.error.ReplayError.TheVariants.{Memory}
use Rattle.sm_replay.specs.Trials.{Verdict}
use Rattle.sm_replay.proofs.VerdictSound.{shows_trial}
use Rattle.sm_replay.proofs.trial_jobs.TrialsJob.run.Goals as goal

pub returns : goal.returns
returns c =
    let t = parts_of c.args.self.now.task.now in
    IfOk-weaker c.shown.result _ _
    (λ (out : Option Verdict) (h : (out ≡ shown_of c.judged.result) × (c.judged.result ≢ Err Memory))
    (filled : AreFilled t c.args.self.now.programs.now).
    shows_trial (task_of t) (trial (sort_of t.declared) c.args.index)
    (meaning c.in_ok-input.input) c.args.self.now.turns c.judged.result out c.in_ok-input.ensures.value (c.judged.ensures filled) h)
    c.shown.ensures
