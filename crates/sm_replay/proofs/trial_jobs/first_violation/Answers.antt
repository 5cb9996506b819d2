-- The first answer that is there.
use Rattle.sm_replay.proofs.Imports.{sym, subst, sort_of, task_of, AreFilled, parts_of}
use Rattle.sm_replay.proofs.FirstViolationSound.{Answered, answered_where, first_violates}
use Rattle.sm_replay.proofs.RunnableTasks.{filled_sorted}
use Rattle.sm_replay.proofs.trial_jobs.first_violation.Goals as goal

-- each name of the filled programs stands as it is declared
pub invariant_of-job-clause-sorted : goal.invariant_of-job-clause-sorted
invariant_of-job-clause-sorted g c = filled_sorted (parts_of c.args.task.now) c.args.programs.now c.requires.runs c.requires.filled

pub returns : goal.returns
returns g c =
    let t = parts_of c.args.task.now in
    first_violates (task_of t) (sort_of t.declared) c.args.turns c.deref.result.now
    (subst (Answered (task_of t) (sort_of t.declared) c.args.turns) (sym c.deref.ensures.value)
    (answered_where (AreFilled t c.args.programs.now) (task_of t)
    (sort_of t.declared) c.args.turns _ c.requires.filled c.in_ok-results.ensures))
    c.first_found.result c.first_found.ensures.none c.first_found.ensures.some
