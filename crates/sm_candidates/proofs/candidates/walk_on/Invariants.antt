-- What waits is ready, over a table of the task's declarations.
use Rattle.sm_candidates.specs.Subjects.{IsTableOf}
use Rattle.sm_candidates.specs.Waits.{AreWaitingReady}
use Rattle.sm_candidates.proofs.candidates.walk_on.Given as goal

abbrev pub invariant-loop : goal.invariant-loop
invariant-loop l = record {
  waiting : AreWaitingReady l.table l.walk.waiting.items;
  declared : IsTableOf l.subject.task.now l.table;
}
