-- The table is of the task's declarations.
use Rattle.sm_candidates.specs.Subjects.{IsTableOf}
use Rattle.sm_deeper.proofs.rounds.settle.Given as goal

abbrev pub invariant-loop : goal.invariant-loop
invariant-loop g l = IsTableOf l.subject.task.now l.table
