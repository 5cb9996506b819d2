-- Private: what is known of a task that is searched.
use Rattle.std.specs.Prelude.{◌≡◌}
use Rattle.sm_syntax.specs.text.Parts.{sort_of, task_of}
use Rattle.sm_syntax.specs.trees.Programs.{declared_of}
use Rattle.sm_term.specs.Tables.{TableValue, sorts_in}
use Rattle.sm_text.specs.Tasks.{parts_of}
use Rattle.sm_text.specs.declared.task.Task.{Task}
use Rattle.sm_task.specs.Filling.{AreFilled}
use Rattle.sm_plan.specs.SortedStates.{IsTaskSorted}
use Rattle.sm_plan.specs.Starts.{AreNumbered}
use Rattle.sm_candidates.specs.declared.subject.Subject.{Subject}

-- the task is as it is declared, and these are its programs
pub record IsSubject (s : Subject) : Type 0 where
  pub numbered : AreNumbered (declared_of s.task.now.shared.decls)
  pub sorted : IsTaskSorted (sort_of (declared_of s.task.now.shared.decls))
      (task_of (parts_of s.task.now))
  pub filled : AreFilled (parts_of s.task.now) s.programs.now

-- a table is of the declarations of a task
abbrev pub IsTableOf : Task → TableValue → Type 0
IsTableOf task v = sorts_in v ≡ sort_of (declared_of task.shared.decls)
