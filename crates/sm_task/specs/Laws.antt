-- Laws of tasks and of their refusals. Public clauses cite it.
use Rattle.std.specs.Prelude.{◌≡◌, ℕ, List}
use Rattle.sm_syntax.specs.text.Conditions.{Refusal}
use Rattle.sm_syntax.specs.text.Parts.{Parts}
use Rattle.sm_syntax.specs.text.Spells.{Spells}
use Rattle.sm_text.specs.parsing.Places.{AreTasks, IsFault}
use Rattle.sm_text.specs.declared.error.TextError.{TextError}
use Rattle.sm_text.specs.parsing.Places.Sources.{whole_text}
use Rattle.sm_task.specs.Errors.{IsRefusedBy, IsRefusedWith, TaskError}

-- a text spells at most one task
abbrev pub OneTask : Type 0
OneTask = (bytes : List ℕ) (t u : Parts) → Spells bytes t → Spells bytes u → t ≡ u

-- of the conditions on tasks at most one is the first that fails
abbrev pub OneCondition : Type 0
OneCondition = (bytes : List ℕ) (r s : Refusal) → IsRefusedBy bytes r → IsRefusedBy bytes s → r ≡ s

-- where a condition fails, the text has no fault
abbrev pub FaultOrCondition : Type 0
FaultOrCondition =
    (bytes : List ℕ) (r : Refusal) (x : TextError) →
    IsRefusedBy bytes r → IsFault AreTasks (whole_text bytes) x → ⊥

-- a text is refused with at most one error
abbrev pub OneRefusal : Type 0
OneRefusal =
    (bytes : List ℕ) (e f : TaskError) → IsRefusedWith bytes e → IsRefusedWith bytes f → e ≡ f

-- a text that spells a task is refused with no error
abbrev pub TaskOrRefusal : Type 0
TaskOrRefusal =
    (bytes : List ℕ) (t : Parts) (e : TaskError) → Spells bytes t → IsRefusedWith bytes e → ⊥
