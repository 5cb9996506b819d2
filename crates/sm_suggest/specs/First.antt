-- The first combination that a decision accepts. Public clauses cite it.
-- A decision is a relation here: what it may say of a task. The last definition is that of a
-- closure.
use Rattle.std.specs.Prelude.{◌≡◌, ◌<◌, ℕ, Bool, true, false, Result, Ok}
use Rattle.std.specs.Fn.{Shared, FnReturnsAt}
use Rattle.std.specs.Borrow.{Bor}
use Rattle.std.specs.declared.alloc.AllocError.{AllocError}
use Rattle.sm_syntax.specs.text.Parts.{Parts}
use Rattle.sm_text.specs.Tasks.{parts_of}
use Rattle.sm_text.specs.declared.task.Task.{Task}
use Rattle.sm_suggest.specs.Combinations.{combination, combination_count}

-- the decision said yes of combination k of a task, and no of each before it
pub record IsFirst (Decides : Parts → Bool → Type 0) (t : Parts) (k : ℕ) : Type 0 where
  pub is_one : k < combination_count t
  pub accepted : Decides (combination t k) true
  pub others_refused : (j : ℕ) → j < k → Decides (combination t j) false

-- it said no of each combination
abbrev pub AllRefused : (Parts → Bool → Type 0) → Parts → Type 0
AllRefused Decides t = (k : ℕ) → k < combination_count t → Decides (combination t k) false

-- of some task with these parts a closure may answer so
pub record MayAnswer {F : Type 0}
    (calls : Shared F (Bor Task × Unit {0}) (Result Bool AllocError))
    (decide : F) (parts : Parts) (answer : Bool) : Type 0 where
  pub task : Task
  pub is : parts_of task ≡ parts
  pub says : FnReturnsAt calls decide task (Ok answer)
