-- What holds of a task that some text spells: no filling has a hole, names are numbered as they are declared, and programs are sorted.
use Rattle.calls.proofs.Imports.{◌≡◌, Parts, sort_of, task_of, Sorts, IsWellSorted, spelled_checkable}
use Rattle.sm_syntax.specs.claim.ConflictFree.{Copy, program_of}
use Rattle.sm_text.specs.printing.Named.{HasText}
use Rattle.sm_plan.specs.SortedStates.{IsTaskSorted}
use Rattle.sm_plan.specs.Starts.{AreNumbered}
use Rattle.sm_product.specs.Laws.{HaveNoHole}
use Rattle.sm_product.proofs.HolesLemmas.{valid_no_hole}
use Rattle.sm_replay.proofs.RunnableTasks.{runs, spelled_runs}

pub no_hole : (t : Parts) → HasText t → HaveNoHole t
no_hole t has = valid_no_hole t has.1.valid

pub numbered : (t : Parts) → HasText t → AreNumbered t.declared
numbered t has = (spelled_checkable has.0 t has.1).numbered

pub sorted : (t : Parts) → HasText t → IsTaskSorted (sort_of t.declared) (task_of t)
sorted t has = (spelled_checkable has.0 t has.1).sorted

-- the programs of a task are well sorted where a table or a store has the sorts of the task
pub sorted_in : (t : Parts) → HasText t → (sorts : Sorts) → sorts ≡ sort_of t.declared → (k : Copy)
    → IsWellSorted sorts (program_of (task_of t) k)
sorted_in t has sorts same k = runs t sorts (spelled_runs has.0 t has.1) same k
