-- Cited by public clauses: what files that pass show.
use Rattle.std.specs.Prelude.{◌≢◌, ℕ, List, [], ◌++◌}
use Rattle.sm_syntax.specs.claim.ConflictFree.{ConflictFree}
use Rattle.sm_syntax.specs.text.Parts.{Parts, sort_of, task_of}
use Rattle.sm_plan.specs.SortedStates.{IsTaskSorted}
use Rattle.sm_proof.specs.Verdicts.{Passes}

-- a file that passes for a task whose names stand as they are declared makes it free of conflicts
abbrev pub PassIsFree : Type 0
PassIsFree =
    (t : Parts) (bytes : List ℕ) → IsTaskSorted (sort_of t.declared) (task_of t) →
    Passes t bytes → ConflictFree (task_of t)

-- where a file passes, no proper front of it does
abbrev pub PrefixesFail : Type 0
PrefixesFail =
    (t : Parts) (front more : List ℕ) → more ≢ [] → Passes t (front ++ more) → Passes t front → ⊥
