-- Cited by public clauses: states at loops.
use Rattle.sm_syntax.specs.claim.ConflictFree.{Copy}
use Rattle.sm_syntax.specs.text.Sorts.{Sorts, IsWellSorted}
use Rattle.sm_syntax.specs.trees.Copies.{of_copy}
use Rattle.sm_plan.specs.Views.{rest_code}
use Rattle.sm_observed.specs.declared.states.LoopState.{LoopState}

-- what is left of each copy is well sorted
abbrev pub IsLoopSorted : Sorts → LoopState → Type 0
IsLoopSorted sorts st = (c : Copy) → IsWellSorted sorts (rest_code (of_copy st.rests c))
