-- Laws of events and of sorts, each for all programs and stores. Public clauses cite them.
use Rattle.std.specs.Prelude.{◌≡◌, ℕ, Some, None, List}
use Rattle.sm_syntax.specs.text.Conditions.{program_fault, ill_assumed}
use Rattle.sm_syntax.specs.claim.Meaning.{run}
use Rattle.sm_syntax.specs.text.Parts.{sort_of}
use Rattle.sm_syntax.specs.text.Sorts.{IsWellSortedCondition, IsWellSorted}
use Rattle.sm_syntax.specs.declared.tree.Sort.{Sort}
use Rattle.sm_syntax.specs.claim.Stores.{Store}
use Rattle.sm_syntax.specs.claim.Syntax.{Condition, Code}
use Rattle.sm_eval.specs.Events.{event}

-- code without an event has an end
abbrev pub EventlessEnds : Type 0
EventlessEnds =
    (n : ℕ) (c : Code) (s : Store) → event n c s ≡ None → (t : Store) × (run n c s ≡ Some t)

-- the code of a well-formed program is well sorted
abbrev pub WellFormedPrograms : Type 0
WellFormedPrograms =
    (declared : List (ℕ × Sort)) (outputs : List ℕ) (c : Code) →
    program_fault declared outputs c ≡ None → IsWellSorted (sort_of declared) c

-- a well-formed assumption is well sorted
abbrev pub WellFormedAssumptions : Type 0
WellFormedAssumptions =
    (declared : List (ℕ × Sort)) (b : Condition) →
    ill_assumed declared (Some b) ≡ None → IsWellSortedCondition (sort_of declared) b
