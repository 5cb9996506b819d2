-- Which clause of the condition a final goal asks, by its number. Public clauses cite it.
use Rattle.std.specs.Prelude.{◌≡◌, ◌/◌, ◌%◌, ℕ, true, Some, Ok, List, Contains, slice_get}
use Rattle.sm_syntax.specs.declared.tree.Sort.{Sort}
use Rattle.sm_syntax.specs.claim.ConflictFree.{Copy, Task}
use Rattle.sm_term.specs.Assertions.{Assertion}
use Rattle.sm_term.specs.Slots.{at_stores}
use Rattle.sm_term.specs.Symbolic.{SymbolicStore}
use Rattle.sm_plan.specs.Plans.{Due, Plan, obligations}
use Rattle.sm_plan.specs.States.{keeps_goals, place}

-- a goal asks a clause of an output, each counted from 0: that clause at four stores
pub record AsksClause (t : Task) (output clause : ℕ) (goal : Assertion) : Type 0 where
  pub name : ℕ × Sort
  pub is_output : slice_get t.outputs output ≡ Some name
  pub asked : Assertion
  pub is_clause : slice_get (keeps_goals (place name)) clause ≡ Some asked
  pub stores : Copy → SymbolicStore
  pub is : goal ≡ at_stores stores asked

-- of the final goals of a plan's node, three in a row ask the clauses of an output, in the order of
-- outputs
abbrev pub FinalGoalsAskClauses : Type 0
FinalGoalsAskClauses =
    (t : Task) (p : Plan) (ds : List Due) (d : Due) (n : ℕ) (goal : Assertion) →
    obligations t p ≡ Ok ds →
    Contains ds d →
    d.is_final ≡ true →
    slice_get d.goals n ≡ Some goal →
    AsksClause t (n / 3) (n % 3) goal
