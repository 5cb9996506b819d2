-- Cited by public clauses: what the node at a place in a plan opens.
use Rattle.std.specs.Prelude.{◌≡◌, ℕ, Some, List, length, map, Vec}
use Rattle.std.specs.declared.alloc.Global.{Global}
use Rattle.sm_term.specs.Assertions.{Assertion}
use Rattle.sm_term.specs.Tables.{TableValue, trees_in, sorts_in}
use Rattle.sm_plan.specs.Nodes.{opened_by}
use Rattle.sm_plan.specs.ReadyStates.{AreFormsReady, AreSuccessorsReady}
use Rattle.sm_plan.specs.Views.{state_in, opened_in}
use Rattle.sm_plan.specs.declared.state.SymState.{SymState}
use Rattle.sm_plan.specs.declared.opening.Opened.{Opened}
use Rattle.sm_expand.specs.NumberedPlans.{node_over, head, below, list_of}
use Rattle.sm_expand.specs.Cursors.{numbered_at, Cursor}

-- what node k opens at a state, whatever facts that has, with a place in the plan for each state
-- that follows; formulas and states of the table as it is then can be gone on from
pub record OpensAs (old new : TableValue) (k : ℕ) (st : SymState) (cursor : Cursor)
    (o : Opened × Vec Cursor Global) : Type 0 where
  pub opened : (facts : List Assertion) →
      opened_by k (state_in (sorts_in old) (trees_in old) facts st)
      (node_over (sorts_in old) (trees_in old) (head (numbered_at cursor)))
      ≡ Some (opened_in (sorts_in new) (trees_in new) facts o.0)
  pub goals : AreFormsReady (sorts_in new) (trees_in new) o.0.goals.list.items
  pub states : AreSuccessorsReady (sorts_in new) (trees_in new) o.0.states.items
  pub plans : map numbered_at o.1.items ≡ list_of (below (numbered_at cursor))
  pub count : length o.0.states.items ≡ length o.1.items
