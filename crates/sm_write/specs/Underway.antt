-- Private: a plan that is being written, with the states that wait for their nodes.
use Rattle.std.specs.Prelude.{◌≡◌, ℕ, ◌+◌, None, List, [], ◌∷◌, map, Vec}
use Rattle.std.specs.declared.alloc.Global.{Global}
use Rattle.sm_term.specs.Assertions.{Assertion}
use Rattle.sm_term.specs.Tables.{TableValue, trees_in, sorts_in}
use Rattle.sm_cert.specs.Views.{certificate_in}
use Rattle.sm_cert.specs.declared.tree.CertTree.{CertTree}
use Rattle.sm_plan.specs.ReadyStates.{IsStateReady}
use Rattle.sm_plan.specs.declared.opening.Successor.{Successor}
use Rattle.sm_plan.specs.States.{State}
use Rattle.sm_plan.specs.Views.{node_in, state_in}
use Rattle.sm_plan.specs.declared.node.NodeRow.{NodeRow}
use Rattle.sm_plan.specs.declared.opening.Opened.{Opened}
use Rattle.sm_proof.specs.Passing.{Progress, start_progress}
use Rattle.sm_proof.specs.Verdicts.{Subject}
use Rattle.sm_expand.specs.NumberedPlans.{node_over, plan_over, IsPlanReady, head}
use Rattle.sm_expand.specs.Cursors.{numbered_at}
use Rattle.sm_expand.specs.declared.cursor.Cursor.{Cursor}
use Rattle.sm_expand.specs.Opens.{OpensAs}
use Rattle.sm_expand.specs.declared.placed.PlacedState.{PlacedState}
use Rattle.sm_write.specs.GoalsWritten.{IsAt}
use Rattle.sm_write.specs.NodesWritten.{WritesNode}
use Rattle.sm_prune.specs.Texts.{Leads}
use Rattle.sm_write.specs.Waiting.{Waits, due_for, AreWaiting}
use Rattle.sm_write.specs.Writers.{WriterValue}

-- a state of the program with a place in its plan stands for one with a plan, where it has some
-- facts
pub record StandsFor (v : TableValue) (w : Waits) (x : PlacedState) : Type 0 where
  pub facts : List Assertion
  pub state : w.state ≡ state_in (sorts_in v) (trees_in v) facts x.state
  pub plan : w.plan ≡ plan_over (sorts_in v) (trees_in v) (numbered_at x.cursor)

-- states of the program with places in their plans stand for those with plans, one for one
abbrev pub AllStandFor : TableValue → List Waits → List PlacedState → Type 0
AllStandFor v [] [] = Unit {0}
AllStandFor v [] (x ∷ xs) = ⊥
AllStandFor v (w ∷ ws) [] = ⊥
AllStandFor v (w ∷ ws) (x ∷ xs) = StandsFor v w x × AllStandFor v ws xs

-- a writer can write what waits, with these certificates, to the end of the plan
pub record IsUnderway (s : Subject) (v : TableValue) (w : WriterValue) (xs : List PlacedState)
    (cs : List CertTree) : Type 0 where
  pub seen : List State
  pub progress : Progress
  pub waits : List Waits
  pub at : IsAt s v w seen progress
  pub pending : progress.pending ≡ map due_for waits
  pub stand : AllStandFor v waits xs
  pub ready :
      AreWaiting s.sorts seen progress.nodes waits (map (certificate_in (trees_in v)) cs) []

-- a node was written, and this is what it opens
pub record OpeningWritten (old new : TableValue) (before after : WriterValue) (x : PlacedState)
    (o : Opened × Vec Cursor Global) : Type 0 where
  pub opens : OpensAs old new before.nodes x.state x.cursor o
  pub row : NodeRow
  pub is :
      node_over (sorts_in old) (trees_in old) (head (numbered_at x.cursor))
      ≡ node_in (sorts_in old) (trees_in old) row
  pub writes : WritesNode old before after x.state.stores row

-- a writer that wrote nothing
pub record IsFresh (s : Subject) (x : WriterValue) : Type 0 where
  pub leads : Leads s x.text x.exact (start_progress s.start)
  pub names : (t : ℕ) → x.names t ≡ None
  pub terms : x.terms ≡ 0
  pub forms : x.forms ≡ 0
  pub nodes : x.nodes ≡ 0

-- a writer that wrote lines by which a proof comes to its end
pub record IsWhole (s : Subject) (w : WriterValue) : Type 0 where
  pub last : Progress
  pub leads : Leads s w.text w.exact last
  pub done : last.pending ≡ []
