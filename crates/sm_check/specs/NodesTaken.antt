-- Private: a node's line taken, step by step.
use Rattle.std.specs.Prelude.{◌≡◌, ℕ, Result, Ok, List}
use Rattle.sm_syntax.specs.text.Sorts.{Sorts}
use Rattle.sm_term.specs.Assertions.{Assertion}
use Rattle.sm_term.specs.Tables.{trees_in, sorts_in}
use Rattle.sm_term.specs.Terms.{Tree}
use Rattle.sm_theory.specs.Facts.{as_facts}
use Rattle.sm_plan.specs.Limits.{is_shallow}
use Rattle.sm_plan.specs.NodeLists.{above_opened}
use Rattle.sm_plan.specs.Nodes as plan
use Rattle.sm_plan.specs.Nodes.{opened_by}
use Rattle.sm_plan.specs.ReadyStates.{AreFormsReady, AreStoresReady, AreSuccessorsReady}
use Rattle.sm_plan.specs.States.{State}
use Rattle.sm_plan.specs.Views.{opened_in, state_in}
use Rattle.sm_plan.specs.declared.state.SymState.{SymState}
use Rattle.sm_plan.specs.declared.opening.Opened.{Opened}
use Rattle.sm_proof.specs.declared.line.NodeLine.{NodeLine}
use Rattle.sm_proof.specs.Named.{found_or, tested_or, named_node, node_head}
use Rattle.sm_proof.specs.declared.word.Word.{Word}
use Rattle.sm_proof.specs.declared.word.Word.TheVariants.{BadNumber, Deep, First}
use Rattle.sm_proof.specs.Passing.{Pending, Progress}
use Rattle.sm_check.specs.Pending.{OnlyWaiting}
use Rattle.sm_check.specs.FormRows.{RowsStand}
use Rattle.sm_check.specs.Walks.{WalkValue, terms_in}

-- what a line opens with number k at a state, and how many branching nodes stand above that, or the
-- word by which it is refused
abbrev pub opened_or :
    List Assertion → ℕ → State → ℕ → NodeLine → Result (plan.Opened × ℕ) Word
opened_or forms k st above line =
    found_or (named_node forms line) BadNumber
    (λ (node : plan.Node).
    tested_or (is_shallow (above_opened node above)) Deep
    (found_or (opened_by k st node) (First (node_head line))
    (λ (q : plan.Opened). Ok (q, above_opened node above))))

-- what was opened stands for this, where these facts stand before
abbrev pub OpensAs :
    Sorts → List Tree → List Assertion → Opened × ℕ → plan.Opened × ℕ → Type 0
OpensAs sorts trees facts o q = (opened_in sorts trees facts o.0 ≡ q.0) × (o.1 ≡ q.1)

-- what was opened can be gone on from
pub record IsOpenedReady (sorts : Sorts) (trees : List Tree) (o : Opened) : Type 0 where
  pub goals : AreFormsReady sorts trees o.goals.list.items
  pub states : AreSuccessorsReady sorts trees o.states.items
  pub stores : AreStoresReady sorts trees o.stores

-- a proof on its way whose state that was due is held apart, before the rest of what is pending
pub record WalksAt (w : WalkValue) (held : SymState) (p : Progress) (st : State)
    (rest : List Pending) : Type 0 where
  pub nodes : w.nodes ≡ p.nodes
  pub terms : terms_in (trees_in w.table) w.terms ≡ p.terms
  pub forms : RowsStand (sorts_in w.table) (trees_in w.table) w.forms p.forms
  pub later : OnlyWaiting (sorts_in w.table) (trees_in w.table) w.path w.waiting rest
  pub facts : as_facts st.facts ≡ later.facts
  pub state : state_in (sorts_in w.table) (trees_in w.table) st.facts held ≡ st
