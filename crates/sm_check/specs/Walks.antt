-- Private: a proof on its way, as the checker has it.
use Rattle.std.specs.Prelude.{◌≡◌, ℕ, ◌≤◌, ◌^◌, nat_lt, is_some, length, map, List, Option}
use Rattle.sm_syntax.specs.text.Sorts.{Sorts}
use Rattle.sm_term.specs.Terms.{Tree}
use Rattle.sm_term.specs.Tables.{TableValue, trees_in, sorts_in, tree_at, AreBefore}
use Rattle.sm_term.specs.declared.term.TermId.{TermId}
use Rattle.sm_theory.specs.declared.fact.Fact.{Fact}
use Rattle.sm_proof.specs.Passing.{Progress}
use Rattle.sm_check.specs.FormRows.{RowsStand, AreRowsReady, FormRow}
use Rattle.sm_check.specs.Pending.{IsReadyIfDue, AreWaitingReady, PendingStands, Waiting, Due}

-- the table of terms, how many names are declared, how many nodes there were, the numbers of the
-- terms of lines, the formulas of lines, the facts of what is due, and what is pending
pub record WalkValue : Type 0 where
  pub table : TableValue
  pub declared : ℕ
  pub nodes : ℕ
  pub terms : List TermId
  pub forms : List FormRow
  pub path : List Fact
  pub due : Option Due
  pub waiting : List Waiting

-- the trees of numbers
abbrev pub terms_in : List Tree → List TermId → List Tree
terms_in trees terms = map (λ (t : TermId). tree_at trees t.0) terms

-- the declared names are the first numbers
pub record AreNumbered (sorts : Sorts) (declared : ℕ) : Type 0 where
  pub each : (x : ℕ) → is_some (sorts x) ≡ nat_lt x declared
  pub fit : declared ≤ 2 ^ 32

-- a proof on its way can be gone on from
pub record IsWalkReady (table : TableValue) (declared : ℕ) (terms : List TermId)
    (forms : List FormRow) (due : Option Due) (waiting : List Waiting) : Type 0 where
  pub numbered : AreNumbered (sorts_in table) declared
  pub named : AreBefore (length (trees_in table)) terms
  pub rows : AreRowsReady (sorts_in table) (trees_in table) forms
  pub first : IsReadyIfDue (sorts_in table) (trees_in table) due
  pub later : AreWaitingReady (sorts_in table) (trees_in table) waiting

-- it stands for how a proof goes on
pub record Walks (w : WalkValue) (p : Progress) : Type 0 where
  pub nodes : w.nodes ≡ p.nodes
  pub terms : terms_in (trees_in w.table) w.terms ≡ p.terms
  pub forms : RowsStand (sorts_in w.table) (trees_in w.table) w.forms p.forms
  pub pending : PendingStands (sorts_in w.table) (trees_in w.table) w.path w.due w.waiting p.pending
