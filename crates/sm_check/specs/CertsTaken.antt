-- Private: a line of a certificate taken, step by step.
use Rattle.std.specs.Prelude.{◌≡◌, ℕ, suc, if◌then◌else◌, length, reverse, Result, Ok, List}
use Rattle.sm_syntax.specs.claim.ConflictFree.{Copy}
use Rattle.sm_syntax.specs.text.Sorts.{Sorts}
use Rattle.sm_term.specs.Symbolic.{SymbolicStore}
use Rattle.sm_term.specs.Tables.{trees_in, sorts_in}
use Rattle.sm_term.specs.Terms.{Tree}
use Rattle.sm_theory.specs.Facts.{BranchFact}
use Rattle.sm_theory.specs.Lines.{CertificateLine}
use Rattle.sm_theory.specs.SortedFacts.{AreFactsSorted}
use Rattle.sm_theory.specs.Views.{AllStand}
use Rattle.sm_theory.specs.Ways.{ways}
use Rattle.sm_theory.specs.Named.{is_split}
use Rattle.sm_plan.specs.Limits.{is_shallow}
use Rattle.sm_proof.specs.Lines.{NumberedLine}
use Rattle.sm_proof.specs.Named.{found_or, tested_or, named_line, line_head}
use Rattle.sm_proof.specs.declared.word.Word.{Word}
use Rattle.sm_proof.specs.declared.word.Word.TheVariants.{BadNumber, Deep, First}
use Rattle.sm_proof.specs.Passing.{Pending, Progress, branches_before}
use Rattle.sm_check.specs.FormRows.{RowsStand}
use Rattle.sm_check.specs.Pending.{AllWait}
use Rattle.sm_check.specs.Walks.{WalkValue, terms_in}

-- how many splits stand above what a line opens
abbrev pub splits_above : NumberedLine → ℕ → ℕ
splits_above l splits = if is_split l then suc splits else splits

-- what is pending after a line at a branch, before the rest of what was pending
abbrev pub pending_after :
    Sorts → List Tree → (Copy → SymbolicStore) → List BranchFact → ℕ → List Pending →
    NumberedLine → Result (List Pending) Word
pending_after sorts terms held own splits rest l =
    found_or (named_line terms (length own) l) BadNumber
    (λ (line : CertificateLine).
    tested_or (is_shallow (splits_above l splits)) Deep
    (found_or (ways sorts own line) (First (line_head l))
    (λ (to : List (List BranchFact)).
    Ok (branches_before held own (splits_above l splits) to rest))))

-- a proof on its way whose branch that was due has these facts, before the rest of what is pending
pub record WalksIn (w : WalkValue) (p : Progress) (own : List BranchFact) (rest : List Pending)
    : Type 0 where
  pub nodes : w.nodes ≡ p.nodes
  pub terms : terms_in (trees_in w.table) w.terms ≡ p.terms
  pub forms : RowsStand (sorts_in w.table) (trees_in w.table) w.forms p.forms
  pub stand : AllStand (sorts_in w.table) (trees_in w.table) w.path own
  pub sorted : AreFactsSorted (sorts_in w.table) own
  pub later : AllWait (sorts_in w.table) (trees_in w.table) own (length own) (reverse w.waiting) rest
