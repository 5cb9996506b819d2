-- Private: lines of certificates that a writer wrote, and what is pending then.
use Rattle.std.specs.Prelude.{◌≡◌, ◌≤◌, ◌+◌, ℕ, ◌||◌, None, List, ◌∷◌, ◌++◌}
use Rattle.sm_syntax.specs.claim.ConflictFree.{Copy}
use Rattle.sm_syntax.specs.text.Sorts.{Sorts}
use Rattle.sm_term.specs.Symbolic.{SymbolicStore}
use Rattle.sm_term.specs.Tables.{TableValue, trees_in}
use Rattle.sm_term.specs.Terms.{Tree}
use Rattle.sm_theory.specs.declared.line.CertLine.{CertLine}
use Rattle.sm_theory.specs.Facts.{BranchFact}
use Rattle.sm_theory.specs.Ways.{adds}
use Rattle.sm_theory.specs.Named.{reads_all}
use Rattle.sm_cert.specs.Certificates.{Certificate, first_bad, splits_above}
use Rattle.sm_cert.specs.NamedTerms.{EachTerm}
use Rattle.sm_cert.specs.Views.{lines_before}
use Rattle.sm_plan.specs.States.{State}
use Rattle.sm_proof.specs.Lines.{Cert}
use Rattle.sm_proof.specs.Passing.{Pending, Branch, Progress}
use Rattle.sm_proof.specs.Verdicts.{Subject}
use Rattle.sm_write.specs.Bytes.{line_text}
use Rattle.sm_write.specs.Seen.{IsBuilt, Seen}
use Rattle.sm_write.specs.Walked.{KeepsNames, Extends, IsSet}
use Rattle.sm_write.specs.Writable.{IsShort}
use Rattle.sm_write.specs.Writers.{WriterValue, Stands}
use Rattle.sm_write.specs.Written.{written, IsLineNamed}

-- a line of a certificate behind the lines of its terms
pub record Wrote (s : Subject) (v : TableValue) (old new : WriterValue) (p : Progress) (l : CertLine)
    : Type 0
  where
    pub mid : WriterValue
    pub extends : Extends s (trees_in v) old mid p
    pub named : IsLineNamed mid.names l
    pub text : new.text ≡ mid.text ++ line_text (Cert (written mid.names l))
    pub exact : new.exact ≡ (reads_all (written mid.names l) || mid.exact)
    pub names : new.names ≡ mid.names
    pub terms : new.terms ≡ mid.terms
    pub forms : new.forms ≡ mid.forms
    pub nodes : new.nodes ≡ mid.nodes

-- a writer went on, and this is pending
pub record Stepped (s : Subject) (trees : List Tree) (old new : WriterValue) (p : Progress)
    (pending : List Pending) : Type 0 where
  pub after : Progress
  pub stands : Stands s trees new after
  pub is : after.pending ≡ pending
  pub nodes : after.nodes ≡ p.nodes
  pub kept : KeepsNames old.names new.names

-- no line of a certificate is bad from a branch on
abbrev pub IsGood : Sorts → List BranchFact → ℕ → Certificate → Type 0
IsGood sorts facts n c = first_bad (adds sorts) sorts facts n c ≡ None

-- what a certificate has to be that is written for a branch under so many splits: it closes the
-- branch, isn't too deep, and has short lines that name what is built of what was seen
pub record Fits (s : Subject) (seen : List State) (facts : List BranchFact) (n splits : ℕ)
    (c : Certificate) : Type 0 where
  pub good : IsGood s.sorts facts n c
  pub few : splits + splits_above c ≤ 1000
  pub each : EachTerm (IsBuilt (Seen seen)) c
  pub short : IsShort c

-- a writer where a branch is due, with a certificate for it
pub record Opens (s : Subject) (v : TableValue) (w : WriterValue) (seen : List State) (p : Progress)
    (stores : Copy → SymbolicStore) (facts : List BranchFact) (n splits : ℕ) (rest : List Pending)
    (c : Certificate) : Type 0 where
  pub set : IsSet s v w seen p
  pub due : p.pending ≡ Branch stores facts splits ∷ rest
  pub fits : Fits s seen facts n splits c

-- lines were written, and with more facts a certificate is left for the branch
pub record Leaves (s : Subject) (v : TableValue) (old new : WriterValue) (seen : List State)
    (p : Progress) (stores : Copy → SymbolicStore) (splits : ℕ) (rest : List Pending)
    (c : Certificate) : Type 0 where
  pub facts : List BranchFact
  pub line : ℕ
  pub stepped : Stepped s (trees_in v) old new p (Branch stores facts splits ∷ rest)
  pub fits : Fits s seen facts line splits c

-- of these lines those are left to be written
abbrev pub LinesLeft :
    TableValue → WriterValue → WriterValue → List CertLine → List CertLine → Type 0
LinesLeft v old new lines later =
    (s : Subject) (seen : List State) (p : Progress) (stores : Copy → SymbolicStore)
    (facts : List BranchFact) (n splits : ℕ) (rest : List Pending) (c : Certificate) →
    Opens s v old seen p stores facts n splits rest (lines_before (trees_in v) lines c) →
    Leaves s v old new seen p stores splits rest (lines_before (trees_in v) later c)

-- a certificate was written: the branch isn't pending any more
abbrev pub ClosesBranch : TableValue → WriterValue → WriterValue → Certificate → Type 0
ClosesBranch v old new c =
    (s : Subject) (seen : List State) (p : Progress) (stores : Copy → SymbolicStore)
    (facts : List BranchFact) (n splits : ℕ) (rest : List Pending) →
    Opens s v old seen p stores facts n splits rest c → Stepped s (trees_in v) old new p rest
