-- Private: certificates that close branches, each branch alone.
use Rattle.std.specs.Prelude.{◌≡◌, ℕ, Bool, Ok, Option, Some, None, List, [], ◌∷◌, ◌++◌, take}
use Rattle.sm_syntax.specs.text.Sorts.{Sorts}
use Rattle.sm_term.specs.Terms.{Tree}
use Rattle.sm_theory.specs.Facts.{BranchFact}
use Rattle.sm_theory.specs.SortedFacts.{IsFactSorted, AreFactsSorted}
use Rattle.sm_theory.specs.Views.{FactStands, AllStand}
use Rattle.sm_theory.specs.declared.fact.Fact.{Fact}
use Rattle.sm_proof.specs.Lines.{NumberedLine, Cert}
use Rattle.sm_proof.specs.Passing as plain
use Rattle.sm_proof.specs.Passing.{Pending, Branch}
use Rattle.sm_proof.specs.Versions.{read_with}
use Rattle.sm_check.specs.declared.openings.Opening.{Opening}
use Rattle.sm_check.specs.declared.pending.Due.{Due}
use Rattle.sm_check.specs.declared.pending.Due.TheVariants as due
use Rattle.sm_check.specs.declared.pending.Waiting.{Waiting}
use Rattle.sm_check.specs.declared.pending.Waiting.TheVariants as waits
use Rattle.sm_check.specs.CertsTaken.{pending_after}

-- a line of a certificate, by its bytes, leads from what is pending to this, where lines `exact`
-- may stand or may not
abbrev pub LeadsTo :
    (exact : Bool) → Sorts → List Tree → List Pending → List ℕ → List Pending → Type 0
LeadsTo exact sorts terms [] line after = ⊥
LeadsTo exact sorts terms (plain.Due st above ∷ rest) line after = ⊥
LeadsTo exact sorts terms (Branch held own splits ∷ rest) line after =
    (l : NumberedLine) × (read_with exact line ≡ Ok (Cert l))
    × (pending_after sorts terms held own splits rest l ≡ Ok after)

-- lines of a certificate close all that is pending, exactly at their end
abbrev pub Closes : (exact : Bool) → Sorts → List Tree → List Pending → List (List ℕ) → Type 0
Closes exact sorts terms pending [] = pending ≡ []
Closes exact sorts terms pending (line ∷ lines) =
    (after : List Pending) × LeadsTo exact sorts terms pending line after
    × Closes exact sorts terms after lines

-- certificates close the first branches that are pending, one each
abbrev pub CloseFirst :
    (exact : Bool) → Sorts → List Tree → List Pending → List (List (List ℕ)) → Type 0
CloseFirst exact sorts terms pending [] = Unit {0}
CloseFirst exact sorts terms [] (lines ∷ more) = ⊥
CloseFirst exact sorts terms (p ∷ rest) (lines ∷ more) =
    Closes exact sorts terms (p ∷ []) lines × CloseFirst exact sorts terms rest more

-- a branch under no split is due
abbrev pub IsGoalDue : Option Due → Type 0
IsGoalDue None = ⊥
IsGoalDue (Some (due.State state above)) = ⊥
IsGoalDue (Some (due.Branch stores splits)) = splits ≡ 0

-- a branch under no split waits
abbrev pub IsGoalWaiting : Waiting → Type 0
IsGoalWaiting (waits.State shared kept more state above) = ⊥
IsGoalWaiting (waits.Branch shared fact stores splits) = splits ≡ 0

-- a fact or none stands for sorted facts, one or none
abbrev pub MoreStands : Sorts → List Tree → Option Fact → List BranchFact → Type 0
MoreStands sorts trees None more = more ≡ []
MoreStands sorts trees (Some f) more =
    (k : BranchFact) × FactStands sorts trees f k × IsFactSorted sorts k × (more ≡ k ∷ [])

-- an opening of a path with these facts stands for a branch under no split
abbrev pub OpensAs : Sorts → List Tree → List BranchFact → Opening → Pending → Type 0
OpensAs sorts trees facts o (plain.Due st above) = ⊥
OpensAs sorts trees facts o (Branch held own splits) =
    (splits ≡ 0)
    × ((more : List BranchFact) × MoreStands sorts trees o.denied more
    × (own ≡ take o.shared facts ++ more))

-- openings stand for what is pending first
abbrev pub OpenFirst : Sorts → List Tree → List BranchFact → List Opening → List Pending → Type 0
OpenFirst sorts trees facts [] pending = Unit {0}
OpenFirst sorts trees facts (o ∷ os) [] = ⊥
OpenFirst sorts trees facts (o ∷ os) (p ∷ rest) =
    OpensAs sorts trees facts o p × OpenFirst sorts trees facts os rest

-- lines close each branch that an opening of a path stands for
abbrev pub Passes :
    (exact : Bool) → Sorts → List Tree → List Tree → List Fact → Opening → List (List ℕ) → Type 0
Passes exact sorts trees terms path o lines =
    (facts : List BranchFact) (p : Pending) → AllStand sorts trees path facts →
    AreFactsSorted sorts facts → OpensAs sorts trees facts o p →
    Closes exact sorts terms (p ∷ []) lines
