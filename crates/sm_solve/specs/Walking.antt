-- Private: what a visit of a branch comes to, and the walk from there on.
use Rattle.std.specs.Prelude.{◌≡◌, ℕ, ◌<◌, ◌≤◌, Option, Some, List, length}
use Rattle.sm_syntax.specs.text.Sorts.{Sorts}
use Rattle.sm_term.specs.Terms.{Tree}
use Rattle.sm_term.specs.Assertions.{Assertion}
use Rattle.sm_theory.specs.Facts.{as_facts}
use Rattle.sm_cert.specs.Certificates.{splits_above}
use Rattle.sm_cert.specs.Views.{certificate_in, lines_of, AreLinesWithin}
use Rattle.sm_cert.specs.declared.tree.CertTree.{CertTree}
use Rattle.sm_solve.specs.declared.visiting.Visit.{Visit}
use Rattle.sm_solve.specs.declared.visiting.Visit.TheVariants as visit
use Rattle.sm_solve.specs.declared.ending.WalkEnd.{WalkEnd}
use Rattle.sm_solve.specs.declared.ending.WalkEnd.TheVariants as ends
use Rattle.sm_solve.specs.declared.solving.Answer.{Answer}
use Rattle.sm_solve.specs.declared.solving.Answer.TheVariants as answer
use Rattle.sm_certify.specs.Refutes.{Refutes}
use Rattle.sm_list.specs.Parts.{all_numbered, assertions_in, AreFormulasWithin}
use Rattle.sm_judge.specs.Holding.{Split}
use Rattle.sm_judge.specs.Splits.{split_told, IsToldWithin, SplitsBranch}
use Rattle.sm_judge.specs.Forms.{Walked, Closes, Opens, TooFar, GoesOut}
use Rattle.sm_solve.specs.Naming.{NameNoMore}
use Rattle.sm_solve.specs.Walk.{by_parts}

-- a certificate of the program closes a branch, with fewer splits above a line than there is room
pub record ClosesIn (sorts : Sorts) (trees : List Tree) (facts : List Assertion) (room : ℕ)
    (tree : CertTree) : Type 0 where
  pub refutes : Refutes sorts (as_facts facts) (certificate_in trees tree)
  pub within : AreLinesWithin (length trees) (lines_of tree)
  pub splits : splits_above (certificate_in trees tree) < room

-- the walk of a branch that is split: without a split it would stay open
abbrev pub by_split :
    (ℕ → List Assertion → Walked) → List Assertion → Option Split → ℕ → Walked
by_split go facts = by_parts go (λ (n : ℕ). Opens facts) facts

-- what a visit tells of the walk from its branch, where it is said how the walk goes on
abbrev pub TellsVisit :
    Sorts → List Tree → List Assertion → (ℕ → List Assertion → Walked) → Visit → Walked → Type 0
TellsVisit sorts trees facts go (visit.Closed count tree) w = w ≡ Closes count
TellsVisit sorts trees facts go visit.Open w = w ≡ Opens facts
TellsVisit sorts trees facts go (visit.Split count split) w =
    w ≡ by_split go facts (split_told sorts trees (Some split)) count
TellsVisit sorts trees facts go visit.Steps w = w ≡ TooFar
TellsVisit sorts trees facts go (visit.Coefficient op y z) w = w ≡ GoesOut op y z

-- what comes with a visit: a certificate that closes the branch, or a split with its line, whose parts
-- name no more terms
abbrev pub ShowsVisit : Sorts → List Tree → List Assertion → Visit → Type 0
ShowsVisit sorts trees facts (visit.Closed count tree) = ClosesIn sorts trees facts 1 tree
ShowsVisit sorts trees facts visit.Open = Unit {0}
ShowsVisit sorts trees facts (visit.Split count split) =
    IsToldWithin (length trees) (Some split) × SplitsBranch sorts trees facts (Some split)
    × NameNoMore sorts trees facts split
ShowsVisit sorts trees facts visit.Steps = Unit {0}
ShowsVisit sorts trees facts (visit.Coefficient op y z) = Unit {0}

-- a count that a visit goes on with is within the steps
abbrev pub IsVisitCounted : ℕ → Visit → Type 0
IsVisitCounted steps (visit.Closed count tree) = count ≤ steps
IsVisitCounted steps visit.Open = Unit {0}
IsVisitCounted steps (visit.Split count split) = count ≤ steps
IsVisitCounted steps visit.Steps = Unit {0}
IsVisitCounted steps (visit.Coefficient op y z) = Unit {0}

-- the end of a walk is what the walk comes to
abbrev pub TellsEnd : Sorts → List Tree → WalkEnd → Walked → Type 0
TellsEnd sorts trees (ends.Closed count tree) w = w ≡ Closes count
TellsEnd sorts trees (ends.Open leaf) w =
    AreFormulasWithin (length trees) (all_numbered leaf.list.items)
    × (w ≡ Opens (assertions_in sorts trees (all_numbered leaf.list.items)))
TellsEnd sorts trees ends.Steps w = w ≡ TooFar
TellsEnd sorts trees (ends.Coefficient op y z) w = w ≡ GoesOut op y z

-- the certificate that comes with it closes the branch from which the walk began
abbrev pub ShowsEnd : Sorts → List Tree → List Assertion → ℕ → WalkEnd → Type 0
ShowsEnd sorts trees facts room (ends.Closed count tree) = ClosesIn sorts trees facts room tree
ShowsEnd sorts trees facts room (ends.Open leaf) = Unit {0}
ShowsEnd sorts trees facts room ends.Steps = Unit {0}
ShowsEnd sorts trees facts room (ends.Coefficient op y z) = Unit {0}

-- its count is within the steps
abbrev pub IsEndCounted : ℕ → WalkEnd → Type 0
IsEndCounted steps (ends.Closed count tree) = count ≤ steps
IsEndCounted steps (ends.Open leaf) = Unit {0}
IsEndCounted steps ends.Steps = Unit {0}
IsEndCounted steps (ends.Coefficient op y z) = Unit {0}

-- the certificate that comes with an answer closes the branch
abbrev pub Shows : Sorts → List Tree → List Assertion → ℕ → Answer → Type 0
Shows sorts trees facts room (answer.Closed tree) = ClosesIn sorts trees facts room tree
Shows sorts trees facts room (answer.Open leaf) = Unit {0}
Shows sorts trees facts room answer.Steps = Unit {0}
Shows sorts trees facts room (answer.Coefficient op y z) = Unit {0}
