-- Cited by public clauses: laws of lines, for all declarations, structures and facts.
use Rattle.std.specs.Prelude.{◌≡◌, ℕ, Option, Some, List, [], ◌∷◌, length}
use Rattle.sm_syntax.specs.text.Sorts.{Sorts}
use Rattle.sm_term.specs.Structures.{Structure}
use Rattle.sm_theory.specs.Facts.{BranchFact, IsFact, AreFacts}
use Rattle.sm_theory.specs.Lines.{CertificateLine}
use Rattle.sm_theory.specs.Equality.{equality_adds}
use Rattle.sm_theory.specs.Elements.{element_adds}
use Rattle.sm_theory.specs.Arithmetic.{arithmetic_adds}
use Rattle.sm_theory.specs.Ways.{ways}
use Rattle.sm_theory.specs.SortedFacts.{IsFactSorted, AreFactsSorted, IsFactBelow, AreFactsBelow, IsLineSorted, IsLineBelow}
use Rattle.sm_theory.specs.Named.{facts_added}
use Rattle.sm_theory.specs.Moved.{moved_line, ReadsAlike}

-- what a theory adds: a fact or none, by the facts and the line
abbrev pub TheoryAdds : Type 0
TheoryAdds = Sorts → List BranchFact → CertificateLine → Option BranchFact

-- what is added holds wherever the facts do
abbrev pub AddsWhatHolds : TheoryAdds → Type 0
AddsWhatHolds adds =
    (sorts : Sorts) (m : Structure) (facts : List BranchFact) (line : CertificateLine) (k : BranchFact) →
    AreFactsSorted sorts facts → IsLineSorted sorts line → adds sorts facts line ≡ Some k →
    AreFacts m facts → IsFact m k

-- what is added is sorted where the facts and the line are
abbrev pub AddsWhatIsSorted : TheoryAdds → Type 0
AddsWhatIsSorted adds =
    (sorts : Sorts) (facts : List BranchFact) (line : CertificateLine) (k : BranchFact) →
    AreFactsSorted sorts facts → IsLineSorted sorts line → adds sorts facts line ≡ Some k →
    IsFactSorted sorts k

-- what is added names no new value but of nodes that the facts and the line may name
abbrev pub AddsWhatIsBelow : TheoryAdds → Type 0
AddsWhatIsBelow adds =
    (sorts : Sorts) (node : ℕ) (facts : List BranchFact) (line : CertificateLine) (k : BranchFact) →
    AreFactsBelow node facts → IsLineBelow node line → adds sorts facts line ≡ Some k →
    IsFactBelow node k

-- what is added is added on another branch on which the line reads the same, with the numbers there
abbrev pub AddsAnywhere : TheoryAdds → Type 0
AddsAnywhere adds =
    (sorts : Sorts) (move : ℕ → ℕ) (facts others : List BranchFact) (line : CertificateLine)
    (k : BranchFact) →
    ReadsAlike move facts others line → adds sorts facts line ≡ Some k →
    adds sorts others (moved_line move line) ≡ Some k

-- in none of the ways do all the facts that it adds hold
abbrev pub NoWayHolds : Structure → List (List BranchFact) → Type 0
NoWayHolds m [] = Unit {0}
NoWayHolds m (way ∷ rest) = (AreFacts m way → ⊥) × NoWayHolds m rest

-- where the facts hold, not every way in which the branch goes on fails
abbrev pub SomeWayHolds : Type 0
SomeWayHolds =
    (sorts : Sorts) (m : Structure) (facts : List BranchFact) (line : CertificateLine)
    (to : List (List BranchFact)) →
    AreFactsSorted sorts facts → IsLineSorted sorts line → ways sorts facts line ≡ Some to →
    AreFacts m facts → NoWayHolds m to → ⊥

-- something is so of each fact of each way
abbrev pub EachWay : (List BranchFact → Type 0) → List (List BranchFact) → Type 0
EachWay P [] = Unit {0}
EachWay P (way ∷ rest) = P way × EachWay P rest

-- what a way adds is sorted
abbrev pub WaysAreSorted : Type 0
WaysAreSorted =
    (sorts : Sorts) (facts : List BranchFact) (line : CertificateLine) (to : List (List BranchFact)) →
    AreFactsSorted sorts facts → IsLineSorted sorts line → ways sorts facts line ≡ Some to →
    EachWay (AreFactsSorted sorts) to

-- what a way adds names no new value but of nodes that the facts and the line may name
abbrev pub WaysAreBelow : Type 0
WaysAreBelow =
    (sorts : Sorts) (node : ℕ) (facts : List BranchFact) (line : CertificateLine)
    (to : List (List BranchFact)) →
    AreFactsBelow node facts → IsLineBelow node line → ways sorts facts line ≡ Some to →
    EachWay (AreFactsBelow node) to

-- each way has as many facts as the line adds
abbrev pub WaysAddSoMany : Type 0
WaysAddSoMany =
    (sorts : Sorts) (facts : List BranchFact) (line : CertificateLine) (to : List (List BranchFact)) →
    ways sorts facts line ≡ Some to →
    EachWay (λ (way : List BranchFact). length way ≡ facts_added line) to

-- the ways are the same on another branch on which the line reads the same
abbrev pub WaysMove : Type 0
WaysMove =
    (sorts : Sorts) (move : ℕ → ℕ) (facts others : List BranchFact) (line : CertificateLine)
    (to : List (List BranchFact)) →
    ReadsAlike move facts others line → ways sorts facts line ≡ Some to →
    ways sorts others (moved_line move line) ≡ Some to

-- the three theories
abbrev pub equality : TheoryAdds
equality = equality_adds

abbrev pub arrays : TheoryAdds
arrays sorts = element_adds

abbrev pub arithmetic : TheoryAdds
arithmetic = arithmetic_adds
