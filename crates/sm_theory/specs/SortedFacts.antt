-- Cited by public clauses: facts and lines whose terms have the sorts with which they are used, and
-- those that name only new values of nodes below a number.
use Rattle.std.specs.Prelude.{◌≢◌, ℕ, ℤ, pos, List, [], ◌∷◌}
use Rattle.sm_syntax.specs.text.Sorts.{Sorts}
use Rattle.sm_syntax.specs.declared.tree.Sort.TheVariants.{Num}
use Rattle.sm_term.specs.Terms.{Tree}
use Rattle.sm_term.specs.Sorted.{IsSorted, HasSort, IsFormSorted}
use Rattle.sm_term.specs.Fresh.{IsBelow, IsFormBelow}
use Rattle.sm_theory.specs.Facts.{BranchFact, Formal, Sum}
use Rattle.sm_theory.specs.Lines.{CertificateLine}
use Rattle.sm_theory.specs.Named.{EachNamed}

-- something is so of the term of each part
abbrev pub EachAtom : (Tree → Type 0) → List (Tree × ℤ) → Type 0
EachAtom P [] = Unit {0}
EachAtom P (p ∷ ps) = P p.0 × EachAtom P ps

-- each term stands once, and no coefficient is 0: a sum of forms is computed part by part, and is
-- wrong where the first has a term twice
abbrev pub StandOnce : List (Tree × ℤ) → Type 0
StandOnce [] = Unit {0}
StandOnce (p ∷ ps) = (p.1 ≢ pos 0) × EachAtom (λ (t : Tree). p.0 ≢ t) ps × StandOnce ps

-- the terms of a fact are sorted, and the atoms of a form are numbers, each of which stands once
abbrev pub IsFactSorted : Sorts → BranchFact → Type 0
IsFactSorted sorts (Formal f) = IsFormSorted sorts f
IsFactSorted sorts (Sum f) = EachAtom (HasSort sorts Num) f.parts × StandOnce f.parts

-- each fact is sorted
abbrev pub AreFactsSorted : Sorts → List BranchFact → Type 0
AreFactsSorted sorts [] = Unit {0}
AreFactsSorted sorts (k ∷ ks) = IsFactSorted sorts k × AreFactsSorted sorts ks

-- a fact names no new value of node k or of a later one
abbrev pub IsFactBelow : ℕ → BranchFact → Type 0
IsFactBelow k (Formal f) = IsFormBelow k f
IsFactBelow k (Sum f) = EachAtom (IsBelow k) f.parts

-- no fact names a new value of node k or of a later one
abbrev pub AreFactsBelow : ℕ → List BranchFact → Type 0
AreFactsBelow k [] = Unit {0}
AreFactsBelow k (f ∷ fs) = IsFactBelow k f × AreFactsBelow k fs

-- the terms that a line names are sorted
abbrev pub IsLineSorted : Sorts → CertificateLine → Type 0
IsLineSorted sorts = EachNamed (IsSorted sorts)

-- the terms that a line names have no new value of node k or of a later one
abbrev pub IsLineBelow : ℕ → CertificateLine → Type 0
IsLineBelow k = EachNamed (IsBelow k)
