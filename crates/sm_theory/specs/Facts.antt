-- Cited by public clauses: facts about terms, which are formulas and linear forms, and when they
-- hold.
use Rattle.std.specs.Prelude.{ℤ, List, [], ◌∷◌, map}
use Rattle.sm_num.specs.Forms.{Linear, HoldsAt}
use Rattle.sm_syntax.specs.claim.Stores.{number}
use Rattle.sm_term.specs.Terms.{Tree}
use Rattle.sm_term.specs.Structures.{Structure, meaning}
use Rattle.sm_term.specs.Assertions.{Assertion, Holds}

-- what is known on a branch: a formula, or a linear form whose atoms are terms
pub data BranchFact : Type 0 where
  Formal : Assertion → BranchFact
  Sum : Linear Tree → BranchFact

-- the whole number that a term means
abbrev pub number_meant : Structure → Tree → ℤ
number_meant m t = number (meaning m t)

-- a fact holds in a structure
abbrev pub IsFact : Structure → BranchFact → Type 0
IsFact m (Formal f) = Holds m f
IsFact m (Sum f) = HoldsAt (number_meant m) f

-- each of these does
abbrev pub AreFacts : Structure → List BranchFact → Type 0
AreFacts m [] = Unit {0}
AreFacts m (k ∷ ks) = IsFact m k × AreFacts m ks

-- no structure makes all facts hold
abbrev pub IsContradictory : List BranchFact → Type 0
IsContradictory facts = (m : Structure) → AreFacts m facts → ⊥

-- formulas as facts
abbrev pub as_facts : List Assertion → List BranchFact
as_facts fs = map Formal fs
