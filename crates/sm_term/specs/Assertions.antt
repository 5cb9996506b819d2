-- Cited by public clauses: formulas over terms, and when they hold in a structure. `Or` is read by
-- cases that can't both fail, so that each formula holds where it can't fail.
use Rattle.std.specs.Prelude.{◌≤ℤ◌, ◌<ℤ◌, List, [], ◌∷◌, ◌++◌}
use Rattle.sm_syntax.specs.declared.tree.Sort.{Sort}
use Rattle.sm_syntax.specs.SameAs.{SameAs}
use Rattle.sm_syntax.specs.claim.Stores.{number}
use Rattle.sm_term.specs.Terms.{Tree}
use Rattle.sm_term.specs.Structures.{Structure, meaning}

-- a formula; an equation or its contrary is between values of one sort
pub data Assertion : Type 0 where
  Yes No : Assertion
  Eq Ne : Sort → Tree → Tree → Assertion
  Le Lt : Tree → Tree → Assertion
  And Or : Assertion → Assertion → Assertion

-- a formula holds in a structure
abbrev pub Holds : Structure → Assertion → Type 0
Holds m Yes = Unit {0}
Holds m No = ⊥
Holds m (Eq sort t u) = SameAs sort (meaning m t) (meaning m u)
Holds m (Ne sort t u) = SameAs sort (meaning m t) (meaning m u) → ⊥
Holds m (Le t u) = number (meaning m t) ≤ℤ number (meaning m u)
Holds m (Lt t u) = number (meaning m t) <ℤ number (meaning m u)
Holds m (And p q) = Holds m p × Holds m q
Holds m (Or p q) = (Holds m p → ⊥) → (Holds m q → ⊥) → ⊥

-- each of these holds
abbrev pub AllHold : Structure → List Assertion → Type 0
AllHold m [] = Unit {0}
AllHold m (f ∷ fs) = Holds m f × AllHold m fs

-- the formula that says the contrary
abbrev pub negate : Assertion → Assertion
negate Yes = No
negate No = Yes
negate (Eq sort t u) = Ne sort t u
negate (Ne sort t u) = Eq sort t u
negate (Le t u) = Lt u t
negate (Lt t u) = Le u t
negate (And p q) = Or (negate p) (negate q)
negate (Or p q) = And (negate p) (negate q)

-- the parts of a conjunction, in order
abbrev pub conj : Assertion → List Assertion
conj Yes = []
conj No = No ∷ []
conj (Eq sort t u) = Eq sort t u ∷ []
conj (Ne sort t u) = Ne sort t u ∷ []
conj (Le t u) = Le t u ∷ []
conj (Lt t u) = Lt t u ∷ []
conj (And p q) = conj p ++ conj q
conj (Or p q) = Or p q ∷ []

-- in each structure in which the facts hold, the goal holds
abbrev pub IsValid : List Assertion → Assertion → Type 0
IsValid facts goal = (m : Structure) → AllHold m facts → Holds m goal

-- no structure makes all facts hold
abbrev pub IsRefuted : List Assertion → Type 0
IsRefuted facts = (m : Structure) → AllHold m facts → ⊥
