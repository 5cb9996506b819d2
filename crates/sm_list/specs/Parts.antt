-- Cited by public clauses: formulas of the program as formulas over numbers and over trees.
use Rattle.std.specs.Prelude.{ℕ, Option, Some, None, List, [], ◌∷◌, map, get_or}
use Rattle.sm_syntax.specs.text.Sorts.{Sorts}
use Rattle.sm_term.specs.Terms.{Tree}
use Rattle.sm_term.specs.Assertions.{Assertion}
use Rattle.sm_term.specs.Formulas.{NumberedFormula, Yes, No, Eq, Ne, Le, Lt, And, Or, numbered, assertion_in, IsFormulaWithin}
use Rattle.sm_term.specs.declared.formula.Formula.{Formula}

-- the formulas over numbers of terms
abbrev pub all_numbered : List Formula → List NumberedFormula
all_numbered fs = map numbered fs

-- the formulas over the trees of a table
abbrev pub assertions_in : Sorts → List Tree → List NumberedFormula → List Assertion
assertions_in sorts trees fs = map (assertion_in sorts trees) fs

-- the terms of formulas are in a table of `count` terms
abbrev pub AreFormulasWithin : ℕ → List NumberedFormula → Type 0
AreFormulasWithin count [] = Unit {0}
AreFormulasWithin count (f ∷ fs) = IsFormulaWithin count f × AreFormulasWithin count fs

-- the two parts of a conjunction, over numbers of terms
abbrev pub numbered_parts : NumberedFormula → List NumberedFormula
numbered_parts Yes = []
numbered_parts No = []
numbered_parts (Eq t u) = []
numbered_parts (Ne t u) = []
numbered_parts (Le t u) = []
numbered_parts (Lt t u) = []
numbered_parts (And p q) = p ∷ q ∷ []
numbered_parts (Or p q) = []

-- two formulas or none
abbrev pub pair_numbered : Option (Formula × Formula) → List NumberedFormula
pair_numbered None = []
pair_numbered (Some p) = numbered p.0 ∷ numbered p.1 ∷ []

-- the formula at a place
abbrev pub numbered_at : List Formula → ℕ → NumberedFormula
numbered_at fs n = get_or (all_numbered fs) n Yes
