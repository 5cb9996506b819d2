-- Public clauses cite this file.
-- What has a text: a name whose number is below the number n of texts, and a task that some text
-- spells.
use Rattle.std.specs.Prelude.{ℕ, ◌<◌, Option, Some, None, List, [], ◌∷◌}
use Rattle.sm_syntax.specs.declared.tree.Sort.{Sort}
use Rattle.sm_syntax.specs.claim.Syntax.{Expression, Condition, Code}
use Rattle.sm_syntax.specs.claim.Fill.{Fillings}
use Rattle.sm_syntax.specs.text.Parts.{Parts}
use Rattle.sm_syntax.specs.text.Spells.{Spells}
use Rattle.sm_syntax.specs.text.Uses.{EachName, EachTested, EachUsed}

-- a name, of any sort, has a number below n
abbrev pub HasNumberBelow : ℕ → ℕ → Sort → Type 0
HasNumberBelow n x sort = x < n

-- each name of an expression is below n
abbrev pub IsNamedIn : ℕ → Expression → Type 0
IsNamedIn n = EachName (HasNumberBelow n)

-- each name of a condition is
abbrev pub IsTestedIn : ℕ → Condition → Type 0
IsTestedIn n = EachTested (HasNumberBelow n)

-- each name of code is
abbrev pub IsUsedIn : ℕ → Code → Type 0
IsUsedIn n = EachUsed (HasNumberBelow n)

-- each declared name is
abbrev pub AreDeclaredIn : ℕ → List (ℕ × Sort) → Type 0
AreDeclaredIn n [] = Unit {0}
AreDeclaredIn n (d ∷ ds) = (d.0 < n) × AreDeclaredIn n ds

-- each output is
abbrev pub AreOutputsIn : ℕ → List ℕ → Type 0
AreOutputsIn n [] = Unit {0}
AreOutputsIn n (x ∷ xs) = (x < n) × AreOutputsIn n xs

-- each name of the assumption is
abbrev pub IsAssumedIn : ℕ → Option Condition → Type 0
IsAssumedIn n None = Unit {0}
IsAssumedIn n (Some b) = IsTestedIn n b

-- each name of the fillings is
abbrev pub AreFilledIn : ℕ → Fillings → Type 0
AreFilledIn n [] = Unit {0}
AreFilledIn n (f ∷ fs) = IsUsedIn n f.1 × AreFilledIn n fs

-- some text spells the task
abbrev pub HasText : Parts → Type 0
HasText t = (bytes : List ℕ) × Spells bytes t
