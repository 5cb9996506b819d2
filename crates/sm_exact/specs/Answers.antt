-- Cited by public clauses: what an answer says of whole numbers, and of a branch.
use Rattle.std.specs.Prelude.{◌≡◌, ◌<◌, ◌≤◌, ◌==◌, ◌⊎◌, ◌↔◌, ℕ, ℤ, pos, if◌then◌else◌, Some, List, [], ◌∷◌, map}
use Rattle.sm_num.specs.Forms.{Linear}
use Rattle.sm_omega.specs.Solving.{Values}
use Rattle.sm_omega.specs.ExactLaws.{AllHold}
use Rattle.sm_term.specs.Assertions.{No}
use Rattle.sm_theory.specs.Facts.{BranchFact, Formal}
use Rattle.sm_theory.specs.ExactLine.{forms_of_branch, exact_adds}
use Rattle.sm_exact.specs.declared.answer.ExactAnswer.{ExactAnswer}
use Rattle.sm_exact.specs.declared.answer.ExactAnswer.TheVariants as answer

-- a number is one of a list
abbrev pub IsIn : ℕ → List ℕ → Type 0
IsIn a [] = ⊥
IsIn a (b ∷ bs) = (a ≡ b) ⊎ IsIn a bs

-- each number of a list is greater than this one
abbrev pub AreAbove : ℕ → List ℕ → Type 0
AreAbove a [] = Unit {0}
AreAbove a (b ∷ bs) = (a < b) × AreAbove a bs

-- each number is greater than those before it, so none is there twice
abbrev pub AreAscending : List ℕ → Type 0
AreAscending [] = Unit {0}
AreAscending (a ∷ ns) = AreAbove a ns × AreAscending ns

-- a variable has a part of one of the forms
abbrev pub IsVariableOf : ℕ → List (Linear ℕ) → Type 0
IsVariableOf a [] = ⊥
IsVariableOf a (f ∷ fs) = IsIn a (map (λ p. p.0) f.parts) ⊎ IsVariableOf a fs

-- the value of a variable by pairs of both, 0 where it has none
abbrev pub value_by : List (ℕ × ℤ) → Values
value_by [] a = pos 0
value_by (p ∷ ps) a = if p.0 == a then p.1 else value_by ps a

-- no whole numbers satisfy forms that are refuted, and the values of a solution satisfy each form
abbrev pub IsRight : List (Linear ℕ) → ExactAnswer → Type 0
IsRight fs (answer.Refuted count) = (v : Values) → AllHold v fs → ⊥
IsRight fs (answer.Solution pairs) = AllHold (value_by pairs.list.items) fs
IsRight fs answer.Steps = Unit {0}
IsRight fs (answer.Beyond op y z) = Unit {0}

-- a solution has a value for each variable of the forms and no others, by ascending variable, once
abbrev pub HasVariables : List (Linear ℕ) → ExactAnswer → Type 0
HasVariables fs (answer.Refuted count) = Unit {0}
HasVariables fs (answer.Solution pairs) =
    let atoms = map (λ p. p.0) pairs.list.items in
    AreAscending atoms × ((a : ℕ) → IsIn a atoms ↔ IsVariableOf a fs)
HasVariables fs answer.Steps = Unit {0}
HasVariables fs (answer.Beyond op y z) = Unit {0}

-- the exact line with the count of a refutation adds that nothing holds on each branch whose linear
-- facts, by the places of their atoms, are these forms in order
abbrev pub ClosesBranches : List (Linear ℕ) → ExactAnswer → Type 0
ClosesBranches fs (answer.Refuted count) =
    (facts : List BranchFact) → count ≤ 1000000 → forms_of_branch facts ≡ Some fs →
    exact_adds facts count ≡ Some (Formal No)
ClosesBranches fs (answer.Solution pairs) = Unit {0}
ClosesBranches fs answer.Steps = Unit {0}
ClosesBranches fs (answer.Beyond op y z) = Unit {0}
