-- Cited by public clauses: what an answer tells of the decision.
use Rattle.std.specs.Prelude.{◌≡◌, ◌==◌, nat_lt, ℕ, ℤ, if◌then◌else◌, Some, None, List, [], ◌∷◌, map}
use Rattle.sm_num.specs.Forms.{Linear}
use Rattle.sm_omega.specs.Counting.{Done, Passed, Outside}
use Rattle.sm_omega.specs.Solving.{Values}
use Rattle.sm_omega.specs.Rules.{Answer}
use Rattle.sm_exact.specs.declared.answer.Pairs.{Pairs}
use Rattle.sm_exact.specs.declared.answer.ExactAnswer.{ExactAnswer}
use Rattle.sm_exact.specs.declared.answer.ExactAnswer.TheVariants as answer

-- a variable among ascending ones, once
abbrev pub with_atom : ℕ → List ℕ → List ℕ
with_atom a [] = a ∷ []
with_atom a (b ∷ bs) =
    if nat_lt b a then b ∷ with_atom a bs else if b == a then b ∷ bs else a ∷ b ∷ bs

-- the variables of parts among ascending ones
abbrev pub with_parts : List (ℕ × ℤ) → List ℕ → List ℕ
with_parts [] as_before = as_before
with_parts (p ∷ ps) as_before = with_parts ps (with_atom p.0 as_before)

-- the variables of forms, behind others, by ascending number and once
abbrev pub with_forms : List (Linear ℕ) → List ℕ → List ℕ
with_forms [] atoms = atoms
with_forms (f ∷ fs) atoms = with_forms fs (with_parts f.parts atoms)

-- the variables of forms, by ascending number and once
abbrev pub atoms_of : List (Linear ℕ) → List ℕ
atoms_of fs = with_forms fs []

-- an answer tells what a decision comes to; a solution, by the values of the forms' variables
abbrev pub TellsExact : List (Linear ℕ) → Answer → ExactAnswer → Type 0
TellsExact fs whole (answer.Refuted c) = whole ≡ Done c None
TellsExact fs whole (answer.Solution pairs) =
    (c : ℕ) × (v : Values) × (whole ≡ Done c (Some v))
    × (pairs.list.items ≡ map (λ a. (a, v a)) (atoms_of fs))
TellsExact fs whole answer.Steps = whole ≡ Passed
TellsExact fs whole (answer.Beyond op y z) = whole ≡ Outside op y z
