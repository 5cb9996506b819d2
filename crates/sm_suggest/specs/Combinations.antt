-- Combinations of the fillings that the copies of a task have. Public clauses cite it.
-- A combination is a number. Its digits to base 3 say, hole by hole, whose filling is taken: 0 that
-- of the base, 1 that of A, 2 that of B. The last digit is that of the last hole.
use Rattle.std.specs.Prelude.{ℕ, zero, suc, ◌/◌, ◌%◌, ◌^◌, List, [], ◌∷◌, ◌++◌, length}
use Rattle.sm_syntax.specs.claim.ConflictFree.{Copy, O, A, B}
use Rattle.sm_syntax.specs.claim.Fill.{Fillings, filling}
use Rattle.sm_syntax.specs.text.Conditions.{holes_of}
use Rattle.sm_syntax.specs.text.Parts.{Parts, by_copy}

-- the copy that a digit names
abbrev pub copy_of_digit : ℕ → Copy
copy_of_digit zero = O
copy_of_digit (suc zero) = A
copy_of_digit (suc (suc n)) = B

-- whose filling each of a number of holes takes in combination k, that of the first hole first
abbrev pub choices : ℕ → ℕ → List Copy
choices zero k = []
choices (suc holes) k = choices holes (k / 3) ++ copy_of_digit (k % 3) ∷ []

-- each hole with the filling that its copy has for it
abbrev pub chosen : (Copy → Fillings) → List ℕ → List Copy → Fillings
chosen fillings [] copies = []
chosen fillings (hole ∷ holes) [] = []
chosen fillings (hole ∷ holes) (copy ∷ copies) =
    (hole, filling (fillings copy) hole) ∷ chosen fillings holes copies

-- how many hole statements the shared program has
abbrev pub hole_count : Parts → ℕ
hole_count t = length (holes_of t.shared)

-- how many combinations a task has
abbrev pub combination_count : Parts → ℕ
combination_count t = 3 ^ hole_count t

-- the task with the fillings of combination k as its candidate's, and all else as it was
abbrev pub combination : Parts → ℕ → Parts
combination t k = record t {
  fillings =
      by_copy (t.fillings O) (t.fillings A) (t.fillings B)
      (chosen t.fillings (holes_of t.shared) (choices (hole_count t) k));
}
