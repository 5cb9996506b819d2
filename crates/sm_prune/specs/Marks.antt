-- Private: marks of the terms and formulas that lines name that are left.
use Rattle.std.specs.Prelude.{◌≡◌, ℕ, ◌<◌, Bool, false, ◌||◌, List, [], ◌∷◌, ◌++◌, length, map, reverse, get_or}
use Rattle.sm_proof.specs.Lines.{ProofLine, line_of}
use Rattle.sm_proof.specs.declared.line.Line.{Line}
use Rattle.sm_prune.specs.declared.told.Told.{Told}
use Rattle.sm_prune.specs.LineNumbers.{names_term, names_form}
use Rattle.sm_prune.specs.LeftLines.{left_passes, terms_after, forms_after, AreTold}

-- there is a mark for each of the first `at` numbers, and it tells whether the number is wanted
abbrev pub AreMarks : ℕ → (ℕ → Bool) → List Bool → Type 0
AreMarks at wanted marks =
    (length marks ≡ at) × ((n : ℕ) → n < at → get_or marks n false ≡ wanted n)

-- the numbers that are named are marked too
abbrev pub MarksMore : (ℕ → Bool) → List Bool → List Bool → Type 0
MarksMore named before after =
    (length after ≡ length before)
    × ((n : ℕ) → n < length before → get_or after n false ≡ (named n || get_or before n false))

-- the marks of terms and of formulas before lines of which it is told whether they are left
abbrev pub AreMarked : ℕ → ℕ → List Bool → List Bool → List Bool → List ProofLine → Type 0
AreMarked terms forms marks form_marks bs lines =
    AreMarks terms (λ (n : ℕ). left_passes (names_term n) bs lines) marks
    × AreMarks forms (λ (n : ℕ). left_passes (names_form n) bs lines) form_marks

-- how many terms stand after lines, before which so many stand
abbrev pub terms_past : ℕ → List ProofLine → ℕ
terms_past n [] = n
terms_past n (line ∷ lines) = terms_past (terms_after n line) lines

-- how many formulas stand after lines, before which so many stand
abbrev pub forms_past : ℕ → List ProofLine → ℕ
forms_past n [] = n
forms_past n (line ∷ lines) = forms_past (forms_after n line) lines

-- of each line of the program whether it is left, and the line
abbrev pub answers_of : List Told → List Bool
answers_of ts = map (λ (t : Told). t.left) ts

abbrev pub lines_told : List Told → List ProofLine
lines_told ts = map (λ (t : Told). line_of t.line) ts

-- of all lines these are before those of which it is told whether they are left, the last first, and
-- marks tell what these name
pub record IsTelling (all before : List Line) (ts : List Told) (marks form_marks : List Bool) : Type 0
  where
    pub same : map line_of before ++ lines_told (reverse ts) ≡ map line_of all
    pub told :
        AreTold (terms_past 0 (map line_of before)) (forms_past 0 (map line_of before))
        (answers_of (reverse ts)) (lines_told (reverse ts))
    pub marked :
        AreMarked (terms_past 0 (map line_of before)) (forms_past 0 (map line_of before)) marks
        form_marks (answers_of (reverse ts)) (lines_told (reverse ts))
