-- Private: the lines of a file that are left, where lines that make terms and formulas go that no line
-- names that is left.
use Rattle.std.specs.Prelude.{◌≡◌, ℕ, suc, Bool, true, false, ◌&&◌, ◌||◌, if◌then◌else◌, List, [], ◌∷◌, ◌++◌, length, get_or}
use Rattle.sm_proof.specs.Lines.{ProofLine, Header, Term, Form, Node, Cert}
use Rattle.sm_prune.specs.LineNumbers.{names_term, names_form, renumbered}

-- whether a line that is left passes a test. For each line it is told whether it is left
abbrev pub left_passes : (ProofLine → Bool) → List Bool → List ProofLine → Bool
left_passes test [] lines = false
left_passes test (b ∷ bs) [] = false
left_passes test (b ∷ bs) (line ∷ lines) = (b && test line) || left_passes test bs lines

-- how many terms stand before the next line
abbrev pub terms_after : ℕ → ProofLine → ℕ
terms_after n (Header version) = n
terms_after n (Term t) = suc n
terms_after n (Form f) = n
terms_after n (Node m) = n
terms_after n (Cert l) = n

-- how many formulas stand before the next line
abbrev pub forms_after : ℕ → ProofLine → ℕ
forms_after n (Header version) = n
forms_after n (Term t) = n
forms_after n (Form f) = suc n
forms_after n (Node m) = n
forms_after n (Cert l) = n

-- whether a line is left, before which so many terms and formulas stand, and behind which these lines
abbrev pub is_left : ℕ → ℕ → ProofLine → List Bool → List ProofLine → Bool
is_left terms forms (Header version) bs lines = true
is_left terms forms (Term t) bs lines = left_passes (names_term terms) bs lines
is_left terms forms (Form f) bs lines = left_passes (names_form forms) bs lines
is_left terms forms (Node n) bs lines = true
is_left terms forms (Cert l) bs lines = true

-- it is told of each line whether it is left
abbrev pub AreTold : ℕ → ℕ → List Bool → List ProofLine → Type 0
AreTold terms forms [] [] = Unit {0}
AreTold terms forms [] (line ∷ lines) = ⊥
AreTold terms forms (b ∷ bs) [] = ⊥
AreTold terms forms (b ∷ bs) (line ∷ lines) =
    (b ≡ is_left terms forms line bs lines)
    × AreTold (terms_after terms line) (forms_after forms line) bs lines

-- the new number of each term and each formula so far, and how many are left of them; one that isn't
-- left has the number of the next that is
pub record Numbering : Type 0 where
  pub terms : List ℕ
  pub forms : List ℕ
  pub terms_left : ℕ
  pub forms_left : ℕ

-- no term and no formula so far
abbrev pub no_numbers : Numbering
no_numbers = record { terms = []; forms = []; terms_left = 0; forms_left = 0 }

-- one more, if a line is left
abbrev pub more_if : Bool → ℕ → ℕ
more_if b n = if b then suc n else n

-- the numbers behind a line that is left or isn't
abbrev pub numbers_after : Bool → ProofLine → Numbering → Numbering
numbers_after b (Header version) m = m
numbers_after b (Term t) m =
    record m { terms = m.terms ++ m.terms_left ∷ []; terms_left = more_if b m.terms_left }
numbers_after b (Form f) m =
    record m { forms = m.forms ++ m.forms_left ∷ []; forms_left = more_if b m.forms_left }
numbers_after b (Node n) m = m
numbers_after b (Cert l) m = m

-- a new number
abbrev pub new_number : List ℕ → ℕ → ℕ
new_number moved n = get_or moved n 0

-- a line by the new numbers
abbrev pub line_by : Numbering → ProofLine → ProofLine
line_by m line = renumbered (new_number m.terms) (new_number m.forms) line

-- a line before others, if it is left
abbrev pub line_before : Bool → ProofLine → List ProofLine → List ProofLine
line_before b line lines = if b then line ∷ lines else lines

-- the lines that are left, by their new numbers
abbrev pub left_lines : Numbering → List Bool → List ProofLine → List ProofLine
left_lines m [] lines = []
left_lines m (b ∷ bs) [] = []
left_lines m (b ∷ bs) (line ∷ lines) =
    line_before b (line_by m line) (left_lines (numbers_after b line m) bs lines)
