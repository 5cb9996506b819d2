-- Private: the lines of a certificate that add the parts of conjunctions.
use Rattle.std.specs.Prelude.{ℕ, suc, List, [], ◌∷◌, ◌++◌}
use Rattle.sm_term.specs.Formulas.{NumberedFormula, Yes, No, Eq, Ne, Le, Lt, And, Or}
use Rattle.sm_theory.specs.Lines.{CertificateLine, Both}
use Rattle.sm_cert.specs.Certificates.{Certificate, Next}

-- the line of the formula with a number, where it is a conjunction
abbrev pub both_line : ℕ → NumberedFormula → List CertificateLine
both_line n Yes = []
both_line n No = []
both_line n (Eq t u) = []
both_line n (Ne t u) = []
both_line n (Le t u) = []
both_line n (Lt t u) = []
both_line n (And p q) = Both n ∷ []
both_line n (Or p q) = []

-- those of formulas whose numbers go on from a number
abbrev pub both_lines : ℕ → List NumberedFormula → List CertificateLine
both_lines n [] = []
both_lines n (f ∷ fs) = both_line n f ++ both_lines (suc n) fs

-- lines that stand above a certificate
abbrev pub led_by : List CertificateLine → Certificate → Certificate
led_by [] c = c
led_by (line ∷ lines) c = Next line (led_by lines c)
