-- Private: terms, formulas and lines under other numbers: the new number of a term stands in a list
-- at the place that the old one tells.
use Rattle.std.specs.Prelude.{◌≡◌, ℕ, List, map, length}
use Rattle.sm_term.specs.declared.term.TermId.{TermId}
use Rattle.sm_term.specs.Terms.{Tree}
use Rattle.sm_term.specs.Formulas.{NumberedFormula, Yes, No, Eq, Ne, Le, Lt, And, Or}
use Rattle.sm_theory.specs.Named.{with_terms}
use Rattle.sm_theory.specs.Views.{line_in, numbered_line, number_under}
use Rattle.sm_theory.specs.declared.line.CertLine.{CertLine}
use Rattle.sm_cert.specs.Views.{AreLinesWithin}
use Rattle.sm_list.specs.Renumbered.{AreTermsOf}

-- a formula under other numbers
abbrev pub formula_under : (ℕ → ℕ) → NumberedFormula → NumberedFormula
formula_under new Yes = Yes
formula_under new No = No
formula_under new (Eq t u) = Eq (new t) (new u)
formula_under new (Ne t u) = Ne (new t) (new u)
formula_under new (Le t u) = Le (new t) (new u)
formula_under new (Lt t u) = Lt (new t) (new u)
formula_under new (And p q) = And (formula_under new p) (formula_under new q)
formula_under new (Or p q) = Or (formula_under new p) (formula_under new q)

-- a line under other numbers
abbrev pub IsLineUnder : List TermId → CertLine → CertLine → Type 0
IsLineUnder numbers old new = numbered_line new ≡ with_terms (number_under numbers) (numbered_line old)

-- lines under other numbers stand for the same, and their terms are in the other table
abbrev pub AreLinesUnder : List TermId → List CertLine → List CertLine → Type 0
AreLinesUnder numbers old new =
    (trees others : List Tree) →
    AreTermsOf others numbers trees → AreLinesWithin (length trees) old →
    (map (line_in others) new ≡ map (line_in trees) old) × AreLinesWithin (length others) new
