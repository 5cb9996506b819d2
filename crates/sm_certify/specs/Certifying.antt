-- Private: certificates of branches that are closed at once.
use Rattle.std.specs.Prelude.{◌≡◌, ℕ, Option, Some, None, List, length}
use Rattle.sm_term.specs.Formulas.{NumberedFormula, Yes, No, Eq, Ne, Le, Lt, And, Or}
use Rattle.sm_term.specs.declared.formula.Formula.{Formula}
use Rattle.sm_term.specs.Tables.{TableValue, trees_in, sorts_in}
use Rattle.sm_term.specs.declared.term.TermId.{TermId}
use Rattle.sm_theory.specs.Facts.{as_facts}
use Rattle.sm_cert.specs.Certificates.{splits_above}
use Rattle.sm_cert.specs.Views.{certificate_in, lines_of, AreLinesWithin}
use Rattle.sm_cert.specs.declared.tree.CertTree.{CertTree}
use Rattle.sm_certify.specs.Refutes.{Refutes}
use Rattle.sm_list.specs.Parts.{all_numbered, assertions_in}

-- the numbers of the two terms of the contrary of an equation
abbrev pub contrary_numbers : NumberedFormula → Option (ℕ × ℕ)
contrary_numbers Yes = None
contrary_numbers No = None
contrary_numbers (Eq t u) = None
contrary_numbers (Ne t u) = Some (t, u)
contrary_numbers (Le t u) = None
contrary_numbers (Lt t u) = None
contrary_numbers (And p q) = None
contrary_numbers (Or p q) = None

-- the numbers of two terms or none
abbrev pub pair_of_numbers : Option (TermId × TermId) → Option (ℕ × ℕ)
pair_of_numbers None = None
pair_of_numbers (Some p) = Some (p.0.0, p.1.0)

-- a certificate with no split refutes the branch of facts, and names terms of the table alone
pub record IsRefuting (table : TableValue) (facts : List Formula) (c : CertTree) : Type 0 where
  pub refutes :
      Refutes (sorts_in table)
      (as_facts (assertions_in (sorts_in table) (trees_in table) (all_numbered facts)))
      (certificate_in (trees_in table) c)
  pub within : AreLinesWithin (length (trees_in table)) (lines_of c)
  pub splits : splits_above (certificate_in (trees_in table) c) ≡ 0
