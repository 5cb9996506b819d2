-- Cited by public clauses: what the linear form of a term is worth.
use Rattle.std.specs.Prelude.{◌≡◌}
use Rattle.sm_num.specs.FormLaws.{value_of_form}
use Rattle.sm_term.specs.Terms.{Tree}
use Rattle.sm_term.specs.Structures.{Structure}
use Rattle.sm_theory.specs.Facts.{number_meant}
use Rattle.sm_theory.specs.LinearTerms.{linear_of}

-- in each structure the form of a term has the value that the term has as a number
abbrev pub LinearHasValue : Type 0
LinearHasValue =
    (m : Structure) (t : Tree) →
    value_of_form (number_meant m) (linear_of t) ≡ number_meant m t
