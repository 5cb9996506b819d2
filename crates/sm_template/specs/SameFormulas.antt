-- Cited by public clauses: when two formulas are the same.
use Rattle.std.specs.Prelude.{Bool, true, false, ◌&&◌}
use Rattle.sm_term.specs.SameTerms.{same_sort, same_tree}
use Rattle.sm_term.specs.Assertions.{Assertion, Yes, No, Eq, Ne, Le, Lt, And, Or}

-- whether two formulas are the same
abbrev pub same_formula : Assertion → Assertion → Bool
same_formula Yes Yes = true
same_formula No No = true
same_formula (Eq sort t u) (Eq other v w) =
    same_sort sort other && (same_tree t v && same_tree u w)
same_formula (Ne sort t u) (Ne other v w) =
    same_sort sort other && (same_tree t v && same_tree u w)
same_formula (Le t u) (Le v w) = same_tree t v && same_tree u w
same_formula (Lt t u) (Lt v w) = same_tree t v && same_tree u w
same_formula (And p q) (And r s) = same_formula p r && same_formula q s
same_formula (Or p q) (Or r s) = same_formula p r && same_formula q s
same_formula f g = false
