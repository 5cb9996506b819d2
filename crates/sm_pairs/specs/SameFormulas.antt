-- When two formulas are the same, by their numbers of terms. Public clauses cite it.
use Rattle.std.specs.Prelude.{◌&&◌, ◌==◌, Bool, true, false}
use Rattle.sm_term.specs.Formulas.{NumberedFormula, Yes, No, Eq, Ne, Le, Lt, And, Or}

-- whether two formulas are the same, by numbers of terms
abbrev pub same_numbered : NumberedFormula → NumberedFormula → Bool
same_numbered Yes Yes = true
same_numbered No No = true
same_numbered (Eq t u) (Eq v w) = (t == v) && (u == w)
same_numbered (Ne t u) (Ne v w) = (t == v) && (u == w)
same_numbered (Le t u) (Le v w) = (t == v) && (u == w)
same_numbered (Lt t u) (Lt v w) = (t == v) && (u == w)
same_numbered (And p q) (And r s) = same_numbered p r && same_numbered q s
same_numbered (Or p q) (Or r s) = same_numbered p r && same_numbered q s
same_numbered f g = false
