-- The contrary of a formula over numbers is the negation of the formula over trees.
use Rattle.sm_term.proofs.Imports.{◌≡◌, List, refl, Sorts, Tree, negate, NumberedFormula, contrary, assertion_in}
use Rattle.sm_term.specs.Formulas.{Yes, No, Eq, Ne, Le, Lt, And, Or}

-- the contrary over numbers, and over trees
pub contrary_negates : (sorts : Sorts) (trees : List Tree) (f : NumberedFormula) → assertion_in sorts trees (contrary f) ≡ negate (assertion_in sorts trees f)
contrary_negates sorts trees Yes = refl
contrary_negates sorts trees No = refl
contrary_negates sorts trees (Eq t u) = refl
contrary_negates sorts trees (Ne t u) = refl
contrary_negates sorts trees (Le t u) = refl
contrary_negates sorts trees (Lt t u) = refl
contrary_negates sorts trees (And p q) = let e = contrary_negates sorts trees p in let h = contrary_negates sorts trees q in rw (e, h) refl
contrary_negates sorts trees (Or p q) = let e = contrary_negates sorts trees p in let h = contrary_negates sorts trees q in rw (e, h) refl
