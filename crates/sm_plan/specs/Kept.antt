-- Private: the size of a formula of the program, and the parts of a conjunction.
use Rattle.std.specs.Prelude.{ℕ, None, List, [], ◌∷◌, ◌++◌}
use Rattle.sm_term.specs.Formulas.{NumberedFormula, Yes, No, Eq, Ne, Le, Lt, And, Or, assertion_in}
use Rattle.sm_plan.specs.Limits.{form_nodes, form_depth}

-- how many formulas a formula over numbers has, itself among them, whatever the numbers stand for
abbrev pub nodes_in : NumberedFormula → ℕ
nodes_in f = form_nodes (assertion_in (λ (x : ℕ). None) [] f)

-- how deep it is
abbrev pub depth_in : NumberedFormula → ℕ
depth_in f = form_depth (assertion_in (λ (x : ℕ). None) [] f)

-- the parts of a conjunction over numbers, in order
abbrev pub parts_in : NumberedFormula → List NumberedFormula
parts_in Yes = []
parts_in No = No ∷ []
parts_in (Eq t u) = Eq t u ∷ []
parts_in (Ne t u) = Ne t u ∷ []
parts_in (Le t u) = Le t u ∷ []
parts_in (Lt t u) = Lt t u ∷ []
parts_in (And p q) = parts_in p ++ parts_in q
parts_in (Or p q) = Or p q ∷ []
