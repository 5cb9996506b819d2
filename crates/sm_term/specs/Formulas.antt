-- Cited by public clauses: the formulas that the program's own stand for, over numbers of terms and
-- over the trees of a table.
use Rattle.std.specs.Prelude.{ℕ, ◌<◌, List}
use Rattle.sm_syntax.specs.text.Sorts.{Sorts}
pub use Rattle.sm_term.specs.declared.formula.Formula.{Formula}
use Rattle.sm_term.specs.declared.formula.Formula.TheVariants as tree
use Rattle.sm_term.specs.Terms.{Tree}
use Rattle.sm_term.specs.Tables.{tree_at}
use Rattle.sm_term.specs.Sorted.{tree_sort}
use Rattle.sm_term.specs.Assertions as plain
use Rattle.sm_term.specs.Assertions.{Assertion}

-- a formula over numbers of terms
pub data NumberedFormula : Type 0 where
  Yes No : NumberedFormula
  Eq Ne Le Lt : ℕ → ℕ → NumberedFormula
  And Or : NumberedFormula → NumberedFormula → NumberedFormula

-- the formula that a formula of the program stands for
abbrev pub numbered : Formula → NumberedFormula
numbered tree.Yes = Yes
numbered tree.No = No
numbered (tree.Eq t u) = Eq t.0 u.0
numbered (tree.Ne t u) = Ne t.0 u.0
numbered (tree.Le t u) = Le t.0 u.0
numbered (tree.Lt t u) = Lt t.0 u.0
numbered (tree.And' a p b q) = And (numbered p) (numbered q)
numbered (tree.Or' a p b q) = Or (numbered p) (numbered q)

-- the contrary, over the same terms
abbrev pub contrary : NumberedFormula → NumberedFormula
contrary Yes = No
contrary No = Yes
contrary (Eq t u) = Ne t u
contrary (Ne t u) = Eq t u
contrary (Le t u) = Lt u t
contrary (Lt t u) = Le u t
contrary (And p q) = Or (contrary p) (contrary q)
contrary (Or p q) = And (contrary p) (contrary q)

-- the formula over the trees of a table; an equation has the sort of its left side
abbrev pub assertion_in : Sorts → List Tree → NumberedFormula → Assertion
assertion_in sorts trees Yes = plain.Yes
assertion_in sorts trees No = plain.No
assertion_in sorts trees (Eq t u) =
    plain.Eq (tree_sort sorts (tree_at trees t)) (tree_at trees t) (tree_at trees u)
assertion_in sorts trees (Ne t u) =
    plain.Ne (tree_sort sorts (tree_at trees t)) (tree_at trees t) (tree_at trees u)
assertion_in sorts trees (Le t u) = plain.Le (tree_at trees t) (tree_at trees u)
assertion_in sorts trees (Lt t u) = plain.Lt (tree_at trees t) (tree_at trees u)
assertion_in sorts trees (And p q) =
    plain.And (assertion_in sorts trees p) (assertion_in sorts trees q)
assertion_in sorts trees (Or p q) =
    plain.Or (assertion_in sorts trees p) (assertion_in sorts trees q)

-- the terms of a formula are in a table of `count` terms
abbrev pub IsFormulaWithin : ℕ → NumberedFormula → Type 0
IsFormulaWithin count Yes = Unit {0}
IsFormulaWithin count No = Unit {0}
IsFormulaWithin count (Eq t u) = (t < count) × (u < count)
IsFormulaWithin count (Ne t u) = (t < count) × (u < count)
IsFormulaWithin count (Le t u) = (t < count) × (u < count)
IsFormulaWithin count (Lt t u) = (t < count) × (u < count)
IsFormulaWithin count (And p q) = IsFormulaWithin count p × IsFormulaWithin count q
IsFormulaWithin count (Or p q) = IsFormulaWithin count p × IsFormulaWithin count q
