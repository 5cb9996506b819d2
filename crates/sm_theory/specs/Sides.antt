-- Cited by public clauses: facts of a branch that are found by their numbers, and the terms that
-- they compare, over numbers of terms.
use Rattle.std.specs.Prelude.{◌≡◌, ◌<◌, List, length, Option, Some, None}
use Rattle.sm_syntax.specs.text.Sorts.{Sorts}
use Rattle.sm_term.specs.Terms.{Tree}
use Rattle.sm_term.specs.Tables.{tree_at}
use Rattle.sm_term.specs.declared.term.TermId.{TermId}
use Rattle.sm_term.specs.Assertions.{Assertion}
use Rattle.sm_term.specs.Sorted.{tree_sort}
use Rattle.sm_term.specs.Formulas.{numbered, assertion_in, IsFormulaWithin}
use Rattle.sm_term.specs.declared.formula.Formula.{Formula}
use Rattle.sm_theory.specs.Lines.{Sides}

-- none stands for none, and what is there for what is there
abbrev pub OptionStands : {S T : Type 0} → (S → T → Type 0) → Option S → Option T → Type 0
OptionStands Stands None None = Unit {0}
OptionStands Stands None (Some t) = ⊥
OptionStands Stands (Some s) None = ⊥
OptionStands Stands (Some s) (Some t) = Stands s t

-- a formula of the program stands for its assertion; its terms are in the table
abbrev pub FormulaStands : Sorts → List Tree → Formula → Assertion → Type 0
FormulaStands sorts trees f g =
    IsFormulaWithin (length trees) (numbered f) × (assertion_in sorts trees (numbered f) ≡ g)

-- two trees as sides, with the sort of the left one
abbrev pub sides_of : Sorts → Tree → Tree → Sides
sides_of sorts t u = record { sort = tree_sort sorts t; left = t; right = u }

-- two numbers of terms stand for their trees as sides; both are in the table
abbrev pub SidesStand : Sorts → List Tree → TermId × TermId → Sides → Type 0
SidesStand sorts trees pair s =
    (pair.0.0 < length trees) × (pair.1.0 < length trees)
    × (sides_of sorts (tree_at trees pair.0.0) (tree_at trees pair.1.0) ≡ s)
