-- Sorts: where each name stands as what it is declared. Public clauses cite them.
use Rattle.std.specs.Prelude.{◌≡◌, ℕ, Option, Some}
pub use Rattle.sm_syntax.specs.declared.tree.Sort.{Sort}
use Rattle.sm_syntax.specs.claim.Syntax.{Expression, Condition, Code}
use Rattle.sm_syntax.specs.text.Uses.{EachName, EachTested, EachUsed}
pub use Rattle.sm_syntax.specs.declared.tree.Sort.TheVariants.{Arr, Num}

-- declarations: the sort of each declared name
abbrev pub Sorts : Type 0
Sorts = ℕ → Option Sort

-- a name is declared with the sort
abbrev pub IsAsDeclared : Sorts → ℕ → Sort → Type 0
IsAsDeclared sorts x sort = sorts x ≡ Some sort

-- each name of an expression is declared with the sort that it stands with
abbrev pub IsWellSortedExpression : Sorts → Expression → Type 0
IsWellSortedExpression sorts = EachName (IsAsDeclared sorts)

-- each name of a condition is declared with the sort that it stands with
abbrev pub IsWellSortedCondition : Sorts → Condition → Type 0
IsWellSortedCondition sorts = EachTested (IsAsDeclared sorts)

-- each name of code is declared with the sort that it stands with
abbrev pub IsWellSorted : Sorts → Code → Type 0
IsWellSorted sorts = EachUsed (IsAsDeclared sorts)
