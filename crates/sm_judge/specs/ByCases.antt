-- Cited by public clauses: a split by whether two numbers are equal, with its line.
use Rattle.std.specs.Prelude.{◌≡◌, ℕ, ◌<◌, Option, Some, None, List}
use Rattle.sm_term.specs.Terms.{Tree}
use Rattle.sm_term.specs.Tables.{tree_at}
use Rattle.sm_term.specs.Formulas.{NumberedFormula, Eq, numbered}
use Rattle.sm_theory.specs.Lines.{Cases}
use Rattle.sm_theory.specs.Views.{line_in, IsLineWithin}
use Rattle.sm_judge.specs.declared.closing.BranchSplit.{BranchSplit}

-- a split by an equation and another formula, whose line names the sides of the equation
abbrev pub IsByCases : ℕ → ℕ → NumberedFormula → Option BranchSplit → Type 0
IsByCases t u second None = ⊥
IsByCases t u second (Some s) =
    (numbered s.first ≡ Eq t u)
    × (numbered s.second ≡ second)
    × ((trees : List Tree) → line_in trees s.line ≡ Cases (tree_at trees t) (tree_at trees u))
    × ((count : ℕ) → t < count → u < count → IsLineWithin count s.line)
