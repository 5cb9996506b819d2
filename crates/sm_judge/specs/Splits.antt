-- Cited by public clauses: the split of a branch with the line of a certificate that makes it.
use Rattle.std.specs.Prelude.{◌≡◌, ℕ, Option, Some, None, List}
use Rattle.sm_syntax.specs.text.Sorts.{Sorts}
use Rattle.sm_term.specs.Terms.{Tree}
use Rattle.sm_term.specs.Assertions.{Assertion}
use Rattle.sm_term.specs.Formulas.{numbered, assertion_in, IsFormulaWithin}
use Rattle.sm_theory.specs.Facts.{as_facts}
use Rattle.sm_theory.specs.Views.{line_in, IsLineWithin}
use Rattle.sm_theory.specs.Ways.{ways, splitting}
use Rattle.sm_judge.specs.declared.closing.BranchSplit.{BranchSplit}
use Rattle.sm_judge.specs.Holding.{Split}

-- the split that one of the program stands for, without its line
abbrev pub split_told : Sorts → List Tree → Option BranchSplit → Option Split
split_told sorts trees None = None
split_told sorts trees (Some s) =
    Some (assertion_in sorts trees (numbered s.first), assertion_in sorts trees (numbered s.second))

-- its terms and those of its line are in a table of `count` terms
abbrev pub IsToldWithin : ℕ → Option BranchSplit → Type 0
IsToldWithin count None = Unit {0}
IsToldWithin count (Some s) =
    IsLineWithin count s.line
    × (IsFormulaWithin count (numbered s.first) × IsFormulaWithin count (numbered s.second))

-- its line splits the branch of these facts into just its two parts
abbrev pub SplitsBranch : Sorts → List Tree → List Assertion → Option BranchSplit → Type 0
SplitsBranch sorts trees facts None = Unit {0}
SplitsBranch sorts trees facts (Some s) =
    ways sorts (as_facts facts) (line_in trees s.line)
    ≡ splitting (assertion_in sorts trees (numbered s.first))
    (assertion_in sorts trees (numbered s.second))
