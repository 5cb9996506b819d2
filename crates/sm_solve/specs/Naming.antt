-- Private: the terms of a table against those that the formulas of a branch name.
use Rattle.std.specs.Prelude.{◌≡◌, List, [], ◌∷◌, ◌++◌}
use Rattle.std.specs.List.{AllByRecursion}
use Rattle.sm_syntax.specs.text.Sorts.{Sorts}
use Rattle.sm_term.specs.Terms.{Tree}
use Rattle.sm_term.specs.Heads.{arguments_of}
use Rattle.sm_term.specs.Assertions.{Assertion}
use Rattle.sm_term.specs.Formulas.{numbered, assertion_in}
use Rattle.sm_theory.specs.TermsOfFormulas.{all_terms}
use Rattle.sm_terms.specs.Listing.{AllAmong}
use Rattle.sm_list.specs.Branches.{with_parts}
use Rattle.sm_judge.specs.declared.closing.BranchSplit.{BranchSplit}

-- a table has the terms of a branch's formulas in front; the arguments of all its terms are among
-- these
pub record AreNamed (trees : List Tree) (facts : List Assertion) : Type 0 where
  pub more : List Tree
  pub front : trees ≡ all_terms facts ++ more
  pub arguments : AllByRecursion (λ (t : Tree). AllAmong (all_terms facts) (arguments_of t)) trees

-- a formula with its parts names no other terms than those of a branch
abbrev pub NamesNoMore : List Assertion → Assertion → Type 0
NamesNoMore facts f = all_terms (facts ++ with_parts (f ∷ [])) ≡ all_terms facts

-- neither part of a split does
abbrev pub NameNoMore : Sorts → List Tree → List Assertion → BranchSplit → Type 0
NameNoMore sorts trees facts s =
    NamesNoMore facts (assertion_in sorts trees (numbered s.first))
    × NamesNoMore facts (assertion_in sorts trees (numbered s.second))
