-- Cited by public clauses: the terms of a branch, which are those that its formulas compare, with
-- their arguments, and what each read of a written array reads before the write. Where what the
-- branch compares can be named after states, so can they.
use Rattle.std.specs.Prelude.{◌≡◌, ℕ, Some, Bool, List, [], ◌∷◌, ◌++◌, slice_get}
use Rattle.sm_syntax.specs.text.Sorts.{Sorts}
use Rattle.sm_syntax.specs.declared.tree.Sort.TheVariants.{Num, Arr}
use Rattle.sm_term.specs.Terms.{Tree, Read, Write}
use Rattle.sm_term.specs.Assertions.{Assertion, negate}
use Rattle.sm_term.specs.Heads.{arguments_of}
use Rattle.sm_term.specs.Sorted.{tree_sort}
use Rattle.sm_cert.specs.Certificates.{Certificate}
use Rattle.sm_cert.specs.NamedTerms.{EachTerm}
use Rattle.sm_plan.specs.States.{State}
use Rattle.sm_write.specs.Nameable.{EachOf, EachSide, AllSides, PassesTest, Nameable}

-- a test that the terms of a branch with these formulas pass
pub record HasTerms (sorts : Sorts) (formulas : List Assertion) (test : Tree → Bool) : Type 0 where
  pub sides : AllSides (PassesTest test) formulas
  pub arguments :
      (t : Tree) → PassesTest test t → EachOf (PassesTest test) (arguments_of t)
  pub reads :
      (a i e j : Tree) → PassesTest test (Read (Write a i e) j) →
      tree_sort sorts a ≡ Arr → tree_sort sorts j ≡ Num → PassesTest test (Read a j)

-- a term of the branch: it passes each such test
abbrev pub IsTermOf : Sorts → List Assertion → Tree → Type 0
IsTermOf sorts formulas t =
    (test : Tree → Bool) → HasTerms sorts formulas test → PassesTest test t

-- what a state's facts and its target compare can be named after states
pub record IsStateNameable (sorts : Sorts) (states : List State) (st : State) : Type 0 where
  pub facts : AllSides (Nameable sorts states) st.facts
  pub target : AllSides (Nameable sorts states) st.target

-- so it is after states of which the state is one
abbrev pub StatesAreNameable : Type 0
StatesAreNameable =
    (sorts : Sorts) (states : List State) (n : ℕ) (st : State) → slice_get states n ≡ Some st →
    IsStateNameable sorts states st

-- a certificate that names terms of a goal's branch alone names what can be named, where the facts
-- and the goal compare what can be named
abbrev pub BranchesAreNameable : Type 0
BranchesAreNameable =
    (sorts : Sorts) (states : List State) (facts : List Assertion) (goal : Assertion)
    (c : Certificate) → AllSides (Nameable sorts states) facts →
    EachSide (Nameable sorts states) goal →
    EachTerm (IsTermOf sorts (facts ++ negate goal ∷ [])) c → EachTerm (Nameable sorts states) c
