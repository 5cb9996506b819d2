-- Cited by public clauses: the terms that lines of a proof file can name after some states. Of these
-- each is a literal, a start, a slot or the cell, stands in a state, is an argument of another, or is
-- an operation on others.
use Rattle.std.specs.Prelude.{◌≡◌, ℕ, ℤ, IsTrue, Bool, List, [], ◌∷◌}
use Rattle.sm_syntax.specs.claim.ConflictFree.{Copy}
use Rattle.sm_syntax.specs.text.Sorts.{Sorts}
use Rattle.sm_syntax.specs.declared.tree.Sort.TheVariants.{Num, Arr}
use Rattle.sm_term.specs.Terms.{Tree, Lit, Start, Slot, Cell, Read, Write, Neg, Add, Sub, Mul}
use Rattle.sm_term.specs.Assertions.{Assertion, Yes, No, Eq, Ne, Le, Lt, And, Or}
use Rattle.sm_term.specs.Heads.{arguments_of}
use Rattle.sm_term.specs.Sorted.{IsDeclaredIn, tree_sort}
use Rattle.sm_plan.specs.States.{State}

-- something is so of each term of a list
abbrev pub EachOf : (Tree → Type 0) → List Tree → Type 0
EachOf P [] = Unit {0}
EachOf P (t ∷ ts) = P t × EachOf P ts

-- something is so of each term that a formula compares
abbrev pub EachSide : (Tree → Type 0) → Assertion → Type 0
EachSide P Yes = Unit {0}
EachSide P No = Unit {0}
EachSide P (Eq sort t u) = P t × P u
EachSide P (Ne sort t u) = P t × P u
EachSide P (Le t u) = P t × P u
EachSide P (Lt t u) = P t × P u
EachSide P (And p q) = EachSide P p × EachSide P q
EachSide P (Or p q) = EachSide P p × EachSide P q

-- something is so of each term that formulas compare
abbrev pub AllSides : (Tree → Type 0) → List Assertion → Type 0
AllSides P [] = Unit {0}
AllSides P (f ∷ fs) = EachSide P f × AllSides P fs

-- something is so of each term in a state: of the declared names', and of those that its facts and
-- its target compare
pub record EachInState (sorts : Sorts) (P : Tree → Type 0) (st : State) : Type 0 where
  pub stores : (c : Copy) (x : ℕ) → IsDeclaredIn sorts x → P (st.stores c x)
  pub facts : AllSides P st.facts
  pub target : AllSides P st.target

-- something is so of each term in each state of a list
abbrev pub EachInStates : Sorts → (Tree → Type 0) → List State → Type 0
EachInStates sorts P [] = Unit {0}
EachInStates sorts P (st ∷ states) = EachInState sorts P st × EachInStates sorts P states

-- a term passes a test
abbrev pub PassesTest : (Tree → Bool) → Tree → Type 0
PassesTest test t = IsTrue (test t)

-- a test that all those terms pass
pub record IsClosed (sorts : Sorts) (states : List State) (test : Tree → Bool) : Type 0 where
  pub literals : (z : ℤ) → PassesTest test (Lit z)
  pub starts : (x : ℕ) → IsDeclaredIn sorts x → PassesTest test (Start x)
  pub slots : (c : Copy) (x : ℕ) → IsDeclaredIn sorts x → PassesTest test (Slot c x)
  pub cell : PassesTest test Cell
  pub known : EachInStates sorts (PassesTest test) states
  pub arguments :
      (t : Tree) → PassesTest test t → EachOf (PassesTest test) (arguments_of t)
  pub reads :
      (a i : Tree) → PassesTest test a → tree_sort sorts a ≡ Arr →
      PassesTest test i → tree_sort sorts i ≡ Num → PassesTest test (Read a i)
  pub writes :
      (a i e : Tree) → PassesTest test a → tree_sort sorts a ≡ Arr →
      PassesTest test i → tree_sort sorts i ≡ Num →
      PassesTest test e → tree_sort sorts e ≡ Num → PassesTest test (Write a i e)
  pub contraries :
      (t : Tree) → PassesTest test t → tree_sort sorts t ≡ Num → PassesTest test (Neg t)
  pub sums :
      (t u : Tree) → PassesTest test t → tree_sort sorts t ≡ Num →
      PassesTest test u → tree_sort sorts u ≡ Num → PassesTest test (Add t u)
  pub differences :
      (t u : Tree) → PassesTest test t → tree_sort sorts t ≡ Num →
      PassesTest test u → tree_sort sorts u ≡ Num → PassesTest test (Sub t u)
  pub products :
      (t u : Tree) → PassesTest test t → tree_sort sorts t ≡ Num →
      PassesTest test u → tree_sort sorts u ≡ Num → PassesTest test (Mul t u)

-- a term can be named after states: it passes each such test
abbrev pub Nameable : Sorts → List State → Tree → Type 0
Nameable sorts states t = (test : Tree → Bool) → IsClosed sorts states test → PassesTest test t
