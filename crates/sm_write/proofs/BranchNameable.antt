-- The terms of a branch can be named where what its formulas compare can.
use Rattle.sm_write.proofs.Imports.{◌≡◌, ℕ, zero, suc, Bool, Some, List, [], ◌∷◌, ◌++◌, slice_get, subst, Sorts, Num, Arr, Tree, Read, Write, Assertion, negate, tree_sort, State, EachSide, AllSides, EachInState, EachInStates, PassesTest, IsClosed, Nameable}
use Rattle.sm_term.specs.Assertions.{Yes, No, Eq, Ne, Le, Lt, And, Or}
use Rattle.sm_write.specs.BranchTerms.{IsTermOf, StatesAreNameable, BranchesAreNameable}
use Rattle.sm_write.proofs.BuiltTerms.{sides_append, negate_sides, sides_more}
use Rattle.sm_write.proofs.ReadyPlans.{term_more}

module _ (sorts : Sorts) (states : List State) where
  -- formulas that compare what passes each test
  side_nameable : (f : Assertion) → ((test : Tree → Bool) → IsClosed sorts states test → EachSide (PassesTest test) f) →
      EachSide (Nameable sorts states) f
  side_nameable Yes all = tt
  side_nameable No all = tt
  side_nameable (Eq sort t u) all = (
    λ (test : Tree → Bool) (closed : IsClosed sorts states test). (all test closed).0,
    λ (test : Tree → Bool) (closed : IsClosed sorts states test). (all test closed).1,
  )
  side_nameable (Ne sort t u) all = (
    λ (test : Tree → Bool) (closed : IsClosed sorts states test). (all test closed).0,
    λ (test : Tree → Bool) (closed : IsClosed sorts states test). (all test closed).1,
  )
  side_nameable (Le t u) all = (
    λ (test : Tree → Bool) (closed : IsClosed sorts states test). (all test closed).0,
    λ (test : Tree → Bool) (closed : IsClosed sorts states test). (all test closed).1,
  )
  side_nameable (Lt t u) all = (
    λ (test : Tree → Bool) (closed : IsClosed sorts states test). (all test closed).0,
    λ (test : Tree → Bool) (closed : IsClosed sorts states test). (all test closed).1,
  )
  side_nameable (And p q) all = (
    side_nameable p (λ (test : Tree → Bool) (closed : IsClosed sorts states test). (all test closed).0),
    side_nameable q (λ (test : Tree → Bool) (closed : IsClosed sorts states test). (all test closed).1),
  )
  side_nameable (Or p q) all = (
    side_nameable p (λ (test : Tree → Bool) (closed : IsClosed sorts states test). (all test closed).0),
    side_nameable q (λ (test : Tree → Bool) (closed : IsClosed sorts states test). (all test closed).1),
  )

  sides_nameable : (fs : List Assertion) → ((test : Tree → Bool) → IsClosed sorts states test → AllSides (PassesTest test) fs) →
      AllSides (Nameable sorts states) fs
  sides_nameable [] all = tt
  sides_nameable (f ∷ fs) all = (
    side_nameable f (λ (test : Tree → Bool) (closed : IsClosed sorts states test). (all test closed).0),
    sides_nameable fs (λ (test : Tree → Bool) (closed : IsClosed sorts states test). (all test closed).1),
  )

-- one of some states
pub in_state : (sorts : Sorts) (P : Tree → Type 0) (states : List State) (n : ℕ) (st : State) → slice_get states n ≡ Some st →
    EachInStates sorts P states → EachInState sorts P st
in_state sorts P [] n st e all = absurd cc
in_state sorts P (first ∷ states) zero st e all =
    let same : first ≡ st = cc in subst (EachInState sorts P) same all.0
in_state sorts P (first ∷ states) (suc n) st e all = in_state sorts P states n st e all.1

-- the facts and the target of a state
pub states_are_nameable : StatesAreNameable
states_are_nameable sorts states n st e = record {
  facts =
      sides_nameable sorts states st.facts
      (λ (test : Tree → Bool) (closed : IsClosed sorts states test). (in_state sorts (PassesTest test) states n st e closed.known).facts);
  target =
      sides_nameable sorts states st.target
      (λ (test : Tree → Bool) (closed : IsClosed sorts states test). (in_state sorts (PassesTest test) states n st e closed.known).target);
}

-- a term of a branch
pub branch_term : (sorts : Sorts) (states : List State) (formulas : List Assertion) → AllSides (Nameable sorts states) formulas →
    (t : Tree) → IsTermOf sorts formulas t → Nameable sorts states t
branch_term sorts states formulas known t is test closed =
    is test
    (record {
      sides =
          sides_more (Nameable sorts states) (PassesTest test) (λ (u : Tree) (named : Nameable sorts states u). named test closed) formulas
          known;
      arguments = closed.arguments;
      reads = λ (a i e j : Tree) (p : PassesTest test (Read (Write a i e) j)) (s : tree_sort sorts a ≡ Arr) (r : tree_sort sorts j ≡ Num).
          let outer = closed.arguments (Read (Write a i e) j) p in
          let inner = closed.arguments (Write a i e) outer.0 in
          closed.reads a j inner.0 s outer.1.0 r;
    })

-- certificates that name terms of a branch alone
pub branches_are_nameable : BranchesAreNameable
branches_are_nameable sorts states facts goal c known named each =
    let K = Nameable sorts states in
    let formulas = facts ++ negate goal ∷ [] in
    term_more (IsTermOf sorts formulas) K
    (branch_term sorts states formulas (sides_append K facts (negate goal ∷ []) known (negate_sides K goal named, tt))) c each
