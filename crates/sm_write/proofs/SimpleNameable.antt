-- Terms with no new value and no summary can be named after whatever states, and so can they at the stores of one of these.
use Rattle.sm_write.proofs.Imports.{◌≡◌, ℕ, Bool, Some, List, [], ◌∷◌, slice_get, ◌∙◌, Copy, Sorts, Tree, Start, Havoc, Slot, Cell, Read, Write, Neg, Add, Sub, Mul, Fun, Assertion, fill_term, at_stores, all_at_stores, IsDeclaredIn, IsSorted, IsFormSorted, AreFormsSorted, IsStoreSorted, SymbolicStore, IsStateSorted, State, EachSide, AllSides, PassesTest, IsClosed, Nameable, NoTerm, IsBuilt}
use Rattle.sm_term.specs.Terms.{Lit}
use Rattle.sm_term.specs.Assertions.{Yes, No, Eq, Ne, Le, Lt, And, Or}
use Rattle.sm_plan.proofs.SortedTerms.{filled_sorted}
use Rattle.sm_write.proofs.BranchNameable.{in_state}

module _ (sorts : Sorts) (states : List State) where
  -- such a term passes each test
  simple_passes : (test : Tree → Bool) → IsClosed sorts states test → (t : Tree) → IsSorted sorts t → IsBuilt NoTerm t →
      PassesTest test t
  simple_passes test closed (Lit z) b none = closed.literals z
  simple_passes test closed (Start x) b none = closed.starts x b
  simple_passes test closed (Havoc k c x) b none = absurd none
  simple_passes test closed (Slot c x) b none = closed.slots c x b
  simple_passes test closed Cell b none = closed.cell
  simple_passes test closed (Read a i) b none =
      closed.reads a i (simple_passes test closed a b.0 none.0) b.1 (simple_passes test closed i b.2 none.1) b.3
  simple_passes test closed (Write a i e) b none =
      closed.writes a i e (simple_passes test closed a b.0 none.0) b.1 (simple_passes test closed i b.2 none.1) b.3
      (simple_passes test closed e b.4 none.2) b.5
  simple_passes test closed (Neg t) b none = closed.contraries t (simple_passes test closed t b.0 none) b.1
  simple_passes test closed (Add t u) b none =
      closed.sums t u (simple_passes test closed t b.0 none.0) b.1 (simple_passes test closed u b.2 none.1) b.3
  simple_passes test closed (Sub t u) b none =
      closed.differences t u (simple_passes test closed t b.0 none.0) b.1 (simple_passes test closed u b.2 none.1) b.3
  simple_passes test closed (Mul t u) b none =
      closed.products t u (simple_passes test closed t b.0 none.0) b.1 (simple_passes test closed u b.2 none.1) b.3
  simple_passes test closed (Fun c x args) b none = absurd none

  pub simple_nameable : (t : Tree) → IsSorted sorts t → IsBuilt NoTerm t → Nameable sorts states t
  simple_nameable t b none test closed = simple_passes test closed t b none

  -- a formula that compares such terms
  pub kept_nameable : (f : Assertion) → IsFormSorted sorts f → EachSide (IsBuilt NoTerm) f → EachSide (Nameable sorts states) f
  kept_nameable Yes b none = tt
  kept_nameable No b none = tt
  kept_nameable (Eq sort t u) b none = (simple_nameable t b.0.0 none.0, simple_nameable u b.1.0 none.1)
  kept_nameable (Ne sort t u) b none = (simple_nameable t b.0.0 none.0, simple_nameable u b.1.0 none.1)
  kept_nameable (Le t u) b none = (simple_nameable t b.0.0 none.0, simple_nameable u b.1.0 none.1)
  kept_nameable (Lt t u) b none = (simple_nameable t b.0.0 none.0, simple_nameable u b.1.0 none.1)
  kept_nameable (And p q) b none = (kept_nameable p b.0 none.0, kept_nameable q b.1 none.1)
  kept_nameable (Or p q) b none = (kept_nameable p b.0 none.0, kept_nameable q b.1 none.1)

  -- at stores of which each declared name's term passes
  module _ (s : Copy → SymbolicStore) (all : (c : Copy) → IsStoreSorted sorts (s c)) where
    filled_passes : (test : Tree → Bool) → IsClosed sorts states test →
        ((c : Copy) (x : ℕ) → IsDeclaredIn sorts x → PassesTest test (s c x)) → (t : Tree) → IsSorted sorts t → IsBuilt NoTerm t →
        PassesTest test (fill_term s t)
    filled_passes test closed held (Lit z) b none = closed.literals z
    filled_passes test closed held (Start x) b none = closed.starts x b
    filled_passes test closed held (Havoc k c x) b none = absurd none
    filled_passes test closed held (Slot c x) b none = held c x b
    filled_passes test closed held Cell b none = closed.cell
    filled_passes test closed held (Read a i) b none =
        closed.reads (fill_term s a) (fill_term s i) (filled_passes test closed held a b.0 none.0)
        ((filled_sorted sorts s all a b.0).1 ∙ b.1) (filled_passes test closed held i b.2 none.1)
        ((filled_sorted sorts s all i b.2).1 ∙ b.3)
    filled_passes test closed held (Write a i e) b none =
        closed.writes (fill_term s a) (fill_term s i) (fill_term s e) (filled_passes test closed held a b.0 none.0)
        ((filled_sorted sorts s all a b.0).1 ∙ b.1) (filled_passes test closed held i b.2 none.1)
        ((filled_sorted sorts s all i b.2).1 ∙ b.3) (filled_passes test closed held e b.4 none.2)
        ((filled_sorted sorts s all e b.4).1 ∙ b.5)
    filled_passes test closed held (Neg t) b none =
        closed.contraries (fill_term s t) (filled_passes test closed held t b.0 none) ((filled_sorted sorts s all t b.0).1 ∙ b.1)
    filled_passes test closed held (Add t u) b none =
        closed.sums (fill_term s t) (fill_term s u) (filled_passes test closed held t b.0 none.0)
        ((filled_sorted sorts s all t b.0).1 ∙ b.1) (filled_passes test closed held u b.2 none.1)
        ((filled_sorted sorts s all u b.2).1 ∙ b.3)
    filled_passes test closed held (Sub t u) b none =
        closed.differences (fill_term s t) (fill_term s u) (filled_passes test closed held t b.0 none.0)
        ((filled_sorted sorts s all t b.0).1 ∙ b.1) (filled_passes test closed held u b.2 none.1)
        ((filled_sorted sorts s all u b.2).1 ∙ b.3)
    filled_passes test closed held (Mul t u) b none =
        closed.products (fill_term s t) (fill_term s u) (filled_passes test closed held t b.0 none.0)
        ((filled_sorted sorts s all t b.0).1 ∙ b.1) (filled_passes test closed held u b.2 none.1)
        ((filled_sorted sorts s all u b.2).1 ∙ b.3)
    filled_passes test closed held (Fun c x args) b none = absurd none

-- such a term at the stores of one of the states
pub goal_term_nameable : (sorts : Sorts) (states : List State) (n : ℕ) (st : State) → slice_get states n ≡ Some st →
    IsStateSorted sorts st → (t : Tree) → IsSorted sorts t → IsBuilt NoTerm t → Nameable sorts states (fill_term st.stores t)
goal_term_nameable sorts states n st e sorted t b none test closed =
    filled_passes sorts states st.stores sorted.stores test closed (in_state sorts (PassesTest test) states n st e closed.known).stores t b
    none

-- what a node asks there, whose formulas compare such terms
module _ (sorts : Sorts) (states : List State) (n : ℕ) (st : State) (e : slice_get states n ≡ Some st) (sorted : IsStateSorted sorts st)
  where
    pub goal_nameable : (f : Assertion) → IsFormSorted sorts f → EachSide (IsBuilt NoTerm) f →
        EachSide (Nameable sorts states) (at_stores st.stores f)
    goal_nameable Yes b none = tt
    goal_nameable No b none = tt
    goal_nameable (Eq sort t u) b none =
        (goal_term_nameable sorts states n st e sorted t b.0.0 none.0, goal_term_nameable sorts states n st e sorted u b.1.0 none.1)
    goal_nameable (Ne sort t u) b none =
        (goal_term_nameable sorts states n st e sorted t b.0.0 none.0, goal_term_nameable sorts states n st e sorted u b.1.0 none.1)
    goal_nameable (Le t u) b none =
        (goal_term_nameable sorts states n st e sorted t b.0.0 none.0, goal_term_nameable sorts states n st e sorted u b.1.0 none.1)
    goal_nameable (Lt t u) b none =
        (goal_term_nameable sorts states n st e sorted t b.0.0 none.0, goal_term_nameable sorts states n st e sorted u b.1.0 none.1)
    goal_nameable (And p q) b none = (goal_nameable p b.0 none.0, goal_nameable q b.1 none.1)
    goal_nameable (Or p q) b none = (goal_nameable p b.0 none.0, goal_nameable q b.1 none.1)

    pub goals_nameable : (fs : List Assertion) → AreFormsSorted sorts fs → AllSides (IsBuilt NoTerm) fs →
        AllSides (Nameable sorts states) (all_at_stores st.stores fs)
    goals_nameable [] b none = tt
    goals_nameable (f ∷ fs) b none = (goal_nameable f b.0 none.0, goals_nameable fs b.1 none.1)
