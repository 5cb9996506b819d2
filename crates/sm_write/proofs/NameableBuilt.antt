-- What can be named after states is built of what was seen in them.
use Rattle.sm_write.proofs.Imports.{◌≡◌, ◌⊎◌, inl, inr, ℕ, ℤ, Bool, true, false, ◌==◌, ◌&&◌, ◌||◌, if◌then◌else◌, IsTrue, is_some, Option, Some, None, List, [], ◌∷◌, refl, sym, subst, list_any, Decides-eqb, Copy, O, A, B, M, sort_of, Sorts, Sort, Num, Arr, Tree, Start, Havoc, Slot, Cell, Read, Write, Neg, Add, Sub, Mul, Fun, arguments_of, same_tree, IsDeclaredIn, tree_sort, same_tree_is, copies, IsStateSorted, State, EachInStates, PassesTest, Nameable, IsBuilt, IsAtom, IsHeld, Seen}
use Rattle.sm_term.specs.Terms.{Lit}
use Rattle.sm_write.proofs.BuiltTerms.{each_more, sides_more, built_parts}
use Rattle.sm_write.proofs.BuiltStates.{IsWell}
use Rattle.sm_write.proofs.SeenLemmas.{EachState, AreFine}

-- both of two tests
both_true : (p q : Bool) → IsTrue p → IsTrue q → IsTrue (p && q)
both_true true q a b = b
both_true false q a b = absurd cc

first_true : (p q : Bool) → IsTrue (p && q) → IsTrue p
first_true true q a = refl
first_true false q a = absurd cc

second_true : (p q : Bool) → IsTrue (p && q) → IsTrue q
second_true true q a = a
second_true false q a = absurd cc

-- one of two
left_true : (p q : Bool) → IsTrue p → IsTrue (p || q)
left_true true q a = refl
left_true false q a = absurd cc

right_true : (p q : Bool) → IsTrue q → IsTrue (p || q)
right_true true q a = refl
right_true false q a = a

either_true : (p q : Bool) → IsTrue (p || q) → IsTrue p ⊎ IsTrue q
either_true true q a = inl refl
either_true false q a = inr a

-- a test that one of a list passes
any_from : {T : Type 0} (test : T → Bool) (xs : List T) → IsTrue (list_any test xs) → (x : T) × IsTrue (test x)
any_from test [] a = absurd cc
any_from {T} test (x ∷ xs) a = of (either_true (test x) (list_any test xs) a) (λ (h : IsTrue (list_any test xs)). any_from test xs h)
  where
    of : IsTrue (test x) ⊎ IsTrue (list_any test xs) → (IsTrue (list_any test xs) → (y : T) × IsTrue (test y)) → (y : T) × IsTrue (test y)
    of (inl h) later = (x, h)
    of (inr h) later = later h

-- a term is that of a declared name in a state
abbrev held_by : List (ℕ × Sort) → State → Tree → Bool
held_by declared st t = list_any (λ (c : Copy). list_any (λ (d : ℕ × Sort). same_tree t (st.stores c d.0)) declared) copies

-- a term is that of a declared name in one of some states
abbrev held_in : List (ℕ × Sort) → List State → Tree → Bool
held_in declared states t = list_any (λ (st : State). held_by declared st t) states

-- each new value and each summary in a term passes a test
abbrev is_built : (Tree → Bool) → Tree → Bool
is_built known (Lit z) = true
is_built known (Start x) = true
is_built known (Havoc k c x) = known (Havoc k c x)
is_built known (Slot c x) = true
is_built known Cell = true
is_built known (Read a i) = is_built known a && is_built known i
is_built known (Write a i e) = is_built known a && (is_built known i && is_built known e)
is_built known (Neg t) = is_built known t
is_built known (Add t u) = is_built known t && is_built known u
is_built known (Sub t u) = is_built known t && is_built known u
is_built known (Mul t u) = is_built known t && is_built known u
is_built known (Fun c x args) = known (Fun c x args)

-- the test is passed by what is built
built_passes : (K : Tree → Type 0) (known : Tree → Bool) → ((t : Tree) → IsAtom t → K t → IsTrue (known t)) → (t : Tree) → IsBuilt K t
    → IsTrue (is_built known t)
built_passes K known to (Lit z) b = refl
built_passes K known to (Start x) b = refl
built_passes K known to (Havoc k c x) b = to (Havoc k c x) tt b
built_passes K known to (Slot c x) b = refl
built_passes K known to Cell b = refl
built_passes K known to (Read a i) b =
    both_true (is_built known a) (is_built known i) (built_passes K known to a b.0) (built_passes K known to i b.1)
built_passes K known to (Write a i e) b =
    both_true (is_built known a) (is_built known i && is_built known e) (built_passes K known to a b.0)
    (both_true (is_built known i) (is_built known e) (built_passes K known to i b.1) (built_passes K known to e b.2))
built_passes K known to (Neg t) b = built_passes K known to t b
built_passes K known to (Add t u) b =
    both_true (is_built known t) (is_built known u) (built_passes K known to t b.0) (built_passes K known to u b.1)
built_passes K known to (Sub t u) b =
    both_true (is_built known t) (is_built known u) (built_passes K known to t b.0) (built_passes K known to u b.1)
built_passes K known to (Mul t u) b =
    both_true (is_built known t) (is_built known u) (built_passes K known to t b.0) (built_passes K known to u b.1)
built_passes K known to (Fun c x args) b = to (Fun c x args) tt b

-- what passes the test is built, where all that is known is of the kind
passes_built : (K : Tree → Type 0) (known : Tree → Bool) → ((t : Tree) → IsTrue (known t) → K t) → (t : Tree) → IsTrue (is_built known t)
    → IsBuilt K t
passes_built K known from (Lit z) b = tt
passes_built K known from (Start x) b = tt
passes_built K known from (Havoc k c x) b = from (Havoc k c x) b
passes_built K known from (Slot c x) b = tt
passes_built K known from Cell b = tt
passes_built K known from (Read a i) b = (
  passes_built K known from a (first_true (is_built known a) (is_built known i) b),
  passes_built K known from i (second_true (is_built known a) (is_built known i) b),
)
passes_built K known from (Write a i e) b =
    let more = second_true (is_built known a) (is_built known i && is_built known e) b in (
      passes_built K known from a (first_true (is_built known a) (is_built known i && is_built known e) b),
      passes_built K known from i (first_true (is_built known i) (is_built known e) more),
      passes_built K known from e (second_true (is_built known i) (is_built known e) more),
    )
passes_built K known from (Neg t) b = passes_built K known from t b
passes_built K known from (Add t u) b = (
  passes_built K known from t (first_true (is_built known t) (is_built known u) b),
  passes_built K known from u (second_true (is_built known t) (is_built known u) b),
)
passes_built K known from (Sub t u) b = (
  passes_built K known from t (first_true (is_built known t) (is_built known u) b),
  passes_built K known from u (second_true (is_built known t) (is_built known u) b),
)
passes_built K known from (Mul t u) b = (
  passes_built K known from t (first_true (is_built known t) (is_built known u) b),
  passes_built K known from u (second_true (is_built known t) (is_built known u) b),
)
passes_built K known from (Fun c x args) b = from (Fun c x args) b

-- a test that a declared name passes
any_declared : (declared : List (ℕ × Sort)) (x : ℕ) (test : ℕ → Bool) → IsTrue (is_some (sort_of declared x)) → IsTrue (test x) →
    IsTrue (list_any (λ (d : ℕ × Sort). test d.0) declared)
any_declared [] x test a h = absurd cc
any_declared (d ∷ rest) x test a h = of (d.0 == x) refl a (λ (b : IsTrue (is_some (sort_of rest x))). any_declared rest x test b h)
  where
    of : (same : Bool) → (d.0 == x) ≡ same → IsTrue (is_some (if same then Some d.1 else sort_of rest x)) →
        (IsTrue (is_some (sort_of rest x)) → IsTrue (list_any (λ (e : ℕ × Sort). test e.0) rest)) →
        IsTrue (test d.0 || list_any (λ (e : ℕ × Sort). test e.0) rest)
    of true is b later =
        left_true (test d.0) (list_any (λ (e : ℕ × Sort). test e.0) rest)
        (subst (λ (y : ℕ). IsTrue (test y)) (sym ((Decides-eqb d.0 x).0 is)) h)
    of false is b later = right_true (test d.0) (list_any (λ (e : ℕ × Sort). test e.0) rest) (later b)

-- a test that a copy passes
any_copy : (c : Copy) (test : Copy → Bool) → IsTrue (test c) → IsTrue (list_any test copies)
any_copy O test h = left_true (test O) (test A || (test B || (test M || false))) h
any_copy A test h = right_true (test O) (test A || (test B || (test M || false))) (left_true (test A) (test B || (test M || false)) h)
any_copy B test h =
    right_true (test O) (test A || (test B || (test M || false)))
    (right_true (test A) (test B || (test M || false)) (left_true (test B) (test M || false) h))
any_copy M test h =
    right_true (test O) (test A || (test B || (test M || false)))
    (right_true (test A) (test B || (test M || false)) (right_true (test B) (test M || false) (left_true (test M) false h)))

-- an atom is no start
no_start : (x : ℕ) (t : Tree) → IsAtom t → t ≡ Start x → ⊥
no_start x t a e = subst IsAtom e a

-- an atom that a sorted state holds is that of a declared name
held_passes : (declared : List (ℕ × Sort)) (st : State) → IsStateSorted (sort_of declared) st → (t : Tree) → IsAtom t → IsHeld st t →
    IsTrue (held_by declared st t)
held_passes declared st sorted t a h =
    any_copy h.0 (λ (c : Copy). list_any (λ (d : ℕ × Sort). same_tree t (st.stores c d.0)) declared)
    (any_declared declared h.1.0 (λ (x : ℕ). same_tree t (st.stores h.0 x)) (of (sort_of declared h.1.0) refl)
    ((same_tree_is t (st.stores h.0 h.1.0)).1 h.1.1))
  where
    of : (o : Option Sort) → sort_of declared h.1.0 ≡ o → IsTrue (is_some (sort_of declared h.1.0))
    of None e = absurd (no_start h.1.0 t a (let s = (sorted.stores h.0).other h.1.0 e in subst (λ (u : Tree). u ≡ Start h.1.0) (sym h.1.1) s))
    of (Some sort) e = subst (λ (o : Option Sort). IsTrue (is_some o)) (sym e) refl

seen_passes : (declared : List (ℕ × Sort)) (states : List State) → EachState (IsStateSorted (sort_of declared)) states → (t : Tree) →
    IsAtom t → Seen states t → IsTrue (held_in declared states t)
seen_passes declared [] sorted t a h = absurd h
seen_passes declared (st ∷ states) sorted t a (inl h) =
    left_true (held_by declared st t) (held_in declared states t) (held_passes declared st sorted.0 t a h)
seen_passes declared (st ∷ states) sorted t a (inr h) =
    right_true (held_by declared st t) (held_in declared states t) (seen_passes declared states sorted.1 t a h)

-- a term of a declared name in one of some states was seen
passes_seen : (declared : List (ℕ × Sort)) (states : List State) (t : Tree) → IsTrue (held_in declared states t) → Seen states t
passes_seen declared [] t b = absurd cc
passes_seen declared (st ∷ states) t b =
    of (either_true (held_by declared st t) (held_in declared states t) b)
    (λ (h : IsTrue (held_in declared states t)). passes_seen declared states t h)
  where
    of : IsTrue (held_by declared st t) ⊎ IsTrue (held_in declared states t) → (IsTrue (held_in declared states t) → Seen states t) →
        Seen (st ∷ states) t
    of (inl h) later =
        let at = any_from (λ (c : Copy). list_any (λ (d : ℕ × Sort). same_tree t (st.stores c d.0)) declared) copies h in
        let name = any_from (λ (d : ℕ × Sort). same_tree t (st.stores at.0 d.0)) declared at.1 in
        inl (at.0, (name.0.0, (same_tree_is t (st.stores at.0 name.0.0)).0 name.1))
    of (inr h) later = inr (later h)

-- what is in states that are well passes
states_pass : (sorts : Sorts) (K : Tree → Type 0) (P : Tree → Type 0) → ((t : Tree) → IsBuilt K t → P t) → (states : List State) →
    EachState (IsWell K) states → EachInStates sorts P states
states_pass sorts K P gives [] all = tt
states_pass sorts K P gives (st ∷ states) all = (
  record {
    stores = λ (c : Copy) (x : ℕ) (here : IsDeclaredIn sorts x). gives (st.stores c x) (all.0.stores c x);
    facts = sides_more (IsBuilt K) P gives st.facts all.0.facts;
    target = sides_more (IsBuilt K) P gives st.target all.0.target;
  },
  states_pass sorts K P gives states all.1,
)

-- a term that can be named is built of what was seen
pub nameable_built : (declared : List (ℕ × Sort)) (states : List State) → AreFine (sort_of declared) states → (t : Tree) →
    Nameable (sort_of declared) states t → IsBuilt (Seen states) t
nameable_built declared states fine t nameable =
    let K = Seen states in
    let known = held_in declared states in
    let test = is_built known in
    let to : (u : Tree) → IsBuilt K u → PassesTest test u = built_passes K known (seen_passes declared states fine.sorted) in
    let from : (u : Tree) → PassesTest test u → IsBuilt K u = passes_built K known (passes_seen declared states) in
    from t
    (nameable test
    (record {
      literals = λ (z : ℤ). refl;
      starts = λ (x : ℕ) (here : IsDeclaredIn (sort_of declared) x). refl;
      slots = λ (c : Copy) (x : ℕ) (here : IsDeclaredIn (sort_of declared) x). refl;
      cell = refl;
      known = states_pass (sort_of declared) K (PassesTest test) to states fine.wells;
      arguments = λ (u : Tree) (p : PassesTest test u).
          each_more (IsBuilt K) (PassesTest test) to (arguments_of u) (built_parts K fine.solid.parts u (from u p));
      reads = λ (a i : Tree) (p : PassesTest test a) (s : tree_sort (sort_of declared) a ≡ Arr) (q : PassesTest test i)
          (r : tree_sort (sort_of declared) i ≡ Num). both_true (test a) (test i) p q;
      writes = λ (a i e : Tree) (p : PassesTest test a) (s : tree_sort (sort_of declared) a ≡ Arr) (q : PassesTest test i)
          (r : tree_sort (sort_of declared) i ≡ Num) (o : PassesTest test e) (v : tree_sort (sort_of declared) e ≡ Num).
          both_true (test a) (test i && test e) p (both_true (test i) (test e) q o);
      contraries = λ (u : Tree) (p : PassesTest test u) (s : tree_sort (sort_of declared) u ≡ Num). p;
      sums = λ (u v : Tree) (p : PassesTest test u) (s : tree_sort (sort_of declared) u ≡ Num) (q : PassesTest test v)
          (r : tree_sort (sort_of declared) v ≡ Num). both_true (test u) (test v) p q;
      differences = λ (u v : Tree) (p : PassesTest test u) (s : tree_sort (sort_of declared) u ≡ Num) (q : PassesTest test v)
          (r : tree_sort (sort_of declared) v ≡ Num). both_true (test u) (test v) p q;
      products = λ (u v : Tree) (p : PassesTest test u) (s : tree_sort (sort_of declared) u ≡ Num) (q : PassesTest test v)
          (r : tree_sort (sort_of declared) v ≡ Num). both_true (test u) (test v) p q;
    }))
