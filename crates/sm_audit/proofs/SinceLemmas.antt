-- What can be named from a node on can be named from each later one, and so can what is made of it.
use Rattle.sm_audit.proofs.Imports.{◌≡◌, ◌⊎◌, inl, inr, ◌<◌, ◌≤◌, ℕ, zero, suc, Bool, Option, Some, None, is_some, true, false, List, [], ◌∷◌, length, take, slice_get, get_or, refl, sym, ap, subst, ◌∙◌, arith, same_Some, Copy, copy_of, Sorts, IsDeclaredIn, IsSorted, IsStoreSorted, AreTreesSorted, tree_at, tree_in, TermId, Tree, Start, IsStoreReady, State, EachInState, EachInStates, IsClosed, Nameable, PassesTest, states_until, entry_of, IsNamedFrom, AreNamedFrom, AreSince, IsKnownBy, IsPut, IsMadeOf}
use Rattle.sm_syntax.specs.claim.Syntax.{Code}
use Rattle.sm_syntax.specs.declared.tree.Sort.{Sort}
use Rattle.sm_term.specs.declared.term.Term.TheVariants as row
use Rattle.sm_term.specs.Symbolic.{SymbolicStore}
use Rattle.sm_term.specs.SymStores.{store_in, tree_or_start}
use Rattle.sm_term.specs.declared.symbolic.SymStore.{SymStore}
use Rattle.sm_term.specs.declared.term.Term.{Term}
use Rattle.sm_term.proofs.TermsLemmas.{part_before}

module _ (sorts : Sorts) where
  -- the first of some first states
  first_states : (P : Tree → Type 0) (states : List State) (m n : ℕ) → m ≤ n → EachInStates sorts P (take n states) →
      EachInStates sorts P (take m states)
  first_states P [] zero n h all = tt
  first_states P [] (suc m) n h all = tt
  first_states P (st ∷ states) zero n h all = tt
  first_states P (st ∷ states) (suc m) zero h all = absurd (omega (arith, h))
  first_states P (st ∷ states) (suc m) (suc n) h all =
      let fewer : m ≤ n = omega (arith, h) in (all.0, first_states P states m n fewer all.1)

  -- one of them
  in_states : (P : Tree → Type 0) (states : List State) (k : ℕ) (st : State) → slice_get states k ≡ Some st →
      EachInStates sorts P (take (suc k) states) → EachInState sorts P st
  in_states P [] k st e all = absurd cc
  in_states P (s ∷ states) zero st e all = subst (EachInState sorts P) (same_Some s st e) all.0
  in_states P (s ∷ states) (suc k) st e all = in_states P states k st e all.1

  module _ (states : List State) where
    closed_before : (test : Tree → Bool) (m n : ℕ) → m ≤ n → IsClosed sorts (states_until states n) test →
        IsClosed sorts (states_until states m) test
    closed_before test m n h c =
        let more : suc m ≤ suc n = omega (arith, h) in
        record {
          literals = c.literals;
          starts = c.starts;
          slots = c.slots;
          cell = c.cell;
          known = first_states (PassesTest test) states (suc m) (suc n) more c.known;
          arguments = c.arguments;
          reads = c.reads;
          writes = c.writes;
          contraries = c.contraries;
          sums = c.sums;
          differences = c.differences;
          products = c.products;
        }

    -- a term stays nameable
    pub named_later : (t : Tree) (m n : ℕ) → m ≤ n → Nameable sorts (states_until states m) t → Nameable sorts (states_until states n) t
    named_later t m n h named test closed = named test (closed_before test m n h closed)

    -- what stands in a store of a state
    pub stored_named : (k : ℕ) (st : State) (c : Copy) (f : SymbolicStore) (x : ℕ) → slice_get states k ≡ Some st → st.stores c ≡ f →
        IsStoreSorted sorts f → IsSorted sorts (f x) → Nameable sorts (states_until states k) (f x)
    stored_named k st c f x at same sorted good test closed = of (sorts x) refl
      where
        of : (o : Option Sort) → sorts x ≡ o → PassesTest test (f x)
        of None e =
            let start : IsDeclaredIn sorts x = subst (IsSorted sorts) (sorted.other x e) good in
            let no : false ≡ true = subst (λ (o : Option Sort). is_some o ≡ true) e start in
            absurd cc
        of (Some sort) e =
            let here : IsDeclaredIn sorts x = ap (λ (o : Option Sort). is_some o) e in
            let all = in_states (PassesTest test) states k st at closed.known in
            subst (λ (s : SymbolicStore). PassesTest test (s x)) same (all.stores c x here)

    module _ (trees : List Tree) where
      -- terms that are named one by one
      all_named : (k : ℕ) (ids : List TermId) →
          ((x : ℕ) (t : TermId) → slice_get ids x ≡ Some t → IsNamedFrom sorts states trees k t.0) →
          AreNamedFrom sorts states trees k ids
      all_named k [] each = tt
      all_named k (t ∷ ts) each =
          (each 0 t refl, all_named k ts (λ (x : ℕ) (u : TermId) (e : slice_get ts x ≡ Some u). each (suc x) u e))

      pub one_named : (k : ℕ) (ids : List TermId) (i : ℕ) (d : TermId) → AreNamedFrom sorts states trees k ids → i < length ids →
          IsNamedFrom sorts states trees k (get_or ids i d).0
      one_named k [] i d all h = absurd (omega (arith, h))
      one_named k (t ∷ ts) zero d all h = all.0
      one_named k (t ∷ ts) (suc i) d all h = one_named k ts i d all.1 (let fewer : i < length ts = omega (arith, h) in fewer)

      -- the terms of a store of the program
      pub store_named : (k : ℕ) (st : State) (c : Copy) (s : SymStore) → slice_get states k ≡ Some st →
          st.stores c ≡ store_in trees s → IsStoreReady sorts trees s → AreTreesSorted sorts trees →
          AreNamedFrom sorts states trees k s.list.items
      store_named k st c s at same ready good =
          all_named k s.list.items
          (λ (x : ℕ) (t : TermId) (e : slice_get s.list.items x ≡ Some t).
          let inside : t.0 < length trees = part_before (length trees) s.list.items x t ready.0 e in
          let here : store_in trees s x ≡ tree_at trees t.0 = ap (tree_or_start trees x) e in
          let sorted : IsSorted sorts (store_in trees s x) = subst (IsSorted sorts) (sym here) (good t.0 inside) in (
            inside,
            subst (Nameable sorts (states_until states k)) here
                (stored_named k st c (store_in trees s) x at same ready.1 sorted),
          ))

      module _ (since : List (Option ℕ)) (all : AreSince sorts states trees since) where
        -- a term whose entry is a node up to this one
        pub known_named : (node n : ℕ) → IsKnownBy since node n → IsNamedFrom sorts states trees node n
        known_named node n known =
            let h = all n known.0 known.1 in
            (h.0, named_later (tree_at trees n) known.0 node known.2 h.1)

        -- a term by its parts
        pub made_named : (codes : List Code) (node : ℕ) (t : Term) → IsSorted sorts (tree_in codes trees t) → IsMadeOf since node t →
            Nameable sorts (states_until states node) (tree_in codes trees t)
        made_named codes node (row.Lit z) s m test closed = closed.literals z
        made_named codes node (row.Start x) s m test closed = closed.starts x.0 s
        made_named codes node (row.Havoc k c x) s m test closed = absurd m
        made_named codes node (row.Slot c x) s m test closed = closed.slots (copy_of c) x.0 s
        made_named codes node row.Cell s m test closed = closed.cell
        made_named codes node (row.Read a i) s m test closed =
            closed.reads (tree_at trees a.0) (tree_at trees i.0) ((known_named node a.0 m.0).1 test closed) s.1
            ((known_named node i.0 m.1).1 test closed) s.3
        made_named codes node (row.Write a i e) s m test closed =
            closed.writes (tree_at trees a.0) (tree_at trees i.0) (tree_at trees e.0) ((known_named node a.0 m.0).1 test closed) s.1
            ((known_named node i.0 m.1).1 test closed) s.3 ((known_named node e.0 m.2).1 test closed) s.5
        made_named codes node (row.Neg t) s m test closed =
            closed.contraries (tree_at trees t.0) ((known_named node t.0 m).1 test closed) s.1
        made_named codes node (row.Add t u) s m test closed =
            closed.sums (tree_at trees t.0) (tree_at trees u.0) ((known_named node t.0 m.0).1 test closed) s.1
            ((known_named node u.0 m.1).1 test closed) s.3
        made_named codes node (row.Sub t u) s m test closed =
            closed.differences (tree_at trees t.0) (tree_at trees u.0) ((known_named node t.0 m.0).1 test closed) s.1
            ((known_named node u.0 m.1).1 test closed) s.3
        made_named codes node (row.Mul t u) s m test closed =
            closed.products (tree_at trees t.0) (tree_at trees u.0) ((known_named node t.0 m.0).1 test closed) s.1
            ((known_named node u.0 m.1).1 test closed) s.3
        made_named codes node (row.Fun body x from args) s m test closed = absurd m

      -- an entry more
      pub since_put : (old new : List (Option ℕ)) (at node : ℕ) → IsPut old new at node → AreSince sorts states trees old →
          IsNamedFrom sorts states trees node at → AreSince sorts states trees new
      since_put old new at node put before named n first e = of (put n first e)
        where
          of : (entry_of old n ≡ Some first) ⊎ ((n ≡ at) × (first ≡ node)) → IsNamedFrom sorts states trees first n
          of (inl h) = before n first h
          of (inr h) =
              subst (λ (m : ℕ). IsNamedFrom sorts states trees m n) (sym h.1)
              (subst (IsNamedFrom sorts states trees node) (sym h.0) named)

-- where each entry is none
pub since_none : (sorts : Sorts) (states : List State) (trees : List Tree) (since : List (Option ℕ)) →
    ((n : ℕ) → entry_of since n ≡ None) → AreSince sorts states trees since
since_none sorts states trees since none n node e = absurd (let no : None ≡ Some node = sym (none n) ∙ e in cc)
