-- A state that was named was seen, and names stay while a table widens.
use Rattle.sm_write.proofs.Imports.{◌≡◌, inl, inr, ℕ, List, [], ◌∷◌, ◌++◌, ap, sym, subst, ◌∙◌, Copy, O, A, B, M, PerCopy, SymbolicStore, store_in, SymStore, TableValue, trees_in, Tree, State, stores_in, Pending, Progress, Subject, IsTreeNamed, Shows, NamesStore, NamesState, IsAtom, Seen, Extends, WriterValue, AreSeenNamed, Names}
use Rattle.sm_proof.specs.Passing.{Due}
use Rattle.sm_write.proofs.BuiltStates.{With}
use Rattle.sm_write.proofs.HeldLemmas.{tree_kept}
use Rattle.sm_write.proofs.SeenLemmas.{seen_back}
use Rattle.sm_write.proofs.WalkedLemmas.{extends_twice, set_later}
use Rattle.sm_syntax.proofs.EachCopy.{each_copy}

-- a state whose new values and summaries have numbers was seen
state_seen : (trees : List Tree) (names : Names) (seen : List State) (st : State) → AreSeenNamed trees names seen →
    ((c : Copy) (x : ℕ) → IsAtom (st.stores c x) → IsTreeNamed trees names (st.stores c x)) → AreSeenNamed trees names (seen ++ st ∷ [])
state_seen trees names seen st before held t atom h = of (seen_back seen st t h)
  where
    of : With (Seen seen) st t → IsTreeNamed trees names t
    of (inl a) = before t atom a
    of (inr (c, (x, e))) = subst (IsTreeNamed trees names) (sym e) (held c x (subst IsAtom e atom))

-- a state that is due shows the stores of its copies
shows_due : (s : Subject) (trees : List Tree) (old new : WriterValue) (p : Progress) (st : State) (above : ℕ) (rest : List Pending)
    (c : Copy) (store : SymbolicStore) → st.stores c ≡ store → (e : Extends s trees old new p) → p.pending ≡ Due st above ∷ rest →
    Shows e.after c store
shows_due s trees old new p st above rest c store same e due =
    (Due st above, rest, e.adds.pending ∙ due, λ (x : ℕ). ap (λ (f : SymbolicStore). f x) same)

-- the stores of a state, one copy after the other
pub state_named : (v : TableValue) (o a b m last : WriterValue) (stores : PerCopy SymStore) →
    NamesStore v o a O (store_in (trees_in v) stores.base) → NamesStore v a b A (store_in (trees_in v) stores.variant_a) →
    NamesStore v b m B (store_in (trees_in v) stores.variant_b) → NamesStore v m last M (store_in (trees_in v) stores.candidate) →
    NamesState v o last stores
state_named v o a b m last stores first second third fourth s seen p st above rest set due same =
    let trees = trees_in v in
    let shows = λ (c : Copy) (w : WriterValue) (e : Extends s trees o w p).
    shows_due s trees o w p st above rest c (stores_in trees stores c) (same c) e due in
    let h = first s seen p set (Due st above, rest, due, λ (x : ℕ). ap (λ (f : SymbolicStore). f x) (same O)) in
    let one = h.extends in
    let i = second s seen one.after (set_later s v o a seen p set one) (shows A a one) in
    let two = extends_twice s trees o a b p one i.extends in
    let j = third s seen two.after (set_later s v o b seen p set two) (shows B b two) in
    let three = extends_twice s trees o b m p two j.extends in
    let k = fourth s seen three.after (set_later s v o m seen p set three) (shows M m three) in
    let all = extends_twice s trees o m last p three k.extends in
    let at_o : SymbolicStore = store_in trees stores.base in
    let at_a : SymbolicStore = store_in trees stores.variant_a in
    let at_b : SymbolicStore = store_in trees stores.variant_b in
    let at_m : SymbolicStore = store_in trees stores.candidate in
    let set_last = set_later s v o last seen p set all in
    let kept_m = tree_kept trees m.names last.names in
    let kept_b = tree_kept trees b.names m.names in
    let kept_a = tree_kept trees a.names b.names in
    let same_at : (c : Copy) (x : ℕ) → st.stores c x ≡ stores_in trees stores c x =
    λ (c : Copy) (x : ℕ). ap (λ (f : SymbolicStore). f x) (same c) in
    let back : (c : Copy) → ((x : ℕ) → IsAtom (stores_in trees stores c x) → IsTreeNamed trees last.names (stores_in trees stores c x)) →
    (x : ℕ) → IsAtom (st.stores c x) → IsTreeNamed trees last.names (st.stores c x) =
    λ (c : Copy) (f : (x : ℕ) → IsAtom (stores_in trees stores c x) → IsTreeNamed trees last.names (stores_in trees stores c x))
    (x : ℕ) (atom : IsAtom (st.stores c x)).
    subst (IsTreeNamed trees last.names) (sym (same_at c x)) (f x (subst IsAtom (same_at c x) atom)) in
    record {
      extends = all;
      set = record {
        sorts = set_last.sorts;
        stands = set_last.stands;
        due = set_last.due;
        named =
            state_seen trees last.names seen st set_last.named
            (each_copy (λ (c : Copy). (x : ℕ) → IsAtom (st.stores c x) → IsTreeNamed trees last.names (st.stores c x))
            (back O
            (λ (x : ℕ) (atom : IsAtom (at_o x)).
            kept_m (at_o x) k.extends.kept (kept_b (at_o x) j.extends.kept (kept_a (at_o x) i.extends.kept (h.named x atom)))))
            (back A
            (λ (x : ℕ) (atom : IsAtom (at_a x)). kept_m (at_a x) k.extends.kept (kept_b (at_a x) j.extends.kept (i.named x atom))))
            (back B (λ (x : ℕ) (atom : IsAtom (at_b x)). kept_m (at_b x) k.extends.kept (j.named x atom)))
            (back M (λ (x : ℕ) (atom : IsAtom (at_m x)). k.named x atom)));
      };
    }
