-- The new values and summaries of a state get numbers, one name after the other.
use Rattle.sm_write.proofs.Imports.{◌≡◌, ℕ, ◌+◌, ◌<◌, ◌≤◌, ◌^◌, Bool, true, false, nat_eq, nat_lt, Option, Some, None, is_some, Ok, List, [], ◌∷◌, ◌++◌, length, slice_get, refl, ap, sym, subst, ◌∙◌, arith, ⊎_elim, cases_Bool, nat_tests, slice_get_past, update, Copy, copy_of, Sorts, Sort, number_of, IsStoreSorted, SymbolicStore, tree_or_start, TableValue, trees_in, sorts_in, tree_at, TermId, Tree, Start, Havoc, Slot, Cell, Read, Write, Neg, Add, Sub, Mul, Fun, tested_or, BadNumber, Progress, present_term, of_name, term_made, Subject, is_atom, IsTreeNamed, Shows, terms_store, NamesOne, HeldNamed, NamesHeld, NamesStore, IsAtom, KeepsNames, Extends, WriterValue, Names, lt_from_test, copy_back}
use Rattle.sm_term.specs.Terms.{Lit}
use Rattle.sm_plan.proofs.RenewedStores.{number_below}
use Rattle.sm_proof.specs.declared.line.TermLine.TheVariants.{Cur}
use Rattle.sm_write.proofs.WriterSteps.{adds_none}
use Rattle.sm_write.proofs.WalkedLemmas.{AddsTerm, kept_gains, extends_none, extends_twice, set_later, gained}

pub tested_atom : (t : Tree) → is_atom t ≡ true → IsAtom t
tested_atom (Lit z) e = absurd cc
tested_atom (Start x) e = absurd cc
tested_atom (Havoc k c x) e = tt
tested_atom (Slot c x) e = absurd cc
tested_atom Cell e = absurd cc
tested_atom (Read t i) e = absurd cc
tested_atom (Write t i e) f = absurd cc
tested_atom (Neg t) e = absurd cc
tested_atom (Add t u) e = absurd cc
tested_atom (Sub t u) e = absurd cc
tested_atom (Mul t u) e = absurd cc
tested_atom (Fun c x args) e = tt

-- an atom stands at a declared name
pub held_declared : (sorts : Sorts) (store : SymbolicStore) → IsStoreSorted sorts store → (x : ℕ) → IsAtom (store x) →
    is_some (sorts x) ≡ true
held_declared sorts store sorted x atom = of (sorts x) refl
  where
    of : (o : Option Sort) → sorts x ≡ o → is_some o ≡ true
    of None e = let none : IsAtom (Start x) = subst IsAtom (sorted.other x e) atom in absurd none
    of (Some sort) e = refl

-- a term that has a number
pub one_there : (v : TableValue) (w : WriterValue) (c : Copy) (x : ℕ) (t n : TermId) → w.names t.0 ≡ Some n → NamesOne v w w c x t
one_there v w c x t n e s seen p store set shows sorted here = record {
  extends = extends_none s (trees_in v) w p set.stands;
  named = λ (a : IsAtom (tree_at (trees_in v) t.0)). (n, e);
}

-- one that is named as it is present
pub one_added : (v : TableValue) (old new : WriterValue) (c : Copy) (x number : ℕ) (t m : TermId) → AddsTerm old new t.0 (Cur number x) →
    ((q : ℕ) → new.names q ≡ update nat_eq old.names t.0 (Some m) q) → old.names t.0 ≡ None → number ≡ number_of c → x < 2 ^ 64 →
    t.0 < length (trees_in v) → is_atom (tree_at (trees_in v) t.0) ≡ true → NamesOne v old new c x t
one_added v old new c x number t m adds gains none is low inside test s seen p store set shows sorted here =
    let sorts = sorts_in v in
    let tree = tree_at (trees_in v) t.0 in
    let due = shows.0 in
    let atom : IsAtom (store x) = subst IsAtom (sym here) (tested_atom tree test) in
    let below = number_below c in
    let made : term_made s.sorts p.terms due (Cur number x) ≡ Ok tree =
    ap (λ (f : Sorts). of_name f x (present_term due (copy_of number) x)) set.sorts
    ∙ (ap (λ (n : ℕ). of_name sorts x (present_term due (copy_of n) x)) is
    ∙ (ap (λ (d : Copy). of_name sorts x (present_term due d x)) (copy_back c)
    ∙ (ap (of_name sorts x) (shows.3 x ∙ here)
    ∙ ap (λ (b : Bool). tested_or b BadNumber (Ok tree)) (held_declared sorts store sorted x atom)))) in
    let stands = adds s (trees_in v) p due shows.1 set.stands shows.2 inside (omega (arith, is, below), low) made in
    record {
      extends = record {
        after = record p { terms = p.terms ++ tree ∷ [] };
        stands = stands;
        adds = record { nodes = refl; pending = refl; terms = (tree ∷ [], refl); forms = (adds_none p).forms };
        kept = kept_gains old.names new.names t.0 m gains none;
      };
      named = λ (a : IsAtom tree). (m, gained old.names new.names t.0 m gains);
    }

-- what is due shows the store still
pub shows_later : (s : Subject) (trees : List Tree) (old new : WriterValue) (p : Progress) (c : Copy) (store : SymbolicStore) →
    (e : Extends s trees old new p) → Shows p c store → Shows e.after c store
shows_later s trees old new p c store e shows = (shows.0, shows.1, e.adds.pending ∙ shows.2, shows.3)

-- a tree that is named is named still
pub tree_kept : (trees : List Tree) (a b : Names) (t : Tree) → KeepsNames a b → IsTreeNamed trees a t → IsTreeNamed trees b t
tree_kept trees a b t kept h = (h.0, h.1, h.2, (h.3.0, kept h.0 h.3.0 h.3.1))

past_is : (m n : ℕ) → nat_lt m n ≡ false → n ≤ m
past_is m n e = grind (arith, nat_tests)

-- one name more
pub held_more : (v : TableValue) (old mid new : WriterValue) (c : Copy) (terms : List TermId) (x : ℕ) (t : TermId) →
    NamesHeld v old mid c terms x → slice_get terms x ≡ Some t → t.0 < length (trees_in v) → NamesOne v mid new c x t →
    NamesHeld v old new c terms (x + 1)
held_more v old mid new c terms x t first at inside one s seen p set shows sorted =
    let trees = trees_in v in
    let store = terms_store trees terms in
    let a = first s seen p set shows sorted in
    let here : store x ≡ tree_at trees t.0 = ap (tree_or_start trees x) at in
    let b = one s seen a.extends.after store (set_later s v old mid seen p set a.extends)
    (shows_later s trees old mid p c store a.extends shows) sorted here in
    record {
      extends = extends_twice s trees old mid new p a.extends b.extends;
      named = λ (y : ℕ) (h : y < x + 1) (atom : IsAtom (store y)).
          ⊎_elim
          (λ (e : nat_lt y x ≡ true).
          tree_kept trees mid.names new.names (store y) b.extends.kept (a.named y (lt_from_test y x e) atom))
          (λ (e : nat_lt y x ≡ false).
          let past = past_is y x e in
          let same : y ≡ x = omega (arith, past, h) in
          let there : store y ≡ tree_at trees t.0 = ap store same ∙ here in
          (t.0, inside, sym there, b.named (subst IsAtom there atom)))
          (cases_Bool (nat_lt y x));
    }

-- all names
pub held_all : (v : TableValue) (old new : WriterValue) (c : Copy) (terms : List TermId) (n : ℕ) → NamesHeld v old new c terms n →
    length terms ≡ n → IsStoreSorted (sorts_in v) (terms_store (trees_in v) terms) →
    NamesStore v old new c (terms_store (trees_in v) terms)
held_all v old new c terms n names len sorted s seen p set shows =
    let store = terms_store (trees_in v) terms in
    let h = names s seen p set shows sorted in
    record {
      extends = h.extends;
      named = λ (x : ℕ) (atom : IsAtom (store x)). of x atom h (nat_lt x (length terms)) refl;
    }
  where
    of : (x : ℕ) → IsAtom (terms_store (trees_in v) terms x) → HeldNamed s v old new p (terms_store (trees_in v) terms) n → (b : Bool) →
        nat_lt x (length terms) ≡ b → IsTreeNamed (trees_in v) new.names (terms_store (trees_in v) terms x)
    of x atom h true e = h.named x (subst (λ (m : ℕ). x < m) len (lt_from_test x (length terms) e)) atom
    of x atom h false e =
        let past = slice_get_past terms x (past_is x (length terms) e) in
        let none : IsAtom (Start x) = subst IsAtom (ap (tree_or_start (trees_in v) x) past) atom in
        absurd none
