-- Nodes that move all copies: ends, loops side by side, and blocks.
use Rattle.sm_plan.proofs.Imports.{◌≡◌, ℕ, Bool, true, false, not, ◌&&◌, ◌||◌, if◌then◌else◌, Option, Some, List, [], ◌∷◌, ◌++◌, map, inl, inr, refl, ap, sym, ◌∙◌, subst, ⊎_elim, flat_map, fun_ext, same_Some, and_parts, cases_Bool, Code, End, Store, truth_of, turns, run, assigns, Copy, unassigned, Havoc, Structure, meaning, with_slots, with_havoc, Assertion, Holds, AllHold, negate, conj, SymbolicStore, store_meant, form_of, all_at_stores, IsFormBelow, form_means, holds_append, conj_means, fresh_meaning, fresh_means, fresh_all, Copies, copies, each, has, copies_that, no_copies, is_inhabited, subsets, is_over, rest_after, is_loop, loop_guard, loop_body, State, AllValid, IsSound, AreSound, IsStateBelow}
use Rattle.std.proofs.Common.{eq-eqb}
use Rattle.sm_syntax.specs.claim.Syntax.{While}
use Rattle.sm_term.proofs.AssertionsLemmas.{contrary}
use Rattle.sm_term.proofs.SlotsLemmas.{all_at_stores_mean}
use Rattle.sm_plan.specs.Successors as next
use Rattle.sm_plan.proofs.CopiesLemmas.{each_true, has_that, inhabited_by, In, in_subsets}
use Rattle.sm_plan.proofs.StatementsLemmas.{ends_then, run_cut, still, loop_is, over_is}
use Rattle.sm_plan.proofs.JointTurns.{Joint, together}
use Rattle.sm_plan.proofs.BelowLemmas.{IsStoreBelow}

-- valid goals hold where the facts do
pub valid_hold : (m : Structure) (facts goals : List Assertion) → AllValid facts goals → AllHold m facts → AllHold m goals
valid_hold m facts [] valid hold = tt
valid_hold m facts (g ∷ gs) valid hold = (valid.0 m hold, valid_hold m facts gs valid.1 hold)

-- formulas at stores hold exactly where they hold with these values at the slots
pub at_values : (m : Structure) (s : Copy → SymbolicStore) (u : Copy → Store) (fs : List Assertion)
    → ((c : Copy) → store_meant m (s c) ≡ u c) →
    AllHold m (all_at_stores s fs) → AllHold (with_slots m u) fs
at_values m s u fs same h =
    let all : (λ (c : Copy). store_meant m (s c)) ≡ u = fun_ext same in
    subst (λ (v : Copy → Store). AllHold (with_slots m v) fs) all ((all_at_stores_mean m s fs).0 h)

-- formulas that hold with the stores' values at the slots hold at the stores
pub from_values : (m : Structure) (s : Copy → SymbolicStore) (u : Copy → Store) (fs : List Assertion)
    → ((c : Copy) → store_meant m (s c) ≡ u c) →
    AllHold (with_slots m u) fs → AllHold m (all_at_stores s fs)
from_values m s u fs same h =
    let all : (λ (c : Copy). store_meant m (s c)) ≡ u = fun_ext same in
    (all_at_stores_mean m s fs).1 (subst (λ (v : Copy → Store). AllHold (with_slots m v) fs) (sym all) h)

-- all rests are over
pub ends_sound : (st : State) → each (λ (c : Copy). is_over (st.rest c)) ≡ true → AllValid st.facts (all_at_stores st.stores st.target)
    → IsSound st
ends_sound st over valid m end facts ends =
    let same : (c : Copy) → store_meant m (st.stores c) ≡ end c = λ (c : Copy).
    same_Some (store_meant m (st.stores c)) (end c)
    (subst (λ (r : Code). run m.bound r (store_meant m (st.stores c)) ≡ Some (end c))
    (over_is (st.rest c) (each_true (λ (d : Copy). is_over (st.rest d)) over c)) (ends c)) in
    at_values m st.stores end st.target same (valid_hold m st.facts (all_at_stores st.stores st.target) valid facts)

-- with values of node k for what the copies' code assigned, the renewed stores mean the stores that are there
pub renewed_means : (m : Structure) (k : ℕ) (done : Copy → Code) (s : Copy → SymbolicStore) (u : Copy → Store)
    → ((c : Copy) → IsStoreBelow k (s c)) →
    ((c : Copy) (x : ℕ) → assigns (done c) x ≡ false → u c x ≡ meaning m (s c x)) →
    (c : Copy) → store_meant (with_havoc m k u) (next.renewed k done s c) ≡ u c
renewed_means m k done s u below kept c = fun_ext (λ (x : ℕ). at x (assigns (done c) x) refl)
  where
    at : (x : ℕ) (b : Bool) → assigns (done c) x ≡ b → meaning (with_havoc m k u) (if b then Havoc k c x else s c x) ≡ u c x
    at x true e = ap (λ (here : Bool). (if here then u c else m.havoc k c) x) (eq-eqb k k refl)
    at x false e = fresh_meaning m k u (s c x) (below c x) ∙ sym (kept c x e)

-- a kept formula that is fresh, with other values of node k
kept_later : (m : Structure) (k : ℕ) (u v : Copy → Store) (keep : Assertion) → IsFormBelow k keep → Holds (with_slots m v) keep
    → Holds (with_slots (with_havoc m k u) v) keep
kept_later m k u v keep fresh h = (fresh_means (with_slots m v) k u keep fresh).1 h

-- a kept formula that is fresh and holds with other values of node k holds without them
kept_before : (m : Structure) (k : ℕ) (u v : Copy → Store) (keep : Assertion) → IsFormBelow k keep
    → Holds (with_slots (with_havoc m k u) v) keep → Holds (with_slots m v) keep
kept_before m k u v keep fresh h = (fresh_means (with_slots m v) k u keep fresh).0 h

-- a block
pub block_sound : (k : ℕ) (st : State) (counts : Copy → ℕ) (keep : Assertion) → IsStateBelow k st → IsFormBelow k keep →
    IsSound (next.inner_state st counts keep) → IsSound (next.after_block_state st k counts keep) → IsSound st
block_sound k st counts keep below fresh inner after m end facts ends =
    let σ : Copy → Store = λ (c : Copy). store_meant m (st.stores c) in
    let cut = λ (c : Copy). run_cut m.bound (counts c) (st.rest c) (σ c) (end c) (ends c) in
    let u : Copy → Store = λ (c : Copy). (cut c).0 in
    let new = with_havoc m k u in
    let stores = next.renewed k (next.fronts st counts) st.stores in
    let meant = renewed_means m k (next.fronts st counts) st.stores u below.stores
    (λ (c : Copy) (x : ℕ) (e : assigns (next.fronts st counts c) x ≡ false).
    unassigned m.bound (next.fronts st counts c) x (σ c) (u c) e (cut c).1) in
    let kept : Holds (with_slots m u) keep = (conj_means (with_slots m u) keep).1 (inner m u facts (λ (c : Copy). (cut c).1)) in
    let there : AllHold new (all_at_stores stores (conj keep)) =
    from_values new stores u (conj keep) meant ((conj_means (with_slots new u) keep).0 (kept_later m k u u keep fresh kept)) in
    let old : AllHold new st.facts = (fresh_all m k u st.facts below.facts).1 facts in
    (fresh_all (with_slots m end) k u st.target below.target).0
    (after new end (holds_append new st.facts (all_at_stores stores (conj keep)) old there)
    (λ (c : Copy). ap (λ (s : Store). run m.bound (rest_after (counts c) (st.rest c)) s) (meant c) ∙ (cut c).2))

-- a sound state among others
pub sound_among : (f : Copies → State) (v : Copies) (vs : List Copies) (others : List State) → In v vs → AreSound (map f vs ++ others)
    → IsSound (f v)
sound_among f v [] others h all = elim h [ ]
sound_among f v (w ∷ vs) others (inl e) all = subst (λ (x : Copies). IsSound (f x)) e all.0
sound_among f v (w ∷ vs) others (inr h) all = sound_among f v vs others h all.1

-- the ones after
pub sound_parts : (first second : List State) → AreSound (first ++ second) → AreSound first × AreSound second
sound_parts [] second all = (tt, all)
sound_parts (st ∷ first) second all = let p = sound_parts first second all.1 in ((all.0, p.0), p.1)

module _ (k : ℕ) (st : State) (set : Copies) (keep : Assertion) (below : IsStateBelow k st) (fresh : IsFormBelow k keep)
    (loops : (c : Copy) → has set c ≡ true → is_loop (st.rest c) ≡ true)
    (turn : (v : Copies) → ((c : Copy) → has v c ≡ true → has set c ≡ true) → is_inhabited v ≡ true
    → IsSound (next.turn_state st k set keep v))
    (after : IsSound (next.after_loops_state st k set keep)) (m : Structure) where
  -- the guard of a copy of the set
  abbrev guard : Copy → Store → Bool
  guard c s = has set c && truth_of (loop_guard (st.rest c)) s

  -- its body
  abbrev body : Copy → Store → Option Store
  body c = run m.bound (loop_body (st.rest c))

  -- what each turn keeps: the names that no body assigns, and the formula
  abbrev Keeps : (Copy → Store) → Type 0
  Keeps s =
      ((c : Copy) (x : ℕ) → assigns (next.bodies st set c) x ≡ false → s c x ≡ meaning m (st.stores c x)) × Holds (with_slots m s) keep

  -- the facts of guards
  guards_hold : (turning : Copies) (s : Copy → Store) (stores : Copy → SymbolicStore) (n : Structure)
      → ((c : Copy) → store_meant n (stores c) ≡ s c) →
      ((c : Copy) → has set c ≡ true → truth_of (loop_guard (st.rest c)) (s c) ≡ has turning c) →
      (cs : List Copy) → AllHold n (flat_map (next.guard_fact st set turning stores) cs)
  guards_hold turning s stores n meant exact [] = tt
  guards_hold turning s stores n meant exact (c ∷ cs) =
      holds_append n (next.guard_fact st set turning stores c) (flat_map (next.guard_fact st set turning stores) cs)
      (of_one (has set c) (has turning c) (λ (h : has set c ≡ true). ap (truth_of (loop_guard (st.rest c))) (meant c) ∙ exact c h))
      (guards_hold turning s stores n meant exact cs)
    where
      of_one : (here taking : Bool) → (here ≡ true → truth_of (loop_guard (st.rest c)) (store_meant n (stores c)) ≡ taking) →
          AllHold n (if here then
          (if taking then form_of (loop_guard (st.rest c)) (stores c) else negate (form_of (loop_guard (st.rest c)) (stores c)))
          ∷ [] else [])
      of_one true true h = ((form_means n (loop_guard (st.rest c)) (stores c)).1 (h refl), tt)
      of_one true false h = (
        (contrary n (form_of (loop_guard (st.rest c)) (stores c))).1
            (λ (g : Holds n (form_of (loop_guard (st.rest c)) (stores c))). let p =
            (form_means n (loop_guard (st.rest c)) (stores c)).0 g in let q = h refl in absurd cc),
        tt,
      )
      of_one false taking h = tt

  -- the facts at the head, where the kept formula holds
  head_holds : AllHold m st.facts → (s : Copy → Store) → Keeps s → (turning : Copies) →
      ((c : Copy) → has set c ≡ true → truth_of (loop_guard (st.rest c)) (s c) ≡ has turning c) →
      AllHold (with_havoc m k s) (st.facts ++ next.head_facts st k set keep turning)
  head_holds facts s h turning exact =
      let new = with_havoc m k s in
      let stores = next.head_stores st k set in
      let meant = renewed_means m k (next.bodies st set) st.stores s below.stores h.0 in
      holds_append new st.facts (next.head_facts st k set keep turning) ((fresh_all m k s st.facts below.facts).1 facts)
      (holds_append new (all_at_stores stores (conj keep)) (flat_map (next.guard_fact st set turning stores) copies)
      (from_values new stores s (conj keep) meant ((conj_means (with_slots new s) keep).0 (kept_later m k s s keep fresh h.1)))
      (guards_hold turning s stores new meant exact copies))

  -- one turn, or none
  turn_end : (n : ℕ) (b : Bool) (r : Code) (s t : Store) → (b ≡ true → run n r s ≡ Some t) → (b ≡ false → t ≡ s)
      → run n (if b then r else End) s ≡ Some t
  turn_end n true r s t moved stayed = moved refl
  turn_end n false r s t moved stayed = ap (λ (u : Store). Some u) (sym (stayed refl))

  -- names that no body assigns
  turn_leaves : (s t : Copy → Store) → Keeps s → Joint guard body s t → (c : Copy) (x : ℕ) → assigns (next.bodies st set c) x ≡ false
      → t c x ≡ meaning m (st.stores c x)
  turn_leaves s t h joint c x free =
      ⊎_elim
      (λ (e : guard c (s c) ≡ true).
      let here = (and_parts (has set c) (truth_of (loop_guard (st.rest c)) (s c)) e).0 in
      let apart : assigns (loop_body (st.rest c)) x ≡ false =
      subst (λ (b : Bool). assigns (if b then loop_body (st.rest c) else End) x ≡ false) here free in
      unassigned m.bound (loop_body (st.rest c)) x (s c) (t c) apart (joint.moved c e) ∙ h.0 c x free)
      (λ (e : guard c (s c) ≡ false). ap (λ (u : Store). u x) (joint.stayed c e) ∙ h.0 c x free)
      (cases_Bool (guard c (s c)))

  -- a joint turn keeps it
  turn_keeps : AllHold m st.facts → (s t : Copy → Store) → Keeps s → Joint guard body s t → Keeps t
  turn_keeps facts s t h joint =
      let takes : Copy → Bool = λ (c : Copy). guard c (s c) in
      let turning = copies_that takes in
      let new = with_havoc m k s in
      let meant = renewed_means m k (next.bodies st set) st.stores s below.stores h.0 in
      let within : (c : Copy) → has turning c ≡ true → has set c ≡ true = λ (c : Copy) (e : has turning c ≡ true).
      (and_parts (has set c) (truth_of (loop_guard (st.rest c)) (s c)) (sym (has_that takes c) ∙ e)).0 in
      let exact : (c : Copy) → has set c ≡ true → truth_of (loop_guard (st.rest c)) (s c) ≡ has turning c =
      λ (c : Copy) (e : has set c ≡ true).
      sym (has_that takes c ∙ ap (λ (b : Bool). b && truth_of (loop_guard (st.rest c)) (s c)) e) in
      let ends : (c : Copy) → run m.bound (next.bodies st turning c) (store_meant new (next.head_stores st k set c)) ≡ Some (t c) =
      λ (c : Copy).
      ap (λ (u : Store). run m.bound (next.bodies st turning c) u) (meant c)
      ∙ turn_end m.bound (has turning c) (loop_body (st.rest c)) (s c) (t c)
      (λ (e : has turning c ≡ true). joint.moved c (sym (has_that takes c) ∙ e))
      (λ (e : has turning c ≡ false). joint.stayed c (sym (has_that takes c) ∙ e)) in
      let done =
      turn turning within (inhabited_by turning joint.some.0 (has_that takes joint.some.0 ∙ joint.some.1)) new t
      (head_holds facts s h turning exact) ends in
      (turn_leaves s t h joint, kept_before m k s t keep fresh ((conj_means (with_slots new t) keep).1 done))

  -- where one copy's loop ends, and what is left after it
  loop_part : (c : Copy) (b : Bool) → (b ≡ true → is_loop (st.rest c) ≡ true) → (s t : Store) → run m.bound (st.rest c) s ≡ Some t →
      (u : Store) × (turns (λ (v : Store). b && truth_of (loop_guard (st.rest c)) v) (body c) m.bound s ≡ Some u) ×
      (run m.bound (if b then rest_after 1 (st.rest c) else st.rest c) u ≡ Some t)
  loop_part c true loop s t e =
      let r = st.rest c in
      let here : run m.bound (While (loop_guard r) (loop_body r) (rest_after 1 r)) s ≡ Some t =
      subst (λ (p : Code). run m.bound p s ≡ Some t) (loop_is r (loop refl)) e in
      ends_then (turns (truth_of (loop_guard r)) (run m.bound (loop_body r)) m.bound s) (run m.bound (rest_after 1 r)) t here
  loop_part c false loop s t e = (s, still (λ (v : Store). false) (body c) m.bound s refl, e)

  -- the loops side by side
  pub loops_sound : AllHold m (all_at_stores st.stores (conj keep)) → (end : Copy → Store) → AllHold m st.facts →
      ((c : Copy) → run m.bound (st.rest c) (store_meant m (st.stores c)) ≡ Some (end c)) → AllHold (with_slots m end) st.target
  loops_sound begins end facts ends =
      let σ : Copy → Store = λ (c : Copy). store_meant m (st.stores c) in
      let part = λ (c : Copy). loop_part c (has set c) (loops c) (σ c) (end c) (ends c) in
      let u : Copy → Store = λ (c : Copy). (part c).0 in
      let first : Holds (with_slots m σ) keep =
      (conj_means (with_slots m σ) keep).1 (at_values m st.stores σ (conj keep) (λ (c : Copy). refl) begins) in
      let last =
      together guard body Keeps (turn_keeps facts) m.bound σ u
      ((λ (c : Copy) (x : ℕ) (e : assigns (next.bodies st set c) x ≡ false). refl), first) (λ (c : Copy). (part c).1) in
      let new = with_havoc m k u in
      let meant = renewed_means m k (next.bodies st set) st.stores u below.stores last.0.0 in
      let exact : (c : Copy) → has set c ≡ true → truth_of (loop_guard (st.rest c)) (u c) ≡ has no_copies c =
      λ (c : Copy) (e : has set c ≡ true).
      sym (ap (λ (b : Bool). b && truth_of (loop_guard (st.rest c)) (u c)) e) ∙ last.1 c ∙ sym (has_that (λ (d : Copy). false) c) in
      (fresh_all (with_slots m end) k u st.target below.target).0
      (after new end (head_holds facts u last.0 no_copies exact)
      (λ (c : Copy). ap (λ (s : Store). run m.bound (next.rest_after_loops st set c) s) (meant c) ∙ (part c).2))

-- loops side by side, as a node opens them
pub loop_node_sound : (k : ℕ) (st : State) (set : Copies) (keep : Assertion) → IsStateBelow k st → IsFormBelow k keep →
    each (λ (c : Copy). not (has set c) || is_loop (st.rest c)) ≡ true → AllValid st.facts (all_at_stores st.stores (conj keep)) →
    AreSound (map (next.turn_state st k set keep) (subsets set) ++ next.after_loops_state st k set keep ∷ []) → IsSound st
loop_node_sound k st set keep below fresh all valid states m end facts ends =
    let parts = sound_parts (map (next.turn_state st k set keep) (subsets set)) (next.after_loops_state st k set keep ∷ []) states in
    loops_sound k st set keep below fresh
    (λ (c : Copy) (h : has set c ≡ true).
    in_set (has set c) (is_loop (st.rest c)) (each_true (λ (d : Copy). not (has set d) || is_loop (st.rest d)) all c) h)
    (λ (v : Copies) (within : (c : Copy) → has v c ≡ true → has set c ≡ true) (some : is_inhabited v ≡ true).
    sound_among (next.turn_state st k set keep) v (subsets set) (next.after_loops_state st k set keep ∷ [])
    (in_subsets set v within some) states)
    parts.1.0 m (valid_hold m st.facts (all_at_stores st.stores (conj keep)) valid facts) end facts ends
  where
    in_set : (b l : Bool) → (not b || l) ≡ true → b ≡ true → l ≡ true
    in_set true l e h = e
    in_set false l e h = absurd cc
