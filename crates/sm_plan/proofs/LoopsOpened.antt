-- What loops open: a turn for each set of copies, and what comes after.
use Rattle.sm_plan.proofs.Imports.{◌≡◌, ℕ, Bool, true, false, if◌then◌else◌, Option, Some, None, List, [], ◌∷◌, ◌++◌, refl, sym, ap, ◌∙◌, flat_map, fun_ext, Copy, Assertion, negate, conj, all_at_stores, SymbolicStore, form_of, Copies, copies, no_copies, has, turned, turned_guards, guards_at, turn_of, after_of, State, loop_guard, guard_fact, head_stores, turn_state, after_loops_state}

-- the facts of guards
guards_same : (st : State) (set turning : Copies) (s : Copy → SymbolicStore) →
    turned_guards (guards_at set st.rest s) turning ≡ flat_map (guard_fact st set turning s) copies
guards_same st set turning s =
    ap (λ (f : Copy → List Assertion). flat_map f copies)
    (fun_ext (λ (c : Copy). by (has set c) (has turning c) (form_of (loop_guard (st.rest c)) (s c))))
  where
    by : (b d : Bool) (f : Assertion) → turned (if b then Some f else None) d ≡ (if b then (if d then f else negate f) ∷ [] else [])
    by true true f = refl
    by true false f = refl
    by false d f = refl

module _ (k : ℕ) (st : State) (set : Copies) (keep : Assertion) (stores : Copy → SymbolicStore) (kept : List Assertion)
    (guards : Copy → Option Assertion)
    (stores_are : stores ≡ head_stores st k set) (kept_are : kept ≡ all_at_stores (head_stores st k set) (conj keep))
    (guards_are : guards ≡ guards_at set st.rest (head_stores st k set)) where
  facts_are : (turning : Copies) → turned_guards guards turning ≡ flat_map (guard_fact st set turning (head_stores st k set)) copies
  facts_are turning = ap (λ (g : Copy → Option Assertion). turned_guards g turning) guards_are
      ∙ guards_same st set turning (head_stores st k set)

  -- a turn
  pub turn_same : (target : List Assertion) → target ≡ conj keep → (turning : Copies) →
      turn_of st.rest st.facts stores kept guards target turning ≡ turn_state st k set keep turning
  turn_same target e turning = λ i. record {
    rest = (turn_state st k set keep turning).rest;
    stores = stores_are i;
    facts = st.facts ++ (kept_are i ++ facts_are turning i);
    target = e i;
    is_final = false;
  }

  -- what comes after
  pub after_same : (target : List Assertion) → target ≡ st.target →
      after_of st.rest st.facts stores kept guards target st.is_final set ≡ after_loops_state st k set keep
  after_same target e = λ i. record {
    rest = (after_loops_state st k set keep).rest;
    stores = stores_are i;
    facts = st.facts ++ (kept_are i ++ facts_are no_copies i);
    target = e i;
    is_final = st.is_final;
  }
