-- What is known of terms, and what waits, stays while a table widens.
use Rattle.sm_audit.proofs.Imports.{◌≡◌, ℕ, ◌<◌, Option, Some, List, [], ◌∷◌, length, sym, subst, ◌∙◌, arith, Sorts, TableValue, trees_in, sorts_in, tree_at, ExtendsTable, State, longer, tree_stays, state_stays, state_ready, numbered_at, plan_stays, plan_ready, Nameable, states_until, entry_of, IsNamedFrom, AreSince, Waits, StandsFor, AllStandFor, IsPlacedReady, ArePlacedReady, PlacedState}

module _ (v w : TableValue) (wider : ExtendsTable v w) where
  -- entries
  pub since_stays : (states : List State) (since : List (Option ℕ)) → AreSince (sorts_in v) states (trees_in v) since →
      AreSince (sorts_in w) states (trees_in w) since
  since_stays states since all n node e =
      let h = all n node e in
      let long = longer v w wider in
      let inside : n < length (trees_in w) = omega (arith, long, h.0) in (
        inside,
        subst (λ (f : Sorts). Nameable f (states_until states node) (tree_at (trees_in w) n)) (sym wider.sorts)
            (subst (Nameable (sorts_in v) (states_until states node)) (sym (tree_stays v w wider n h.0)) h.1),
      )

  -- what waits
  one_stays : (y : Waits) (x : PlacedState) → IsPlacedReady v x → StandsFor v y x → StandsFor w y x
  one_stays y x ready stand = record {
    facts = stand.facts;
    state = stand.state ∙ sym (state_stays v w wider stand.facts x.state ready.state);
    plan = stand.plan ∙ sym (plan_stays v w wider (numbered_at x.cursor) ready.plan);
  }

  pub all_stay : (ys : List Waits) (xs : List PlacedState) → ArePlacedReady v xs → AllStandFor v ys xs → AllStandFor w ys xs
  all_stay [] [] ready stand = tt
  all_stay [] (x ∷ xs) ready stand = absurd stand
  all_stay (y ∷ ys) [] ready stand = absurd stand
  all_stay (y ∷ ys) (x ∷ xs) ready stand = (one_stays y x ready.0 stand.0, all_stay ys xs ready.1 stand.1)

  -- what can be gone on from can be gone on from in a wider table
  one_ready : (x : PlacedState) → IsPlacedReady v x → IsPlacedReady w x
  one_ready x ready = record {
    state = state_ready v w wider x.state ready.state;
    plan = plan_ready v w wider (numbered_at x.cursor) ready.plan;
  }

  pub all_ready : (xs : List PlacedState) → ArePlacedReady v xs → ArePlacedReady w xs
  all_ready [] ready = tt
  all_ready (x ∷ xs) ready = (one_ready x ready.0, all_ready xs ready.1)
