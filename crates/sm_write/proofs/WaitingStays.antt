-- What was written and what waits stay while a table widens.
use Rattle.sm_write.proofs.Imports.{◌≡◌, ℕ, ◌<◌, Some, List, [], ◌∷◌, length, slice_get, sym, ap, ◌∙◌, arith, TableValue, trees_in, tree_at, TermId, ExtendsTable, Tree, State, longer, tree_stays, state_stays, state_ready, Progress, Subject, numbered_at, plan_stays, plan_ready, IsAt, StandsFor, AllStandFor, IsPlacedReady, ArePlacedReady, PlacedState, Waits, WriterValue, AreSeenNamed, Names, AreNames}

module _ (v w : TableValue) (wider : ExtendsTable v w) where
  -- numbers of terms
  names_stay : (names : Names) (terms : List Tree) → AreNames (trees_in v) names terms → AreNames (trees_in w) names terms
  names_stay names terms a = record { right = right; few = a.few }
    where
      right : (t : ℕ) (n : TermId) → names t ≡ Some n →
          (t < length (trees_in w)) × (slice_get terms n.0 ≡ Some (tree_at (trees_in w) t))
      right t n e =
          let r = a.right t n e in
          let long = longer v w wider in
          let inside : t < length (trees_in w) = omega (arith, long, r.0) in
          (inside, r.1 ∙ ap (λ (u : Tree). Some u) (sym (tree_stays v w wider t r.0)))

  seen_stay : (names : Names) (seen : List State) → AreSeenNamed (trees_in v) names seen → AreSeenNamed (trees_in w) names seen
  seen_stay names seen named t atom h =
      let n = named t atom h in
      let long = longer v w wider in
      let inside : n.0 < length (trees_in w) = omega (arith, long, n.1) in
      (n.0, inside, tree_stays v w wider n.0 n.1 ∙ n.2, n.3)

  -- where a writer is
  pub at_stays : (s : Subject) (x : WriterValue) (seen : List State) (p : Progress) → IsAt s v x seen p → IsAt s w x seen p
  at_stays s x seen p at = record {
    sorts = at.sorts ∙ sym wider.sorts;
    stands = record {
      leads = at.stands.leads;
      names = names_stay x.names p.terms at.stands.names;
      terms = at.stands.terms;
      forms = at.stands.forms;
      nodes = at.stands.nodes;
    };
    named = seen_stay x.names seen at.named;
  }

  -- what waits
  one_stays : (y : Waits) (x : PlacedState) → IsPlacedReady v x → StandsFor v y x → StandsFor w y x
  one_stays y x ready stand = record {
    facts = stand.facts;
    state = stand.state ∙ sym (state_stays v w wider stand.facts x.state ready.state);
    plan = stand.plan ∙ sym (plan_stays v w wider (numbered_at x.cursor) ready.plan);
  }

  pub all_stay : (ys : List Waits) (xs : List PlacedState) → ArePlacedReady v xs → AllStandFor v ys xs → AllStandFor w ys xs
  all_stay [] [] ready stand = tt
  all_stay [] (x ∷ xs) ready stand = absurd stand
  all_stay (y ∷ ys) [] ready stand = absurd stand
  all_stay (y ∷ ys) (x ∷ xs) ready stand = (one_stays y x ready.0 stand.0, all_stay ys xs ready.1 stand.1)

  -- what waits can be gone on from over the wider table, where it can over the first
  one_ready : (x : PlacedState) → IsPlacedReady v x → IsPlacedReady w x
  one_ready x ready = record {
    state = state_ready v w wider x.state ready.state;
    plan = plan_ready v w wider (numbered_at x.cursor) ready.plan;
  }

  pub all_ready : (xs : List PlacedState) → ArePlacedReady v xs → ArePlacedReady w xs
  all_ready [] ready = tt
  all_ready (x ∷ xs) ready = (one_ready x ready.0, all_ready xs ready.1)
