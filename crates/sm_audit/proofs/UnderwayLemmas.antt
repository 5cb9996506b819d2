-- A plan is underway before its first node, after each node, and has told all where nothing waits.
use Rattle.sm_audit.proofs.Imports.{◌≡◌, ℕ, zero, suc, ◌+◌, Option, Some, List, [], ◌∷◌, ◌++◌, drop, length, map, slice_get, refl, sym, ap, ◌∙◌, subst, arith, append_assoc, append-nil, Vec, Global, length-map, Copy, of_copy, Assertion, AreTreesSorted, ExtendsTable, TableValue, trees_in, sorts_in, Node, opened_by, count, size, sizes, State, opened_in, state_in, successor_in, Opened, numbered_at, Cursor, NumberedPlan, below, head, list_of, node_over, plan_over, plans_over, plans_stay, plan_states, plans_states, states_opened, AreNamedFrom, AreSince, AllStandFor, IsUnderway, StandsFor, Waits, each_waits, states_left, ArePlacedReady, placed_with, PlacedState, plans_of}
use Rattle.sm_plan.specs.Nodes as plain
use Rattle.sm_plan.specs.Plans as tree
use Rattle.sm_plan.specs.Plans.{At, Over, More, Plans}
use Rattle.sm_expand.specs.Opens.{OpensAs}
use Rattle.sm_expand.proofs.PairsLemmas.{counted, plan_is}
use Rattle.sm_audit.proofs.OpenedLemmas.{opened_stand}
use Rattle.sm_audit.proofs.SinceLemmas.{store_named}
use Rattle.sm_audit.proofs.WaitsStay.{all_stay, since_stays}

-- the states of plans, each at its state, and then others
each_left : (states : List State) (ps : Plans) (k : ℕ) (ws : List Waits) → length states ≡ count ps →
    plans_states k states ps ++ states_left (k + sizes ps) ws ≡ states_left k (each_waits states ps ++ ws)
each_left [] Over k ws e = ap (λ (n : ℕ). states_left n ws) (let same : k + 0 ≡ k = omega arith in same)
each_left [] (More p ps) k ws e = absurd cc
each_left (st ∷ states) Over k ws e = absurd cc
each_left (st ∷ states) (More p ps) k ws e =
    let fewer : length states ≡ count ps = omega (arith, e) in
    let sum : k + (size p + sizes ps) ≡ (k + size p) + sizes ps = omega arith in
    let one = plan_states k st p in
    let others = plans_states (k + size p) states ps in
    append_assoc one others (states_left (k + (size p + sizes ps)) ws)
    ∙ ap (λ (l : List State). one ++ l)
    (ap (λ (n : ℕ). others ++ states_left n ws) sum ∙ each_left states ps (k + size p) ws fewer)

-- the state of a node, and then those of what it opens
node_left : (k : ℕ) (st : State) (node : Node) (ps : Plans) (ws : List Waits) (q : plain.Opened) → opened_by k st node ≡ Some q →
    length q.states ≡ count ps →
    states_left k (record { state = st; plan = At node ps } ∷ ws) ≡ st ∷ states_left (suc k) (each_waits q.states ps ++ ws)
node_left k st node ps ws q opens e =
    let sum : k + suc (sizes ps) ≡ suc k + sizes ps = omega arith in
    ap (λ (o : Option plain.Opened). st ∷ (plans_states (suc k) (states_opened o) ps ++ states_left (k + suc (sizes ps)) ws)) opens
    ∙ ap (λ (n : ℕ). st ∷ (plans_states (suc k) q.states ps ++ states_left n ws)) sum
    ∙ ap (λ (l : List State). st ∷ l) (each_left q.states ps (suc k) ws e)

-- the first of what is left of a list is at its place
drop_first : (xs : List State) (k : ℕ) (x : State) (ys : List State) → drop k xs ≡ x ∷ ys → slice_get xs k ≡ Some x
drop_first [] zero x ys e = absurd cc
drop_first [] (suc k) x ys e = absurd cc
drop_first (y ∷ xs) zero x ys e = let one : y ≡ x = cc in ap (λ (z : State). Some z) one
drop_first (y ∷ xs) (suc k) x ys e = drop_first xs k x ys e

drop_rest : (xs : List State) (k : ℕ) (x : State) (ys : List State) → drop k xs ≡ x ∷ ys → drop (suc k) xs ≡ ys
drop_rest [] zero x ys e = absurd cc
drop_rest [] (suc k) x ys e = absurd cc
drop_rest (y ∷ xs) zero x ys e = let rest : xs ≡ ys = cc in rest
drop_rest (y ∷ xs) (suc k) x ys e = drop_rest xs k x ys e

module _ (states : List State) (v w : TableValue) (wider : ExtendsTable v w) (k : ℕ) (since after : List (Option ℕ)) (x : PlacedState)
    (xs : List PlacedState) (o : Opened × Vec Cursor Global) (good : AreTreesSorted (sorts_in v) (trees_in v))
    (ready : ArePlacedReady v (x ∷ xs)) (opens : OpensAs v w k x.state x.cursor o)
    (noted : AreSince (sorts_in v) states (trees_in v) since →
    ((c : Copy) → AreNamedFrom (sorts_in v) states (trees_in v) k (of_copy x.state.stores c).list.items) →
    AreSince (sorts_in v) states (trees_in v) after) where
  abbrev here : Node
  here = node_over (sorts_in v) (trees_in v) (head (numbered_at x.cursor))

  abbrev under : NumberedPlan → tree.Plans
  under p = plans_over (sorts_in v) (trees_in v) (below p)

  -- where a state stands first
  after_node : (y : Waits) (ys : List Waits) → StandsFor v y x → AllStandFor v ys xs → drop k states ≡ states_left k (y ∷ ys) →
      AreSince (sorts_in v) states (trees_in v) since → IsUnderway states w (k + 1) after (placed_with o.0.states.items o.1.items ++ xs)
  after_node y ys stand others left before =
      let p = numbered_at x.cursor in
      let st = state_in (sorts_in v) (trees_in v) stand.facts x.state in
      let q = opened_in (sorts_in w) (trees_in w) stand.facts o.0 in
      let plan = stand.plan ∙ plan_is (sorts_in v) (trees_in v) p in
      let whole : states_left k (y ∷ ys) ≡ states_left k (record { state = st; plan = At here (under p) } ∷ ys) =
      λ i. states_left k (record { state = stand.state i; plan = plan i } ∷ ys) in
      let many : length q.states ≡ count (under p) =
      length-map o.0.states.items (successor_in (sorts_in w) (trees_in w) stand.facts) ∙ opens.count
      ∙ sym (length-map o.1.items numbered_at) ∙ ap length opens.plans ∙ sym (counted (sorts_in v) (trees_in v) (below p)) in
      let next : drop k states ≡ st ∷ states_left (suc k) (each_waits q.states (under p) ++ ys) =
      left ∙ whole ∙ node_left k st here (under p) ys q (opens.opened stand.facts) many in
      let at : slice_get states k ≡ Some st = drop_first states k st (states_left (suc k) (each_waits q.states (under p) ++ ys)) next in
      let rest : drop (suc k) states ≡ states_left (suc k) (each_waits q.states (under p) ++ ys) =
      drop_rest states k st (states_left (suc k) (each_waits q.states (under p) ++ ys)) next in
      let same : plans_over (sorts_in w) (trees_in w) (below p) ≡ under p = plans_stay v w wider (below p) (plans_of v p ready.0.plan) in
      let sum : suc k ≡ k + 1 = omega arith in
      let stores : (c : Copy) → AreNamedFrom (sorts_in v) states (trees_in v) k (of_copy x.state.stores c).list.items =
      λ (c : Copy). store_named (sorts_in v) states (trees_in v) k st c (of_copy x.state.stores c) at refl (ready.0.state.stores c) good in
      record {
        since_then = since_stays v w wider states after (noted before stores);
        waits = each_waits q.states (plans_over (sorts_in w) (trees_in w) (below p)) ++ ys;
        stand =
            opened_stand w stand.facts o.0.states.items o.1.items (below p) ys xs opens.count opens.plans
            (all_stay v w wider ys xs ready.1 others);
        left =
            ap (λ (n : ℕ). drop n states) (sym sum) ∙ rest
            ∙ (λ i. states_left (sum i) (each_waits q.states (sym same i) ++ ys));
      }

  -- after a node
  pub underway_next : IsUnderway states v k since (x ∷ xs) → IsUnderway states w (k + 1) after (placed_with o.0.states.items o.1.items ++ xs)
  underway_next u = of u.waits u.stand u.left
    where
      of : (ws : List Waits) → AllStandFor v ws (x ∷ xs) → drop k states ≡ states_left k ws →
          IsUnderway states w (k + 1) after (placed_with o.0.states.items o.1.items ++ xs)
      of [] stand left = absurd stand
      of (y ∷ ys) stand left = after_node y ys stand.0 stand.1 left u.since_then

-- before the first
pub starts_underway : (v : TableValue) (since : List (Option ℕ)) (x : PlacedState) (facts : List Assertion) (states : List State) →
    AreSince (sorts_in v) states (trees_in v) since →
    states ≡ plan_states 0 (state_in (sorts_in v) (trees_in v) facts x.state) (plan_over (sorts_in v) (trees_in v) (numbered_at x.cursor)) →
    IsUnderway states v 0 since (x ∷ [])
starts_underway v since x facts states all is = record {
  since_then = all;
  waits =
      record {
        state = state_in (sorts_in v) (trees_in v) facts x.state;
        plan = plan_over (sorts_in v) (trees_in v) (numbered_at x.cursor);
      } ∷ [];
  stand = (record { facts = facts; state = refl; plan = refl }, tt);
  left = is ∙ sym (append-nil _);
}
