-- One node of a plan: its state is sound where what it opens is, and what it opens names no later value.
use Rattle.sm_plan.proofs.Imports.{◌≡◌, ℕ, suc, Bool, true, false, not, ◌&&◌, ◌||◌, nat_le, Option, Some, None, List, [], ◌∷◌, ◌++◌, map, refl, sym, subst, arith, same_Some, and_parts, Code, End, append, Copy, negate, conj, SymbolicStore, form_of, all_at_stores, AreFormsBelow, forms_later, each, has, is_inhabited, subsets, is_over, is_long, front, rest_after, is_loop, last_guard, is_kept, State, Node, Step, Abs, Fork, Loop, Dead, Ends, Unfit, follows, asks, where_true, after_step, both_ways, opened_by, IsFreshAt, AllValid, IsSound, AreSound, IsStateBelow, AreStatesBelow}
use Rattle.sm_syntax.specs.claim.Syntax.{Skip, Assign, Write, If, While, Hole}
use Rattle.sm_term.specs.Assertions.{No}
use Rattle.sm_plan.specs.Successors as next
use Rattle.sm_plan.specs.Nodes.{Block, Opened}
use Rattle.sm_plan.proofs.CopySound.{step_sound, both_ways_sound, summary_sound}
use Rattle.sm_plan.proofs.LoopsSound.{ends_sound, block_sound, loop_node_sound}
use Rattle.sm_plan.proofs.BelowLemmas.{conj_below, all_at_stores_below, stepped_below, moved_below, form_below, negate_below, summarized_below, false_guard_below, state_later, states_append, turns_below, after_below, inner_below}
use Rattle.sm_plan.proofs.BelowLemmas.{after_block_below}

-- a test that passed
where_true_is : (b : Bool) (r q : Opened) → where_true b r ≡ Some q → (b ≡ true) × (r ≡ q)
where_true_is true r q e = (refl, same_Some r q e)
where_true_is false r q e = absurd cc

-- what a statement leaves
after_step_is : (st : State) (c : Copy) (o : Option (Code × SymbolicStore)) (q : Opened) → after_step st c o ≡ Some q →
    (p : Code × SymbolicStore) × (o ≡ Some p) × (follows (next.moved st c p.0 p.1 ∷ []) ≡ q)
after_step_is st c None q e = absurd cc
after_step_is st c (Some p) q e = (p, refl, same_Some (follows (next.moved st c p.0 p.1 ∷ [])) q e)

-- where a node's goals are valid and the states that it opens are sound, its own state is sound
pub node_sound : (k : ℕ) (st : State) (node : Node) (q : Opened) → IsStateBelow k st → IsFreshAt k node → opened_by k st node ≡ Some q →
    AllValid st.facts q.goals → AreSound q.states → IsSound st
node_sound k st (Step c) q below fresh e valid all =
    let p = after_step_is st c (next.stepped (st.rest c) (st.stores c)) q e in
    let states : AreSound (next.moved st c p.0.0 p.0.1 ∷ []) = subst (λ (r : Opened). AreSound r.states) (sym p.2) all in
    step_sound st c p.0 p.1 states.0
node_sound k st (Abs c n) q below fresh e valid all =
    let r = follows (next.summary_state st c (front n (st.rest c)) (rest_after n (st.rest c)) ∷ []) in
    let p = where_true_is (nat_le 1 n && is_long n (st.rest c)) r q e in
    let states : AreSound r.states = subst (λ (o : Opened). AreSound o.states) (sym p.1) all in
    summary_sound st c n states.0
node_sound k st (Fork c) q below fresh e valid all = both_ways_sound st c (st.rest c) q refl e all
node_sound k st (Loop set keep) q below fresh e valid all =
    let loops = each (λ (c : Copy). not (has set c) || is_loop (st.rest c)) in
    let goals = all_at_stores st.stores (conj keep) in
    let states = map (next.turn_state st k set keep) (subsets set) ++ next.after_loops_state st k set keep ∷ [] in
    let p = where_true_is (is_inhabited set && (loops && is_kept keep)) (record { goals = goals; states = states }) q e in
    let tests = and_parts loops (is_kept keep) (and_parts (is_inhabited set) (loops && is_kept keep) p.0).1 in
    loop_node_sound k st set keep below fresh tests.0
    (subst (λ (o : Opened). AllValid st.facts o.goals) (sym p.1) valid)
    (subst (λ (o : Opened). AreSound o.states) (sym p.1) all)
node_sound k st (Block counts keep) q below fresh e valid all =
    let r = follows (next.inner_state st counts keep ∷ next.after_block_state st k counts keep ∷ []) in
    let p = where_true_is (each (λ (c : Copy). is_long (counts c) (st.rest c)) && is_kept keep) r q e in
    let states : AreSound r.states = subst (λ (o : Opened). AreSound o.states) (sym p.1) all in
    block_sound k st counts keep below fresh states.0 states.1.0
node_sound k st Dead q below fresh e valid all =
    let goals : AllValid st.facts (No ∷ []) =
    subst (λ (o : Opened). AllValid st.facts o.goals) (sym (same_Some (asks (No ∷ [])) q e)) valid in
    λ m end facts ends. absurd (goals.0 m facts)
node_sound k st Ends q below fresh e valid all =
    let goals = all_at_stores st.stores st.target in
    let p = where_true_is (each (λ (c : Copy). is_over (st.rest c))) (asks goals) q e in
    ends_sound st p.0 (subst (λ (o : Opened). AllValid st.facts o.goals) (sym p.1) valid)
node_sound k st (Unfit rule) q below fresh e valid all = absurd cc

-- both ways of a branch
both_ways_below : (k : ℕ) (st : State) (c : Copy) (code : Code) (q : Opened) → IsStateBelow k st → both_ways st c code ≡ Some q
    → AreStatesBelow k q.states
both_ways_below k st c End q below e = absurd cc
both_ways_below k st c (Skip r) q below e = absurd cc
both_ways_below k st c (Assign x v r) q below e = absurd cc
both_ways_below k st c (Write a i v r) q below e = absurd cc
both_ways_below k st c (If b first second r) q below e =
    let s = st.stores c in
    let f = form_of b s in
    let states = next.branch_state st c (append first r) f ∷ next.branch_state st c (append second r) (negate f) ∷ [] in
    let fact = form_below k b s (below.stores c) in
    subst (λ (o : Opened). AreStatesBelow k o.states) (same_Some (follows states) q e) (
      moved_below k st c (append first r) s (f ∷ []) below (below.stores c) (fact, tt),
      (moved_below k st c (append second r) s (negate f ∷ []) below (below.stores c) (negate_below k f fact, tt), tt),
    )
both_ways_below k st c (While b body r) q below e = absurd cc
both_ways_below k st c (Hole h r) q below e = absurd cc

-- states later
later_all : (k : ℕ) (states : List State) → AreStatesBelow k states → AreStatesBelow (suc k) states
later_all k [] all = tt
later_all k (st ∷ states) all = (state_later k (suc k) st (omega arith) all.0, later_all k states all.1)

-- the states that a node opens name no new value of a node after it
pub node_below : (k : ℕ) (st : State) (node : Node) (q : Opened) → IsStateBelow k st → IsFreshAt k node → opened_by k st node ≡ Some q
    → AreStatesBelow (suc k) q.states
node_below k st (Step c) q below fresh e =
    let p = after_step_is st c (next.stepped (st.rest c) (st.stores c)) q e in
    let moved = moved_below k st c p.0.0 p.0.1 [] below (stepped_below k (st.rest c) (st.stores c) p.0 p.1 (below.stores c)) tt in
    let here : IsStateBelow k (next.moved st c p.0.0 p.0.1) =
    record { stores = moved.stores; facts = below.facts; target = below.target } in
    later_all k q.states (subst (λ (r : Opened). AreStatesBelow k r.states) p.2 (here, tt))
node_below k st (Abs c n) q below fresh e =
    let done = front n (st.rest c) in
    let s = next.summarized done (st.stores c) in
    let p =
    where_true_is (nat_le 1 n && is_long n (st.rest c)) (follows (next.summary_state st c done (rest_after n (st.rest c)) ∷ [])) q e in
    let store = summarized_below k done (st.stores c) (below.stores c) in
    later_all k q.states
    (subst (λ (r : Opened). AreStatesBelow k r.states) p.1 (
      moved_below k st c (rest_after n (st.rest c)) s (next.false_guard (last_guard done) s) below store
          (false_guard_below k (last_guard done) s store),
      tt,
    ))
node_below k st (Fork c) q below fresh e = later_all k q.states (both_ways_below k st c (st.rest c) q below e)
node_below k st (Loop set keep) q below fresh e =
    let loops = each (λ (c : Copy). not (has set c) || is_loop (st.rest c)) in
    let turns = map (next.turn_state st k set keep) (subsets set) in
    let states = turns ++ next.after_loops_state st k set keep ∷ [] in
    let p =
    where_true_is (is_inhabited set && (loops && is_kept keep))
    (record { goals = all_at_stores st.stores (conj keep); states = states }) q e in
    subst (λ (r : Opened). AreStatesBelow (suc k) r.states) p.1
    (states_append (suc k) turns (next.after_loops_state st k set keep ∷ []) (turns_below k st set keep below fresh (subsets set))
    (after_below k st set keep below fresh, tt))
node_below k st (Block counts keep) q below fresh e =
    let p =
    where_true_is (each (λ (c : Copy). is_long (counts c) (st.rest c)) && is_kept keep)
    (follows (next.inner_state st counts keep ∷ next.after_block_state st k counts keep ∷ [])) q e in
    subst (λ (r : Opened). AreStatesBelow (suc k) r.states) p.1
    (inner_below k st counts keep below fresh, (after_block_below k st counts keep below fresh, tt))
node_below k st Dead q below fresh e = subst (λ (r : Opened). AreStatesBelow (suc k) r.states) (same_Some (asks (No ∷ [])) q e) tt
node_below k st Ends q below fresh e =
    let p = where_true_is (each (λ (c : Copy). is_over (st.rest c))) (asks (all_at_stores st.stores st.target)) q e in
    subst (λ (r : Opened). AreStatesBelow (suc k) r.states) p.1 tt
node_below k st (Unfit rule) q below fresh e = absurd cc

-- both ways of a branch ask nothing
both_ways_goals : (k : ℕ) (st : State) (c : Copy) (code : Code) (q : Opened) → both_ways st c code ≡ Some q → AreFormsBelow (suc k) q.goals
both_ways_goals k st c End q e = absurd cc
both_ways_goals k st c (Skip r) q e = absurd cc
both_ways_goals k st c (Assign x v r) q e = absurd cc
both_ways_goals k st c (Write a i v r) q e = absurd cc
both_ways_goals k st c (If b first second r) q e =
    let s = st.stores c in
    let f = form_of b s in
    let states = next.branch_state st c (append first r) f ∷ next.branch_state st c (append second r) (negate f) ∷ [] in
    subst (λ (o : Opened). AreFormsBelow (suc k) o.goals) (same_Some (follows states) q e) tt
both_ways_goals k st c (While b body r) q e = absurd cc
both_ways_goals k st c (Hole h r) q e = absurd cc

-- the goals that a node asks name no new value of a node after it
pub node_goals_below : (k : ℕ) (st : State) (node : Node) (q : Opened) → IsStateBelow k st → IsFreshAt k node → opened_by k st node ≡ Some q
    → AreFormsBelow (suc k) q.goals
node_goals_below k st (Step c) q below fresh e =
    let p = after_step_is st c (next.stepped (st.rest c) (st.stores c)) q e in
    subst (λ (r : Opened). AreFormsBelow (suc k) r.goals) p.2 tt
node_goals_below k st (Abs c n) q below fresh e =
    let p =
    where_true_is (nat_le 1 n && is_long n (st.rest c))
    (follows (next.summary_state st c (front n (st.rest c)) (rest_after n (st.rest c)) ∷ [])) q e in
    subst (λ (r : Opened). AreFormsBelow (suc k) r.goals) p.1 tt
node_goals_below k st (Fork c) q below fresh e = both_ways_goals k st c (st.rest c) q e
node_goals_below k st (Loop set keep) q below fresh e =
    let loops = each (λ (c : Copy). not (has set c) || is_loop (st.rest c)) in
    let goals = all_at_stores st.stores (conj keep) in
    let states = map (next.turn_state st k set keep) (subsets set) ++ next.after_loops_state st k set keep ∷ [] in
    let p = where_true_is (is_inhabited set && (loops && is_kept keep)) (record { goals = goals; states = states }) q e in
    subst (λ (r : Opened). AreFormsBelow (suc k) r.goals) p.1
    (forms_later k (suc k) (omega arith) goals (all_at_stores_below k st.stores below.stores (conj keep) (conj_below k keep fresh)))
node_goals_below k st (Block counts keep) q below fresh e =
    let p =
    where_true_is (each (λ (c : Copy). is_long (counts c) (st.rest c)) && is_kept keep)
    (follows (next.inner_state st counts keep ∷ next.after_block_state st k counts keep ∷ [])) q e in
    subst (λ (r : Opened). AreFormsBelow (suc k) r.goals) p.1 tt
node_goals_below k st Dead q below fresh e = subst (λ (r : Opened). AreFormsBelow (suc k) r.goals) (same_Some (asks (No ∷ [])) q e) (tt, tt)
node_goals_below k st Ends q below fresh e =
    let goals = all_at_stores st.stores st.target in
    let p = where_true_is (each (λ (c : Copy). is_over (st.rest c))) (asks goals) q e in
    subst (λ (r : Opened). AreFormsBelow (suc k) r.goals) p.1
    (forms_later k (suc k) (omega arith) goals (all_at_stores_below k st.stores below.stores st.target below.target))
node_goals_below k st (Unfit rule) q below fresh e = absurd cc
