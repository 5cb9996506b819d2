-- Sorts are kept by each node.
use Rattle.sm_plan.proofs.Imports.{◌≡◌, ℕ, Bool, true, false, nat_le, ◌&&◌, not, ◌||◌, Option, Some, None, [], ◌∷◌, ◌++◌, map, refl, subst, same_Some, Code, append, Copy, Sorts, IsWellSorted, negate, conj, SymbolicStore, form_of, all_at_stores, AreFormsSorted, each, has, is_inhabited, subsets, is_over, is_long, front, rest_after, is_loop, is_kept, State, Node, Step, Abs, Fork, Loop, Dead, Ends, Unfit, follows, asks, where_true, after_step, both_ways, opened_by, IsStateSorted, AreStatesSorted, IsNodeSorted, negate_sorted}
use Rattle.sm_syntax.specs.claim.Syntax as syntax
use Rattle.sm_term.specs.Assertions.{No}
use Rattle.sm_plan.specs.Successors as next
use Rattle.sm_plan.specs.Nodes.{Block, Opened}
use Rattle.sm_plan.proofs.SortedCode.{append_well, front_well, rest_well}
use Rattle.sm_plan.proofs.SortedTerms.{form_sorted, conj_sorted, all_at_stores_sorted}
use Rattle.sm_plan.proofs.SortedStates.{stepped_sorted, states_append, moved_sorted, moved_alone, summary_sorted, turns_sorted, after_sorted, inner_sorted, after_block_sorted}

-- goals and states are sorted
abbrev pub AreOpenedSorted : Sorts → Opened → Type 0
AreOpenedSorted sorts q = AreFormsSorted sorts q.goals × AreStatesSorted sorts q.states

-- what is opened where a test passes
passed_sorted : (sorts : Sorts) (b : Bool) (r q : Opened) → where_true b r ≡ Some q → AreOpenedSorted sorts r → AreOpenedSorted sorts q
passed_sorted sorts true r q e all = subst (λ (o : Opened). AreOpenedSorted sorts o) (same_Some r q e) all
passed_sorted sorts false r q e all = absurd cc

-- after a simple statement
step_sorted : (sorts : Sorts) (st : State) (c : Copy) (q : Opened) (o : Option (Code × SymbolicStore)) →
    next.stepped (st.rest c) (st.stores c) ≡ o →
    after_step st c o ≡ Some q → IsStateSorted sorts st → AreOpenedSorted sorts q
step_sorted sorts st c q None here e b = absurd cc
step_sorted sorts st c q (Some p) here e b =
    let good = stepped_sorted sorts (st.rest c) (st.stores c) p here (b.rest c) (b.stores c) in
    subst (λ (o : Opened). AreOpenedSorted sorts o) (same_Some (follows (next.moved st c p.0 p.1 ∷ [])) q e)
    (tt, (moved_alone sorts st c p.0 p.1 b good.0 good.1, tt))

-- after both branches
fork_sorted : (sorts : Sorts) (st : State) (c : Copy) (q : Opened) (r : Code) → both_ways st c r ≡ Some q → IsWellSorted sorts r →
    IsStateSorted sorts st → AreOpenedSorted sorts q
fork_sorted sorts st c q syntax.End e w b = absurd cc
fork_sorted sorts st c q (syntax.Skip k) e w b = absurd cc
fork_sorted sorts st c q (syntax.Assign x v k) e w b = absurd cc
fork_sorted sorts st c q (syntax.Write a i v k) e w b = absurd cc
fork_sorted sorts st c q (syntax.If g first second k) e w b =
    let f = form_of g (st.stores c) in
    let good = form_sorted sorts g (st.stores c) w.0 (b.stores c) in
    let one = next.branch_state st c (append first k) f in
    let other = next.branch_state st c (append second k) (negate f) in
    subst (λ (o : Opened). AreOpenedSorted sorts o) (same_Some (follows (one ∷ other ∷ [])) q e) (
      tt,
      (
        moved_sorted sorts st c (append first k) (st.stores c) (f ∷ []) b (append_well sorts first k w.1 w.3) (b.stores c) (good, tt),
        (
          moved_sorted sorts st c (append second k) (st.stores c) (negate f ∷ []) b (append_well sorts second k w.2 w.3) (b.stores c)
              (negate_sorted sorts f good, tt),
          tt,
        ),
      ),
    )
fork_sorted sorts st c q (syntax.While g d k) e w b = absurd cc
fork_sorted sorts st c q (syntax.Hole h k) e w b = absurd cc

-- what a node opens
pub node_sorted : (sorts : Sorts) (k : ℕ) (st : State) (node : Node) (q : Opened) → IsStateSorted sorts st → IsNodeSorted sorts node →
    opened_by k st node ≡ Some q → AreOpenedSorted sorts q
node_sorted sorts k st (Step c) q b kept e = step_sorted sorts st c q (next.stepped (st.rest c) (st.stores c)) refl e b
node_sorted sorts k st (Abs c n) q b kept e =
    passed_sorted sorts (nat_le 1 n && is_long n (st.rest c))
    (follows (next.summary_state st c (front n (st.rest c)) (rest_after n (st.rest c)) ∷ [])) q e (
      tt,
      (
        summary_sorted sorts st c (front n (st.rest c)) (rest_after n (st.rest c)) b (front_well sorts n (st.rest c) (b.rest c))
            (rest_well sorts n (st.rest c) (b.rest c)),
        tt,
      ),
    )
node_sorted sorts k st (Fork c) q b kept e = fork_sorted sorts st c q (st.rest c) e (b.rest c) b
node_sorted sorts k st (Loop set keep) q b kept e =
    let have_loops = each (λ (c : Copy). not (has set c) || is_loop (st.rest c)) in
    let turns = map (next.turn_state st k set keep) (subsets set) in
    passed_sorted sorts (is_inhabited set && (have_loops && is_kept keep))
    (record { goals = all_at_stores st.stores (conj keep); states = turns ++ next.after_loops_state st k set keep ∷ [] }) q e (
      all_at_stores_sorted sorts st.stores b.stores (conj keep) (conj_sorted sorts keep kept),
      states_append sorts turns (next.after_loops_state st k set keep ∷ []) (turns_sorted sorts k st set keep b kept (subsets set))
          (after_sorted sorts k st set keep b kept, tt),
    )
node_sorted sorts k st (Block counts keep) q b kept e =
    passed_sorted sorts (each (λ (c : Copy). is_long (counts c) (st.rest c)) && is_kept keep)
    (follows (next.inner_state st counts keep ∷ next.after_block_state st k counts keep ∷ [])) q e
    (tt, (inner_sorted sorts st counts keep b kept, (after_block_sorted sorts k st counts keep b kept, tt)))
node_sorted sorts k st Dead q b kept e = subst (λ (o : Opened). AreOpenedSorted sorts o) (same_Some (asks (No ∷ [])) q e) ((tt, tt), tt)
node_sorted sorts k st Ends q b kept e =
    passed_sorted sorts (each (λ (c : Copy). is_over (st.rest c))) (asks (all_at_stores st.stores st.target)) q e
    (all_at_stores_sorted sorts st.stores b.stores st.target b.target, tt)
node_sorted sorts k st (Unfit rule) q b kept e = absurd cc
