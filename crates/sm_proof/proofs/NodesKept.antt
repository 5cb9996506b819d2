-- A node keeps a proof fine. Its state is sound where the branches of its goals are contradictory and the states that it opens are sound.
use Rattle.sm_proof.proofs.Imports.{◌≡◌, ℕ, suc, Some, Ok, List, [], ◌∷◌, ◌++◌, map, subst, sym, arith, Sorts, Structure, Assertion, AllHold, negate, AreFormsSorted, AreFormsBelow, AreFacts, Formal, as_facts, sorted_append, is_shallow, State, Opened, opened_by, AreSound, IsStateBelow, AreStatesBelow, IsStateSorted, AreStatesSorted, negate_below, state_later, found_or, named_node, node_head, BadNumber, Deep, First, Pending, Due, Progress, goal_branch, opened_before, after_node}
use Rattle.std.proofs.Common.{Result}
use Rattle.sm_term.proofs.AssertionsLemmas.{refuted}
use Rattle.sm_plan.specs.NodeLists.{above_opened}
use Rattle.sm_plan.specs.Nodes as plan
use Rattle.sm_plan.specs.Plans.{AllValid}
use Rattle.sm_plan.proofs.NodeSound.{node_sound, node_below, node_goals_below}
use Rattle.sm_plan.proofs.NodeSorted.{node_sorted}
use Rattle.sm_proof.specs.declared.line.NodeLine.{NodeLine}
use Rattle.sm_proof.specs.Named.{Word}
use Rattle.sm_proof.proofs.ProgressLemmas.{Each, IsPendingFine, IsFine, IsShown, GoesOn, each_append, each_parts, found_from, tested_from, same_end, as_facts_below, facts_below_append, terms_later, forms_later, all_later}
use Rattle.sm_proof.proofs.NamedKept.{IsNodeFine, named_node_fine}
use Rattle.sm_term.proofs.SortedForms.{negate_sorted}
use Rattle.sm_theory.proofs.SortedFacts.{as_facts_sorted}

-- formulas that hold are facts
hold_as_facts : (m : Structure) (fs gs : List Assertion) → AllHold m (fs ++ gs) → AreFacts m (as_facts fs ++ as_facts gs)
hold_as_facts m [] [] all = tt
hold_as_facts m [] (g ∷ gs) all = (all.0, hold_as_facts m [] gs all.1)
hold_as_facts m (f ∷ fs) gs all = (all.0, hold_as_facts m fs gs all.1)

-- the branches of goals are fine
goals_fine : (sorts : Sorts) (k : ℕ) (st : State) (goals : List Assertion) → IsStateSorted sorts st → IsStateBelow k st →
    AreFormsSorted sorts goals → AreFormsBelow k goals →
    Each (IsPendingFine sorts k) (map (goal_branch st) goals)
goals_fine sorts k st [] sorted below all named = tt
goals_fine sorts k st (g ∷ gs) sorted below all named = (
  (
    sorted.stores,
    below.stores,
    sorted_append sorts (as_facts st.facts) (Formal (negate g) ∷ []) (as_facts_sorted sorts st.facts sorted.facts)
        (negate_sorted sorts g all.0, tt),
    facts_below_append k (as_facts st.facts) (Formal (negate g) ∷ []) (as_facts_below k st.facts below.facts)
        (negate_below k g named.0, tt),
  ),
  goals_fine sorts k st gs sorted below all.1 named.1,
)

-- goals whose branches are contradictory are valid
goals_shown : (st : State) (goals : List Assertion) → Each IsShown (map (goal_branch st) goals) → AllValid st.facts goals
goals_shown st [] all = tt
goals_shown st (g ∷ gs) all = (
  refuted st.facts g
      (λ (m : Structure) (h : AllHold m (st.facts ++ negate g ∷ [])). all.0 m (hold_as_facts m st.facts (negate g ∷ []) h)),
  goals_shown st gs all.1,
)

-- states that are opened are fine
states_fine : (sorts : Sorts) (k above : ℕ) (states : List State) → AreStatesSorted sorts states → AreStatesBelow k states →
    Each (IsPendingFine sorts k) (map (λ (next : State). Due next above) states)
states_fine sorts k above [] sorted below = tt
states_fine sorts k above (st ∷ states) sorted below = ((sorted.0, below.0), states_fine sorts k above states sorted.1 below.1)

-- they are sound where they are shown
states_shown : (above : ℕ) (states : List State) → Each IsShown (map (λ (next : State). Due next above) states) → AreSound states
states_shown above [] all = tt
states_shown above (st ∷ states) all = (all.0, states_shown above states all.1)

-- what a node opens, before what was pending
opened_goes : (sorts : Sorts) (p : Progress) (st : State) (above over : ℕ) (rest : List Pending) (node : plan.Node) (q : Opened) →
    p.pending ≡ Due st above ∷ rest → IsFine sorts p → IsNodeFine sorts p.nodes node → opened_by p.nodes st node ≡ Some q →
    GoesOn sorts p (record p { nodes = suc p.nodes; pending = opened_before st over q rest })
opened_goes sorts p st above over rest node q is fine kept e =
    let k = p.nodes in
    let goals = map (goal_branch st) q.goals in
    let states = map (λ (next : State). Due next over) q.states in
    let pending = subst (Each (IsPendingFine sorts k)) is fine.pending in
    let sorted = node_sorted sorts k st node q pending.0.0 kept.0 e in
    let below = node_below k st node q pending.0.1 kept.1 e in
    let named = node_goals_below k st node q pending.0.1 kept.1 e in
    record {
      fine = record {
        terms = terms_later sorts k p.terms fine.terms;
        forms = forms_later sorts k p.forms fine.forms;
        pending =
            each_append (IsPendingFine sorts (suc k)) goals (states ++ rest)
            (goals_fine sorts (suc k) st q.goals pending.0.0 (state_later k (suc k) st (omega arith) pending.0.1) sorted.0 named)
            (each_append (IsPendingFine sorts (suc k)) states rest (states_fine sorts (suc k) over q.states sorted.1 below)
            (all_later sorts k rest pending.1));
      };
      shown =
          λ (all : Each IsShown (goals ++ (states ++ rest))).
          let first = each_parts IsShown goals (states ++ rest) all in
          let second = each_parts IsShown states rest first.1 in
          subst (Each IsShown) (sym is) (
            node_sound k st node q pending.0.1 kept.1 e (goals_shown st q.goals first.0) (states_shown over q.states second.0),
            second.1,
          );
    }

-- a node at the state that is due
pub node_goes : (sorts : Sorts) (p : Progress) (st : State) (above : ℕ) (rest : List Pending) (line : NodeLine) (r : Progress) →
    p.pending ≡ Due st above ∷ rest → IsFine sorts p →
    found_or (named_node p.forms line) BadNumber (after_node p st above rest line) ≡ Ok r →
    GoesOn sorts p r
node_goes sorts p st above rest line r is fine e =
    let a = found_from (named_node p.forms line) BadNumber (after_node p st above rest line) r e in
    let over = above_opened a.0 above in
    let end : Opened → Result Progress Word =
    λ (q : Opened). Ok (record p { nodes = suc p.nodes; pending = opened_before st over q rest }) in
    let b = tested_from (is_shallow over) Deep (found_or (opened_by p.nodes st a.0) (First (node_head line)) end) r a.2 in
    let q = found_from (opened_by p.nodes st a.0) (First (node_head line)) end r b.1 in
    subst (GoesOn sorts p) (same_end (record p { nodes = suc p.nodes; pending = opened_before st over q.0 rest }) r q.2)
    (opened_goes sorts p st above over rest a.0 q.0 is fine (named_node_fine sorts p.nodes p.forms line a.0 fine.forms a.1) q.1)
