-- What a plan asks compares what can be named where it is asked, where what its nodes keep is sorted and has no new value and no summary.
use Rattle.sm_houdini.proofs.Imports.{◌≡◌, ℕ, zero, suc, ◌+◌, nat_le, not, ◌&&◌, ◌||◌, List, [], ◌∷◌, ◌++◌, refl, sym, subst, flat_map, same_Some, Copy, O, A, B, M, Code, End, Skip, Assign, If, While, Hole, Sorts, Sort, Num, Arr, Assertion, No, conj, all_at_stores, AreFormsSorted, SymbolicStore, Copies, each, has, is_inhabited, subsets, is_kept, Node, Unfit, Opened, opened_by, after_step, both_ways, rule_of, Plans, size, Fault, Wrong, due, expand, expand_all, IsStateSorted, AreStatesSorted, IsNodeSorted, IsTaskSorted, State, place, keeps_goals, start_state, is_over, is_long, is_loop, node_sorted, start_sorted, conj_sorted, Each, each_append, AllSides, Nameable, NoTerm, states_opened, plan_states, plans_states, IsBuilt, EachKept, states_until, states_are_nameable, conj_sides, sides_append, goals_nameable, opened_same, joined_is}
use Rattle.std.proofs.Common.{Option, Some, None, Ok, map, slice_get}
use Rattle.sm_syntax.specs.claim.ConflictFree.{Task}
use Rattle.sm_syntax.specs.claim.Syntax.{Write}
use Rattle.sm_plan.specs.Nodes.{Step, Abs, Fork, Loop, Block, Dead, Ends}
use Rattle.sm_plan.specs.Plans.{Plan, At, Over, More, Due}
use Rattle.sm_plan.specs.Successors as next
use Rattle.sm_houdini.proofs.PlacesLemmas.{IsAt, at_first, at_rest, at_left, at_right, at_start, dues_same, plan_parts, states_length}

-- what a node keeps is sorted and has no new value and no summary
abbrev pub IsSimple : Sorts → Node → Type 0
IsSimple sorts node = IsNodeSorted sorts node × EachKept (IsBuilt NoTerm) node

abbrev mutual
  -- each node of a plan is so
  pub AreSimple : Sorts → Plan → Type 0
  AreSimple sorts (At node ps) = IsSimple sorts node × AreAllSimple sorts ps

  -- what each node of plans keeps is sorted and has no new value and no summary
  pub AreAllSimple : Sorts → Plans → Type 0
  AreAllSimple sorts Over = Unit {0}
  AreAllSimple sorts (More p ps) = AreSimple sorts p × AreAllSimple sorts ps

-- what a state aims at has no new value and no summary
abbrev IsAimed : State → Type 0
IsAimed st = AllSides (IsBuilt NoTerm) st.target

-- what a node opens aims at such formulas, and what it asks are such formulas at its stores
record Simply (sorts : Sorts) (st : State) (q : Opened) : Type 0 where
  states : Each IsAimed q.states
  goals : (fs : List Assertion) × (q.goals ≡ all_at_stores st.stores fs) × AreFormsSorted sorts fs × AllSides (IsBuilt NoTerm) fs

module _ (sorts : Sorts) where
  step_simply : (st : State) (c : Copy) (o : Option (Code × SymbolicStore)) (q : Opened) → after_step st c o ≡ Some q → IsAimed st →
      Simply sorts st q
  step_simply st c None q e aimed = absurd cc
  step_simply st c (Some p) q e aimed =
      subst (Simply sorts st) (same_Some _ q e) (record { states = (aimed, tt); goals = ([], refl, tt, tt) })

  fork_simply : (st : State) (c : Copy) (code : Code) (q : Opened) → both_ways st c code ≡ Some q → IsAimed st → Simply sorts st q
  fork_simply st c End q e aimed = absurd cc
  fork_simply st c (Skip k) q e aimed = absurd cc
  fork_simply st c (Assign x v k) q e aimed = absurd cc
  fork_simply st c (Write a i v k) q e aimed = absurd cc
  fork_simply st c (If b one other k) q e aimed =
      subst (Simply sorts st) (same_Some _ q e) (record { states = (aimed, (aimed, tt)); goals = ([], refl, tt, tt) })
  fork_simply st c (While b body k) q e aimed = absurd cc
  fork_simply st c (Hole h k) q e aimed = absurd cc

  turns_aimed : (st : State) (k : ℕ) (set : Copies) (keep : Assertion) → AllSides (IsBuilt NoTerm) (conj keep) → (vs : List Copies) →
      Each IsAimed (map (next.turn_state st k set keep) vs)
  turns_aimed st k set keep h [] = tt
  turns_aimed st k set keep h (v ∷ vs) = (h, turns_aimed st k set keep h vs)

  node_simply : (k : ℕ) (st : State) (node : Node) (q : Opened) → IsSimple sorts node → IsStateSorted sorts st → IsAimed st →
      opened_by k st node ≡ Some q → Simply sorts st q
  node_simply k st (Step c) q simple sorted aimed e = step_simply st c (next.stepped (st.rest c) (st.stores c)) q e aimed
  node_simply k st (Abs c n) q simple sorted aimed e =
      subst (Simply sorts st) (opened_same (nat_le 1 n && is_long n (st.rest c)) _ q e)
      (record { states = (aimed, tt); goals = ([], refl, tt, tt) })
  node_simply k st (Fork c) q simple sorted aimed e = fork_simply st c (st.rest c) q e aimed
  node_simply k st (Loop set keep) q simple sorted aimed e =
      let have_loops = each (λ (c : Copy). not (has set c) || is_loop (st.rest c)) in
      let parts = conj_sides (IsBuilt NoTerm) keep simple.1 in
      subst (Simply sorts st) (opened_same (is_inhabited set && (have_loops && is_kept keep)) _ q e)
      (record {
        states =
            each_append IsAimed (map (next.turn_state st k set keep) (subsets set)) (next.after_loops_state st k set keep ∷ [])
            (turns_aimed st k set keep parts (subsets set)) (aimed, tt);
        goals = (conj keep, refl, conj_sorted sorts keep simple.0, parts);
      })
  node_simply k st (Block counts keep) q simple sorted aimed e =
      subst (Simply sorts st) (opened_same (each (λ (c : Copy). is_long (counts c) (st.rest c)) && is_kept keep) _ q e)
      (record { states = (conj_sides (IsBuilt NoTerm) keep simple.1, (aimed, tt)); goals = ([], refl, tt, tt) })
  node_simply k st Dead q simple sorted aimed e =
      subst (Simply sorts st) (same_Some _ q e) (record { states = tt; goals = (No ∷ [], refl, (tt, tt), (tt, tt)) })
  node_simply k st Ends q simple sorted aimed e =
      subst (Simply sorts st) (opened_same (each (λ (c : Copy). is_over (st.rest c))) _ q e)
      (record { states = tt; goals = (st.target, refl, sorted.target, aimed) })
  node_simply k st (Unfit rule) q simple sorted aimed e = absurd cc

-- a sorted state that aims so
abbrev IsFine : Sorts → State → Type 0
IsFine sorts st = IsStateSorted sorts st × IsAimed st

both_fine : (sorts : Sorts) (states : List State) → AreStatesSorted sorts states → Each IsAimed states → Each (IsFine sorts) states
both_fine sorts [] sorted aimed = tt
both_fine sorts (st ∷ states) sorted aimed = ((sorted.0, aimed.0), both_fine sorts states sorted.1 aimed.1)

-- a state is among those up to its node
found_until : (xs : List State) (n : ℕ) (st : State) → slice_get xs n ≡ Some st → slice_get (states_until xs n) n ≡ Some st
found_until [] n st e = absurd cc
found_until (x ∷ xs) zero st e = e
found_until (x ∷ xs) (suc n) st e = found_until xs n st e

-- the facts and the goals of an obligation are sorted, and can be named after the states up to its node's
pub record IsNamed (sorts : Sorts) (all : List State) (d : Due) : Type 0 where
  pub known_sorted : AreFormsSorted sorts d.facts
  pub goals_sorted : AreFormsSorted sorts d.goals
  pub known_named : AllSides (Nameable sorts (states_until all d.node)) d.facts
  pub goals_named : AllSides (Nameable sorts (states_until all d.node)) d.goals

module _ (sorts : Sorts) (all : List State) where
  due_named : (k : ℕ) (st : State) (node : Node) (goals : List Assertion) → slice_get all k ≡ Some st → IsStateSorted sorts st →
      AreFormsSorted sorts goals → AllSides (Nameable sorts (states_until all k)) goals → Each (IsNamed sorts all) (due k st node goals)
  due_named k st node [] here sorted good named = tt
  due_named k st node (g ∷ gs) here sorted good named = (
    record {
      known_sorted = sorted.facts;
      goals_sorted = good;
      known_named = (states_are_nameable sorts (states_until all k) k st (found_until all k st here)).facts;
      goals_named = named;
    },
    tt,
  )

  both_named : (es gs ds : List Due) → es ++ gs ≡ ds → Each (IsNamed sorts all) es → Each (IsNamed sorts all) gs →
      Each (IsNamed sorts all) ds
  both_named es gs ds e h g = subst (Each (IsNamed sorts all)) e (each_append (IsNamed sorts all) es gs h g)

  mutual
    plan_named : (p : Plan) (k : ℕ) (st : State) (ds : List Due) → AreSimple sorts p → IsFine sorts st → IsAt all k (plan_states k st p) →
        expand k st p ≡ Ok ds → Each (IsNamed sorts all) ds
    plan_named (At node ps) k st ds simple fine at e =
        let p = plan_parts node ps k st ds e in
        let does = node_simply sorts k st node p.q simple.0 fine.0 fine.1 p.opens in
        let sorted = node_sorted sorts k st node p.q fine.0 simple.0.0 p.opens in
        let here = at_first all k st (plans_states (suc k) (states_opened (opened_by k st node)) ps) at in
        let fs = does.goals.0 in
        let named = goals_nameable sorts (states_until all k) k st (found_until all k st here) fine.0 fs does.goals.2 does.goals.3 in
        both_named (due k st node p.q.goals) p.later ds p.whole
        (due_named k st node p.q.goals here fine.0 sorted.0
        (subst (AllSides (Nameable sorts (states_until all k))) (sym does.goals.1) named))
        (plans_named ps (Wrong k (rule_of node)) (suc k) p.q.states p.later simple.1
        (both_fine sorts p.q.states sorted.1 does.states)
        (subst (λ (o : Option Opened). IsAt all (suc k) (plans_states (suc k) (states_opened o) ps)) p.opens
        (at_rest all k st (plans_states (suc k) (states_opened (opened_by k st node)) ps) at))
        p.goes_on)

    plans_named : (ps : Plans) (w : Fault) (k : ℕ) (states : List State) (ds : List Due) → AreAllSimple sorts ps →
        Each (IsFine sorts) states → IsAt all k (plans_states k states ps) → expand_all w k states ps ≡ Ok ds → Each (IsNamed sorts all) ds
    plans_named Over w k [] ds simple fine at e = subst (Each (IsNamed sorts all)) (dues_same [] ds e) tt
    plans_named Over w k (st ∷ states) ds simple fine at e = absurd cc
    plans_named (More p ps) w k [] ds simple fine at e = absurd cc
    plans_named (More p ps) w k (st ∷ states) ds simple fine at e =
        let parts = joined_is (expand k st p) (expand_all w (k + size p) states ps) ds e in
        let first = plan_states k st p in
        let second = plans_states (k + size p) states ps in
        both_named parts.0 parts.1 ds parts.4
        (plan_named p k st parts.0 simple.0 fine.0 (at_left all k first second at) parts.2)
        (plans_named ps w (k + size p) states parts.1 simple.1 fine.1
        (at_right all k (size p) first second (sym (states_length p k st parts.0 parts.2)) at) parts.3)

-- the start aims at such formulas
place_simple : (output : ℕ × Sort) (c : Copy) → IsBuilt NoTerm (place output c)
place_simple (x, Num) c = tt
place_simple (x, Arr) c = (tt, tt)

pub outputs_simple : (outputs : List (ℕ × Sort)) →
    AllSides (IsBuilt NoTerm) (flat_map (λ (output : ℕ × Sort). keeps_goals (place output)) outputs)
outputs_simple [] = tt
outputs_simple (output ∷ rest) =
    let at = place_simple output in
    sides_append (IsBuilt NoTerm) (keeps_goals (place output))
    (flat_map (λ (o : ℕ × Sort). keeps_goals (place o)) rest) (
      ((at O, at A), (at M, at A)),
      (((at O, at B), (at M, at B)), (((at O, at A), ((at A, at B), (at M, at O))), tt)),
    )
    (outputs_simple rest)

-- so it is of all that a plan of a sorted task asks
pub asked_named : (sorts : Sorts) (t : Task) (p : Plan) (ds : List Due) → IsTaskSorted sorts t → AreSimple sorts p →
    expand 0 (start_state t) p ≡ Ok ds → Each (IsNamed sorts (plan_states 0 (start_state t) p)) ds
asked_named sorts t p ds sorted simple e =
    plan_named sorts (plan_states 0 (start_state t) p) p 0 (start_state t) ds simple
    (start_sorted sorts t sorted, outputs_simple t.outputs)
    (at_start (plan_states 0 (start_state t) p)) e
