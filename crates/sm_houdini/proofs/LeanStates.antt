-- In the states of a plan whose kept formulas have no new value and no summary, no summary has more arguments than there are names.
use Rattle.sm_houdini.proofs.Imports.{◌≡◌, ◌≤◌, ◌<◌, ℕ, zero, suc, ◌+◌, ◌-◌, ◌==◌, ◌&&◌, ◌||◌, nat_le, not, Bool, true, false, if◌then◌else◌, List, [], ◌∷◌, filter, length, refl, ap, subst, arith, flat_map, range_with_len, same_Some, Copy, Condition, Code, append, sort_of, Sorts, IsWellSorted, Sort, Assertion, negate, conj, terms_given, all_at_stores, SymbolicStore, term_of, form_of, Tree, Havoc, Fun, Copies, copies, each, has, is_inhabited, subsets, no_copies, is_kept, Node, Unfit, Opened, opened_by, where_true, after_step, both_ways, Plans, size, IsStateSorted, AreStatesSorted, IsTaskSorted, AreNumbered, State, start_facts, start_store, start_state, is_over, is_long, is_loop, front, rest_after, loop_guard, last_guard, node_sorted, front_well, start_sorted, Each, each_append, EachSide, AllSides, NoTerm, states_opened, plan_states, plans_states, IsBuilt, EachKept, IsStoreBuilt, term_built, form_built, negate_sides, conj_sides, sides_append, and_from, le_true}
use Rattle.std.proofs.Common.{Option, Some, None, map}
use Rattle.sm_syntax.specs.Assigns.{assigns}
use Rattle.sm_syntax.specs.claim.ConflictFree.{Task}
use Rattle.sm_syntax.specs.claim.Syntax as syntax
use Rattle.sm_deps.specs.Inputs.{needed, greatest, inputs}
use Rattle.sm_deps.specs.Names.{code_names}
use Rattle.sm_deps.proofs.InputsDeclared.{inputs_declared, assigned_declared}
use Rattle.sm_deps.proofs.InputsExact.{inputs_listed}
use Rattle.sm_term.specs.Symbolic.{with_term}
use Rattle.sm_term.specs.Terms.{Write}
use Rattle.sm_plan.specs.Nodes.{Step, Abs, Fork, Loop, Block, Dead, Ends}
use Rattle.sm_plan.specs.Plans.{Plan, At, Over, More}
use Rattle.sm_plan.specs.Successors as next
use Rattle.sm_plan.proofs.CopiesLemmas.{one_copy}
use Rattle.sm_plan.proofs.StartsMade.{declared_below}
use Rattle.sm_houdini.proofs.LeanTerms.{is_lean, are_lean, Lean, built_lean, all_at_lean}
use Rattle.sm_houdini.proofs.NamedGoals.{AreSimple, AreAllSimple, outputs_simple}

-- numbers of a range that pass a test and are below another are no more than that one
few_pass : (p : ℕ → Bool) (most k n : ℕ) → ((x : ℕ) → p x ≡ true → x < most) → length (filter p (range_with_len k n)) ≤ most - k
few_pass p most k zero below = omega arith
few_pass p most k (suc n) below = by (p k) (below k) (few_pass p most (k + 1) n below)
  where
    by : (b : Bool) → (b ≡ true → k < most) → length (filter p (range_with_len (k + 1) n)) ≤ most - (k + 1) →
        length (if b then k ∷ filter p (range_with_len (k + 1) n) else filter p (range_with_len (k + 1) n)) ≤ most - k
    by true here rest = let less = here refl in omega (arith, rest, less)
    by false here rest = omega (arith, rest)

-- a name has no more inputs than there are names
inputs_few : (ds : List (ℕ × Sort)) → AreNumbered ds → (c : Code) (w : ℕ) → IsWellSorted (sort_of ds) c → assigns c w ≡ true →
    length (inputs c w) ≤ length ds
unfolding inputs
inputs_few ds numbered c w well assigned =
    let needs = needed c (λ (x : ℕ). x == w) in
    let known = assigned_declared (sort_of ds) c w well assigned in
    let all : length ds - 0 ≡ length ds = omega arith in
    subst (λ (m : ℕ). length (filter needs (range_with_len 0 (suc (greatest (w ∷ code_names c))))) ≤ m) all
    (few_pass needs (length ds) 0 (suc (greatest (w ∷ code_names c)))
    (λ (x : ℕ) (h : needs x ≡ true).
    declared_below ds numbered x (inputs_declared (sort_of ds) c w x well known ((inputs_listed c w x).1 h))))

present_few : (s : SymbolicStore) (names : List ℕ) → length (terms_given (next.present s names)) ≡ length names
present_few s [] = refl
present_few s (x ∷ names) = ap suc (present_few s names)

-- a state in which no summary has more than so many arguments, and which aims at formulas with none
pub record IsLeanState (most : ℕ) (st : State) : Type 0 where
  pub stores : (c : Copy) → IsStoreBuilt (Lean most) (st.stores c)
  pub facts : AllSides (IsBuilt (Lean most)) st.facts
  pub target : AllSides (IsBuilt NoTerm) st.target

module _ (ds : List (ℕ × Sort)) (numbered : AreNumbered ds) where
  abbrev sorts : Sorts
  sorts = sort_of ds

  abbrev most : ℕ
  most = length ds

  abbrev Built : Tree → Type 0
  Built = IsBuilt (Lean most)

  abbrev Store : SymbolicStore → Type 0
  Store s = IsStoreBuilt (Lean most) s

  choice_lean : (b : Bool) (t u : Tree) → (b ≡ true → Built t) → Built u → Built (if b then t else u)
  choice_lean true t u h g = h refl
  choice_lean false t u h g = g

  term_lean : (s : SymbolicStore) (x : ℕ) (t : Tree) → Store s → Built t → Store (with_term s x t)
  term_lean s x t all h y = choice_lean (y == x) t (s y) (λ (e : (y == x) ≡ true). h) (all y)

  present_lean : (s : SymbolicStore) → Store s → (names : List ℕ) → are_lean most (next.present s names) ≡ true
  present_lean s all [] = refl
  present_lean s all (x ∷ names) =
      and_from (is_lean most (s x)) (are_lean most (next.present s names)) (built_lean most (s x) (all x)) (present_lean s all names)

  summarized_lean : (c : Code) (s : SymbolicStore) → IsWellSorted sorts c → Store s → Store (next.summarized c s)
  summarized_lean c s well all x =
      choice_lean (assigns c x) (Fun c x (next.present s (inputs c x))) (s x)
      (λ (h : assigns c x ≡ true).
      let count = present_few s (inputs c x) in
      and_from (nat_le (length (terms_given (next.present s (inputs c x)))) most) (are_lean most (next.present s (inputs c x)))
      (le_true (length (terms_given (next.present s (inputs c x)))) most (omega (arith, count, inputs_few ds numbered c x well h)))
      (present_lean s all (inputs c x)))
      (all x)

  renewed_lean : (k : ℕ) (done : Copy → Code) (stores : Copy → SymbolicStore) → ((c : Copy) → Store (stores c)) →
      (c : Copy) → Store (next.renewed k done stores c)
  renewed_lean k done stores all c x =
      choice_lean (assigns (done c) x) (Havoc k c x) (stores c x) (λ (h : assigns (done c) x ≡ true). refl) (all c x)

  moved_lean : (st : State) (c : Copy) (r : Code) (s : SymbolicStore) (more : List Assertion) → IsLeanState most st → Store s →
      AllSides Built more → IsLeanState most (next.with_facts (next.moved st c r s) more)
  moved_lean st c r s more lean new facts = record {
    stores = one_copy (λ (p : Code) (t : SymbolicStore) (d : Copy). Store t) st.rest st.stores c r s new lean.stores;
    facts = sides_append Built st.facts more lean.facts facts;
    target = lean.target;
  }

  moved_as : (st : State) (c : Copy) (r : Code) (s : SymbolicStore) → IsLeanState most st → Store s → IsLeanState most (next.moved st c r s)
  moved_as st c r s lean new = record {
    stores = one_copy (λ (p : Code) (t : SymbolicStore) (d : Copy). Store t) st.rest st.stores c r s new lean.stores;
    facts = lean.facts;
    target = lean.target;
  }

  guard_lean : (g : Option Condition) (s : SymbolicStore) → Store s → AllSides Built (next.false_guard g s)
  guard_lean None s all = tt
  guard_lean (Some b) s all = (negate_sides Built (form_of b s) (form_built (Lean most) b s all), tt)

  stepped_lean : (c : Code) (s : SymbolicStore) (p : Code × SymbolicStore) → next.stepped c s ≡ Some p → Store s → Store p.1
  stepped_lean syntax.End s p e all = absurd cc
  stepped_lean (syntax.Skip r) s p e all = let same : p.1 ≡ s = cc in rw same all
  stepped_lean (syntax.Assign x v r) s p e all =
      let same : p.1 ≡ with_term s x (term_of v s) = cc in
      rw same (term_lean s x (term_of v s) all (term_built (Lean most) v s all))
  stepped_lean (syntax.Write a i v r) s p e all =
      let new = Write (s a) (term_of i s) (term_of v s) in
      let same : p.1 ≡ with_term s a new = cc in
      rw same (term_lean s a new all (all a, term_built (Lean most) i s all, term_built (Lean most) v s all))
  stepped_lean (syntax.If g c d r) s p e all = absurd cc
  stepped_lean (syntax.While g c r) s p e all = absurd cc
  stepped_lean (syntax.Hole h r) s p e all = absurd cc

  abbrev AllLean : List State → Type 0
  AllLean states = Each (IsLeanState most) states

  step_lean : (st : State) (c : Copy) (o : Option (Code × SymbolicStore)) (q : Opened) → next.stepped (st.rest c) (st.stores c) ≡ o →
      after_step st c o ≡ Some q → IsLeanState most st → AllLean q.states
  step_lean st c None q f e lean = absurd cc
  step_lean st c (Some p) q f e lean =
      subst (λ (r : Opened). AllLean r.states) (same_Some _ q e)
      (moved_as st c p.0 p.1 lean (stepped_lean (st.rest c) (st.stores c) p f (lean.stores c)), tt)

  opened_lean : (b : Bool) (p q : Opened) → where_true b p ≡ Some q → AllLean p.states → AllLean q.states
  opened_lean true p q e h = subst (λ (r : Opened). AllLean r.states) (same_Some p q e) h
  opened_lean false p q e h = absurd cc

  fork_lean : (st : State) (c : Copy) (code : Code) (q : Opened) → both_ways st c code ≡ Some q → IsLeanState most st → AllLean q.states
  fork_lean st c syntax.End q e lean = absurd cc
  fork_lean st c (syntax.Skip k) q e lean = absurd cc
  fork_lean st c (syntax.Assign x v k) q e lean = absurd cc
  fork_lean st c (syntax.Write a i v k) q e lean = absurd cc
  fork_lean st c (syntax.If b first second k) q e lean =
      let f = form_of b (st.stores c) in
      let good = form_built (Lean most) b (st.stores c) (lean.stores c) in
      subst (λ (r : Opened). AllLean r.states) (same_Some _ q e) (
        moved_lean st c (append first k) (st.stores c) (f ∷ []) lean (lean.stores c) (good, tt),
        (
          moved_lean st c (append second k) (st.stores c) (negate f ∷ []) lean (lean.stores c) (negate_sides Built f good, tt),
          tt,
        ),
      )
  fork_lean st c (syntax.While b body k) q e lean = absurd cc
  fork_lean st c (syntax.Hole h k) q e lean = absurd cc

  -- which guards are true at the head of loops
  guards_lean : (st : State) (set turning : Copies) (stores : Copy → SymbolicStore) → ((c : Copy) → Store (stores c)) → (cs : List Copy) →
      AllSides Built (flat_map (next.guard_fact st set turning stores) cs)
  guards_lean st set turning stores all [] = tt
  guards_lean st set turning stores all (c ∷ cs) =
      sides_append Built (next.guard_fact st set turning stores c) (flat_map (next.guard_fact st set turning stores) cs)
      (by (has set c) (has turning c)) (guards_lean st set turning stores all cs)
    where
      by : (a b : Bool) →
          (let f = form_of (loop_guard (st.rest c)) (stores c) in AllSides Built (if a then (if b then f else negate f) ∷ [] else []))
      by true true = (form_built (Lean most) (loop_guard (st.rest c)) (stores c) (all c), tt)
      by true false = (
        negate_sides Built (form_of (loop_guard (st.rest c)) (stores c))
            (form_built (Lean most) (loop_guard (st.rest c)) (stores c) (all c)),
        tt,
      )
      by false b = tt

  head_lean : (k : ℕ) (st : State) (set : Copies) (keep : Assertion) (turning : Copies) → EachSide (IsBuilt NoTerm) keep →
      IsLeanState most st → AllSides Built (next.head_facts st k set keep turning)
  head_lean k st set keep turning kept lean =
      let stores = next.head_stores st k set in
      let all = renewed_lean k (next.bodies st set) st.stores lean.stores in
      sides_append Built (all_at_stores stores (conj keep)) (flat_map (next.guard_fact st set turning stores) copies)
      (all_at_lean most stores all (conj keep) (conj_sides (IsBuilt NoTerm) keep kept))
      (guards_lean st set turning stores all copies)

  turns_lean : (k : ℕ) (st : State) (set : Copies) (keep : Assertion) → EachSide (IsBuilt NoTerm) keep → IsLeanState most st →
      (vs : List Copies) → AllLean (map (next.turn_state st k set keep) vs)
  turns_lean k st set keep kept lean [] = tt
  turns_lean k st set keep kept lean (v ∷ vs) = (
    record {
      stores = renewed_lean k (next.bodies st set) st.stores lean.stores;
      facts = sides_append Built st.facts (next.head_facts st k set keep v) lean.facts (head_lean k st set keep v kept lean);
      target = conj_sides (IsBuilt NoTerm) keep kept;
    },
    turns_lean k st set keep kept lean vs,
  )

  node_lean : (k : ℕ) (st : State) (node : Node) (q : Opened) → EachKept (IsBuilt NoTerm) node → IsStateSorted sorts st →
      IsLeanState most st → opened_by k st node ≡ Some q → AllLean q.states
  node_lean k st (Step c) q kept sorted lean e = step_lean st c (next.stepped (st.rest c) (st.stores c)) q refl e lean
  node_lean k st (Abs c n) q kept sorted lean e =
      let done = front n (st.rest c) in
      let s = next.summarized done (st.stores c) in
      let new = summarized_lean done (st.stores c) (front_well sorts n (st.rest c) (sorted.rest c)) (lean.stores c) in
      opened_lean (nat_le 1 n && is_long n (st.rest c)) _ q e (
        moved_lean st c (rest_after n (st.rest c)) s (next.false_guard (last_guard done) s) lean new (guard_lean (last_guard done) s new),
        tt,
      )
  node_lean k st (Fork c) q kept sorted lean e = fork_lean st c (st.rest c) q e lean
  node_lean k st (Loop set keep) q kept sorted lean e =
      let have_loops = each (λ (c : Copy). not (has set c) || is_loop (st.rest c)) in
      opened_lean (is_inhabited set && (have_loops && is_kept keep)) _ q e
      (each_append (IsLeanState most) (map (next.turn_state st k set keep) (subsets set)) (next.after_loops_state st k set keep ∷ [])
      (turns_lean k st set keep kept lean (subsets set)) (
        record {
          stores = renewed_lean k (next.bodies st set) st.stores lean.stores;
          facts =
              sides_append Built st.facts (next.head_facts st k set keep no_copies) lean.facts (head_lean k st set keep no_copies kept lean);
          target = lean.target;
        },
        tt,
      ))
  node_lean k st (Block counts keep) q kept sorted lean e =
      let stores = next.renewed k (next.fronts st counts) st.stores in
      let all = renewed_lean k (next.fronts st counts) st.stores lean.stores in
      let parts = conj_sides (IsBuilt NoTerm) keep kept in
      opened_lean (each (λ (c : Copy). is_long (counts c) (st.rest c)) && is_kept keep) _ q e (
        record { stores = lean.stores; facts = lean.facts; target = parts },
        (
          record {
            stores = all;
            facts =
                sides_append Built st.facts (all_at_stores stores (conj keep)) lean.facts (all_at_lean most stores all (conj keep) parts);
            target = lean.target;
          },
          tt,
        ),
      )
  node_lean k st Dead q kept sorted lean e = subst (λ (r : Opened). AllLean r.states) (same_Some _ q e) tt
  node_lean k st Ends q kept sorted lean e = opened_lean (each (λ (c : Copy). is_over (st.rest c))) _ q e tt
  node_lean k st (Unfit rule) q kept sorted lean e = absurd cc

  -- all states of a plan
  none_lean : (k : ℕ) (ps : Plans) → AllLean (plans_states k [] ps)
  none_lean k Over = tt
  none_lean k (More p ps) = tt

  mutual
    plan_lean : (p : Plan) (k : ℕ) (st : State) → AreSimple sorts p → IsStateSorted sorts st → IsLeanState most st →
        AllLean (plan_states k st p)
    plan_lean (At node ps) k st simple sorted lean = (
      lean,
      by (opened_by k st node) refl
          (λ (states : List State) (all : AreStatesSorted sorts states) (each : AllLean states).
          plans_lean ps (suc k) states simple.1 all each),
    )
      where
        by : (o : Option Opened) → opened_by k st node ≡ o →
            ((states : List State) → AreStatesSorted sorts states → AllLean states → AllLean (plans_states (suc k) states ps)) →
            AllLean (plans_states (suc k) (states_opened o) ps)
        by None e later = none_lean (suc k) ps
        by (Some q) e later =
            later q.states (node_sorted sorts k st node q sorted simple.0.0 e).1 (node_lean k st node q simple.0.1 sorted lean e)

    plans_lean : (ps : Plans) (k : ℕ) (states : List State) → AreAllSimple sorts ps → AreStatesSorted sorts states → AllLean states →
        AllLean (plans_states k states ps)
    plans_lean Over k states simple sorted lean = tt
    plans_lean (More p ps) k [] simple sorted lean = tt
    plans_lean (More p ps) k (st ∷ states) simple sorted lean =
        each_append (IsLeanState most) (plan_states k st p) (plans_states (k + size p) states ps)
        (plan_lean p k st simple.0 sorted.0 lean.0) (plans_lean ps (k + size p) states simple.1 sorted.1 lean.1)

  start_lean : (t : Task) → IsLeanState most (start_state t)
  start_lean t = record {
    stores = λ (c : Copy) (x : ℕ). tt;
    facts = facts_of t.assumed;
    target = outputs_simple t.outputs;
  }
    where
      facts_of : (o : Option Condition) → AllSides Built (start_facts o)
      facts_of None = tt
      facts_of (Some b) =
          conj_sides Built (form_of b start_store) (form_built (Lean most) b start_store (λ (x : ℕ). tt))

-- so it is of each plan of a sorted task that keeps such formulas
pub states_lean : (ds : List (ℕ × Sort)) → AreNumbered ds → (t : Task) (p : Plan) → IsTaskSorted (sort_of ds) t → AreSimple (sort_of ds) p →
    Each (IsLeanState (length ds)) (plan_states 0 (start_state t) p)
states_lean ds numbered t p sorted simple =
    plan_lean ds numbered p 0 (start_state t) simple (start_sorted (sort_of ds) t sorted) (start_lean ds numbered t)
