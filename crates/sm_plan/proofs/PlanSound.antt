-- Whole proofs: from the obligations of a plan, or from a list of nodes, to a merge that is free of conflicts.
use Rattle.sm_plan.proofs.Imports.{◌≡◌, ◌<◌, ℕ, suc, ◌+◌, ◌==◌, ℤ, pos, Bool, true, false, if◌then◌else◌, Option, Some, None, Result, Ok, Err, List, [], ◌∷◌, ◌++◌, length, inl, inr, refl, ap, sym, subst, ⊎_elim, arith, Contains, All, All-nil, All-cons, All-contains, flat_map, Sort, Condition, number, zero_value, Store, KeepsChange, Keeps, Scalar, Element, variable, Copy, O, A, B, M, Meets, Task, ConflictFree, Tree, Structure, meaning, with_slots, Assertion, AllHold, form_of, form_means, holds_parts, conj_means, is_shallow, State, place, keeps_goals, start_store, start_facts, start_state, Node, opened_by, rule_of, Plan, At, Plans, More, size, count, branches, IsFresh, AreFresh, Due, Fault, Wrong, Deep, due, joined, opened, expand, expand_all, obligations, AllValid, AllDischarged, Pending, above_opened, pending_states, states_of, NodesProve, start_pending, IsSound, AreSound, IsStateBelow, AreStatesBelow}
use Rattle.sm_syntax.specs.claim.Keeps.{Cell}
use Rattle.sm_syntax.proofs.Kept.{int_cases}
use Rattle.sm_plan.specs.Nodes.{Opened}
use Rattle.sm_plan.specs.Plans.{Over}
use Rattle.sm_plan.proofs.CopiesLemmas.{In}
use Rattle.sm_plan.proofs.LoopsSound.{sound_parts}
use Rattle.sm_plan.proofs.BelowLemmas.{states_later, states_append, start_below}
use Rattle.sm_plan.proofs.NodeSound.{node_sound, node_below}

-- what a node opened, where there are obligations
pub opened_is : (o : Option Opened) (w : Fault) (f : Opened → Result (List Due) Fault) (ds : List Due) → opened o w f ≡ Ok ds
    → (q : Opened) × (o ≡ Some q) × (f q ≡ Ok ds)
opened_is None w f ds e = absurd cc
opened_is (Some q) w f ds e = (q, refl, e)

-- a test that passed
pub passed : (b : Bool) (r : Result (List Due) Fault) (w : Fault) (ds : List Due) → (if b then r else Err w) ≡ Ok ds → r ≡ Ok ds
passed true r w ds e = e
passed false r w ds e = absurd cc

-- the two parts of obligations
pub joined_is : (r s : Result (List Due) Fault) (ds : List Due) → joined r s ≡ Ok ds
    → (a : List Due) × (b : List Due) × (r ≡ Ok a) × (s ≡ Ok b) × (a ++ b ≡ ds)
joined_is (Err w) s ds e = absurd cc
joined_is (Ok a) (Err w) ds e = absurd cc
joined_is (Ok a) (Ok b) ds e = (a, b, refl, refl, cc)

-- both parts are discharged
pub discharged_parts : (a b : List Due) → AllDischarged (a ++ b) → AllDischarged a × AllDischarged b
discharged_parts [] b all = (tt, all)
discharged_parts (d ∷ a) b all = let p = discharged_parts a b all.1 in ((all.0, p.0), p.1)

-- where obligations that are those of two parts are discharged, both parts are
pub parts_discharged : (a b ds : List Due) → a ++ b ≡ ds → AllDischarged ds → AllDischarged a × AllDischarged b
parts_discharged a b ds e all = discharged_parts a b (subst AllDischarged (sym e) all)

-- the goals of a node
pub due_valid : (k : ℕ) (st : State) (node : Node) (goals : List Assertion) → AllDischarged (due k st node goals) → AllValid st.facts goals
due_valid k st node [] all = tt
due_valid k st node (g ∷ gs) all = all.0

mutual
  -- a fresh plan whose obligations are discharged makes its state sound
  plan_sound : (p : Plan) (k : ℕ) (st : State) (ds : List Due) → IsStateBelow k st → IsFresh k p → expand k st p ≡ Ok ds → AllDischarged ds
      → IsSound st
  plan_sound (At node ps) k st ds below fresh e all =
      let w = Wrong k (rule_of node) in
      let o = opened_is (opened_by k st node) w
      (λ (q : Opened). if count ps == length q.states then joined (Ok (due k st node q.goals))
      (expand_all w (suc k) q.states ps) else Err w) ds e in
      let q = o.0 in
      let parts = joined_is (Ok (due k st node q.goals)) (expand_all w (suc k) q.states ps) ds
      (passed (count ps == length q.states) (joined (Ok (due k st node q.goals)) (expand_all w (suc k) q.states ps)) w ds o.2) in
      let both = parts_discharged parts.0 parts.1 ds parts.4 all in
      let here : parts.0 ≡ due k st node q.goals = let f = parts.2 in cc in
      node_sound k st node q below fresh.0 o.1 (due_valid k st node q.goals (subst AllDischarged here both.0))
      (plans_sound ps w (suc k) q.states parts.1 (node_below k st node q below fresh.0 o.1) fresh.1 parts.3 both.1)

  -- fresh plans whose obligations are discharged make their states sound
  plans_sound : (ps : Plans) (w : Fault) (k : ℕ) (states : List State) (ds : List Due) → AreStatesBelow k states → AreFresh k ps
      → expand_all w k states ps ≡ Ok ds →
      AllDischarged ds → AreSound states
  plans_sound Over w k [] ds below fresh e all = tt
  plans_sound Over w k (st ∷ states) ds below fresh e all = absurd cc
  plans_sound (More p ps) w k [] ds below fresh e all = absurd cc
  plans_sound (More p ps) w k (st ∷ states) ds below fresh e all =
      let parts = joined_is (expand k st p) (expand_all w (k + size p) states ps) ds e in
      let both = parts_discharged parts.0 parts.1 ds parts.4 all in (
        plan_sound p k st parts.0 below.0 fresh.0 parts.2 both.0,
        plans_sound ps w (k + size p) states parts.1 (states_later k (k + size p) states (omega arith) below.1) fresh.1 parts.3 both.1,
      )

-- the states that were opened, and those that wait after them
pub states-pending : (above : ℕ) (states : List State) (pending : List Pending)
    → states_of (pending_states above states ++ pending) ≡ states ++ states_of pending
states-pending above [] pending = refl
states-pending above (st ∷ states) pending = ap (λ (l : List State). st ∷ l) (states-pending above states pending)

-- nodes that prove pending states make them sound
nodes_sound : (nodes : List Node) (k : ℕ) (pending : List Pending) → AreStatesBelow k (states_of pending) → NodesProve k pending nodes
    → AreSound (states_of pending)
nodes_sound [] k [] below h = tt
nodes_sound [] k (p ∷ pending) below h = elim h [ ]
nodes_sound (node ∷ nodes) k [] below h = elim h [ ]
nodes_sound (node ∷ nodes) k (p ∷ pending) below h =
    let q = h.0 in
    let above = above_opened node p.above in
    let rest = states_of pending in
    let all = states-pending above q.states pending in
    let later = nodes_sound nodes (suc k) (pending_states above q.states ++ pending)
    (subst (AreStatesBelow (suc k)) (sym all)
    (states_append (suc k) q.states rest (node_below k p.state node q below.0 h.3 h.1)
    (states_later k (suc k) rest (omega arith) below.1))) h.5 in
    let both = sound_parts q.states rest (subst AreSound all later) in
    (node_sound k p.state node q below.0 h.3 h.1 h.4 both.0, both.1)

-- one of two, where both can't fail
one_of : (base variant candidate : ℤ) → ((base ≡ variant → ⊥) → (candidate ≡ variant → ⊥) → ⊥) → KeepsChange base variant candidate
one_of base variant candidate h =
    ⊎_elim (λ (e : base ≡ variant). inl e)
    (λ (d : base ≡ variant → ⊥).
    ⊎_elim (λ (e : candidate ≡ variant). inr e) (λ (g : candidate ≡ variant → ⊥). absurd (h d g)) (int_cases candidate variant))
    (int_cases base variant)

-- four numbers at which the three goals hold
goals_keep : (m : Structure) (at : Copy → Tree) → AllHold m (keeps_goals at)
    → Keeps (number (meaning m (at O))) (number (meaning m (at A))) (number (meaning m (at B))) (number (meaning m (at M)))
goals_keep m at h =
    let o = number (meaning m (at O)) in
    let a = number (meaning m (at A)) in
    let b = number (meaning m (at B)) in
    let c = number (meaning m (at M)) in
    record {
      change_of_a = one_of o a c h.0;
      change_of_b = one_of o b c h.1.0;
      no_other = λ (first : o ≡ a) (second : a ≡ b).
          ⊎_elim (λ (e : c ≡ o). e)
          (λ (d : c ≡ o → ⊥).
          absurd (h.1.1.0 (λ (g : o ≡ a → ⊥). g first) (λ (q : ((a ≡ b → ⊥) → ⊥) → ((c ≡ o) → ⊥) → ⊥). q (λ (g : a ≡ b → ⊥). g second) d)))
          (int_cases c o);
    }

-- the goals of one output among those of all
goals_at : (m : Structure) (outputs : List (ℕ × Sort)) (output : ℕ × Sort) → In output outputs
    → AllHold m (flat_map (λ (o : ℕ × Sort). keeps_goals (place o)) outputs) →
    AllHold m (keeps_goals (place output))
goals_at m [] output h all = elim h [ ]
goals_at m (o ∷ rest) output (inl e) all =
    subst (λ (p : ℕ × Sort). AllHold m (keeps_goals (place p))) e
    (holds_parts m (keeps_goals (place o)) (flat_map (λ (p : ℕ × Sort). keeps_goals (place p)) rest) all).0
goals_at m (o ∷ rest) output (inr h) all =
    goals_at m rest output h (holds_parts m (keeps_goals (place o)) (flat_map (λ (p : ℕ × Sort). keeps_goals (place p)) rest) all).1

-- the elements of a list stand in it
pub all_in : {T : Type 0} (xs : List T) → All (λ (y : T). In y xs) xs
all_in {T} [] = All-nil (λ (y : T). In y [])
all_in {T} (x ∷ xs) = All-cons (λ (y : T). In y (x ∷ xs)) x xs (inl refl) (λ (k : ℕ) (d : T) (h : k < length xs). inr (all_in xs k d h))

-- what a list contains stands in it
pub contains_in : {T : Type 0} (x : T) (xs : List T) → Contains xs x → In x xs
contains_in {T} x xs h = All-contains (λ (y : T). In y xs) xs x (all_in xs) h

-- the facts at the start
start_holds : (m : Structure) (assumed : Option Condition) → Meets assumed m.start → AllHold m (start_facts assumed)
start_holds m None meets = tt
start_holds m (Some b) meets = (conj_means m (form_of b start_store)).0 ((form_means m b start_store).1 meets)

-- the index of a cell
index_of : Cell → ℤ
index_of (Scalar x) = pos 0
index_of (Element a i) = i

-- the structure of a start store under a bound, at an index
abbrev at_start : ℕ → Store → ℤ → Structure
at_start n s i =
    record { bound = n; start = s; havoc = λ (k : ℕ) (c : Copy) (x : ℕ). zero_value; slot = λ (c : Copy) (x : ℕ). zero_value; cell = i }

-- a sound start is a merge that is free of conflicts
pub start_conflict_free : (t : Task) → IsSound (start_state t) → ConflictFree t
start_conflict_free t sound n s end meets ends (Scalar x) counts =
    let m = at_start n s (pos 0) in
    goals_keep (with_slots m end) (place (variable (Scalar x)))
    (goals_at (with_slots m end) t.outputs (variable (Scalar x)) (contains_in (variable (Scalar x)) t.outputs counts)
    (sound m end (start_holds m t.assumed meets) ends))
start_conflict_free t sound n s end meets ends (Element a i) counts =
    let m = at_start n s i in
    goals_keep (with_slots m end) (place (variable (Element a i)))
    (goals_at (with_slots m end) t.outputs (variable (Element a i)) (contains_in (variable (Element a i)) t.outputs counts)
    (sound m end (start_holds m t.assumed meets) ends))

-- a test that passed, of a whole plan
pub shallow : (b : Bool) (r : Result (List Due) Fault) (ds : List Due) → (if b then r else Err Deep) ≡ Ok ds → r ≡ Ok ds
shallow true r ds e = e
shallow false r ds e = absurd cc

-- where all obligations of a fresh plan hold in every structure, the task is free of conflicts
pub plan_conflict_free : (t : Task) (p : Plan) (ds : List Due) → IsFresh 0 p → obligations t p ≡ Ok ds → AllDischarged ds → ConflictFree t
plan_conflict_free t p ds fresh e all =
    start_conflict_free t
    (plan_sound p 0 (start_state t) ds (start_below 0 t) fresh
    (shallow (is_shallow (branches p)) (expand 0 (start_state t) p) ds e) all)

-- where nodes prove the start of a task, the task is free of conflicts
pub nodes_conflict_free : (t : Task) (nodes : List Node) → NodesProve 0 (start_pending t) nodes → ConflictFree t
nodes_conflict_free t nodes h = start_conflict_free t (nodes_sound nodes 0 (start_pending t) (start_below 0 t, tt) h).0
