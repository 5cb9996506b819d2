-- The final goals of a plan are the clauses of the outputs, in order, at the stores of the node that asks them.
use Rattle.sm_why.proofs.Imports.{◌≡◌, ℕ, zero, suc, ◌+◌, ◌/◌, ◌%◌, ◌==◌, true, false, not, ◌&&◌, ◌||◌, nat_le, if◌then◌else◌, Option, Some, None, Ok, Err, List, [], ◌∷◌, ◌++◌, length, map, option_map, inl, inr, refl, ap, sym, subst, ◌∙◌, arith, slice_get, flat_map, and_parts, same_Some, slice_get-map, Copy}
use Rattle.sm_syntax.specs.declared.tree.Sort.{Sort}
use Rattle.sm_syntax.specs.claim.Syntax.{Code, End, Skip, Assign, Write, If, While, Hole, append}
use Rattle.sm_term.specs.Assertions.{Assertion, No, negate, conj}
use Rattle.sm_term.specs.Slots.{at_stores, all_at_stores}
use Rattle.sm_term.specs.Symbolic.{SymbolicStore, form_of}
use Rattle.sm_plan.specs.Copies.{Copies, each, has, is_inhabited, subsets}
use Rattle.sm_plan.specs.Limits.{is_kept, is_shallow}
use Rattle.sm_plan.specs.Nodes.{Node, Step, Abs, Fork, Loop, Block, Dead, Ends, Unfit, Opened, follows, asks, after_step, both_ways, opened_by, is_end, rule_of}
use Rattle.sm_plan.specs.Plans.{Plan, At, Plans, Over, More, size, count, branches, Due, Fault, Wrong, due, joined, expand, expand_all}
use Rattle.sm_plan.specs.Statements.{is_over, is_long, front, rest_after, is_loop}
use Rattle.sm_plan.specs.States.{State, place, keeps_goals, start_state}
use Rattle.sm_plan.specs.Successors as next
use Rattle.sm_plan.proofs.CopiesLemmas.{In}
use Rattle.sm_plan.proofs.PlanSound.{joined_is, opened_is, passed, shallow, contains_in}
use Rattle.sm_why.specs.Goals.{FinalGoalsAskClauses}
use Rattle.sm_plan.proofs.OpenedSame.{opened_same}

-- ---- states

-- a final state has the target
abbrev HasTarget : List Assertion → State → Type 0
HasTarget target st = st.is_final ≡ true → st.target ≡ target

-- each of some states
abbrev HaveTarget : List Assertion → List State → Type 0
HaveTarget target [] = Unit {0}
HaveTarget target (st ∷ states) = HasTarget target st × HaveTarget target states

-- the state after a statement
stepped_target : (target : List Assertion) (st : State) (c : Copy) (o : Option (Code × SymbolicStore)) (q : Opened) → HasTarget target st
    → after_step st c o ≡ Some q → HaveTarget target q.states
stepped_target target st c None q aims e = absurd cc
stepped_target target st c (Some p) q aims e =
    subst (λ (r : Opened). HaveTarget target r.states) (same_Some (follows (next.moved st c p.0 p.1 ∷ [])) q e) (aims, tt)

-- both ways of a branch
branched_target : (target : List Assertion) (st : State) (c : Copy) (code : Code) (q : Opened) → HasTarget target st
    → both_ways st c code ≡ Some q → HaveTarget target q.states
branched_target target st c End q aims e = absurd cc
branched_target target st c (Skip r) q aims e = absurd cc
branched_target target st c (Assign x v r) q aims e = absurd cc
branched_target target st c (Write a i v r) q aims e = absurd cc
branched_target target st c (If b first second r) q aims e =
    let f = form_of b (st.stores c) in
    let states = next.branch_state st c (append first r) f ∷ next.branch_state st c (append second r) (negate f) ∷ [] in
    subst (λ (o : Opened). HaveTarget target o.states) (same_Some (follows states) q e) (aims, (aims, tt))
branched_target target st c (While b body r) q aims e = absurd cc
branched_target target st c (Hole h r) q aims e = absurd cc

-- turns, and the state after them: no turn is final
turned_target : (target : List Assertion) (st after : State) (k : ℕ) (set : Copies) (keep : Assertion) (sets : List Copies)
    → HasTarget target after → HaveTarget target (map (next.turn_state st k set keep) sets ++ after ∷ [])
turned_target target st after k set keep [] aims = (aims, tt)
turned_target target st after k set keep (turning ∷ sets) aims =
    (λ (no : false ≡ true). absurd cc, turned_target target st after k set keep sets aims)

-- what a node opens
opened_target : (target : List Assertion) (k : ℕ) (st : State) (node : Node) (q : Opened) → HasTarget target st → opened_by k st node ≡ Some q
    → HaveTarget target q.states
opened_target target k st (Step c) q aims e = stepped_target target st c (next.stepped (st.rest c) (st.stores c)) q aims e
opened_target target k st (Abs c n) q aims e =
    let r = follows (next.summary_state st c (front n (st.rest c)) (rest_after n (st.rest c)) ∷ []) in
    subst (λ (o : Opened). HaveTarget target o.states) (opened_same (nat_le 1 n && is_long n (st.rest c)) r q e) (aims, tt)
opened_target target k st (Fork c) q aims e = branched_target target st c (st.rest c) q aims e
opened_target target k st (Loop set keep) q aims e =
    let loops = each (λ (c : Copy). not (has set c) || is_loop (st.rest c)) in
    let states = map (next.turn_state st k set keep) (subsets set) ++ next.after_loops_state st k set keep ∷ [] in
    subst (λ (o : Opened). HaveTarget target o.states)
    (opened_same (is_inhabited set && (loops && is_kept keep))
    (record { goals = all_at_stores st.stores (conj keep); states = states }) q e)
    (turned_target target st (next.after_loops_state st k set keep) k set keep (subsets set) aims)
opened_target target k st (Block counts keep) q aims e =
    let r = follows (next.inner_state st counts keep ∷ next.after_block_state st k counts keep ∷ []) in
    subst (λ (o : Opened). HaveTarget target o.states)
    (opened_same (each (λ (c : Copy). is_long (counts c) (st.rest c)) && is_kept keep) r q e)
    (λ (no : false ≡ true). absurd cc, (aims, tt))
opened_target target k st Dead q aims e =
    subst (λ (o : Opened). HaveTarget target o.states) (same_Some (asks (No ∷ [])) q e) tt
opened_target target k st Ends q aims e =
    subst (λ (o : Opened). HaveTarget target o.states)
    (opened_same (each (λ (c : Copy). is_over (st.rest c))) (asks (all_at_stores st.stores st.target)) q e) tt
opened_target target k st (Unfit rule) q aims e = absurd cc

-- ---- obligations

-- a final obligation asks the target
abbrev AsksTarget : List Assertion → Due → Type 0
AsksTarget target d = d.is_final ≡ true → (stores : Copy → SymbolicStore) × (d.goals ≡ all_at_stores stores target)

-- each of some obligations
abbrev AskTarget : List Assertion → List Due → Type 0
AskTarget target [] = Unit {0}
AskTarget target (d ∷ ds) = AsksTarget target d × AskTarget target ds

-- obligations one after the other
ask_append : (target : List Assertion) (ds es : List Due) → AskTarget target ds → AskTarget target es → AskTarget target (ds ++ es)
ask_append target [] es first second = second
ask_append target (d ∷ ds) es first second = (first.0, ask_append target ds es first.1 second)

-- obligations that are those of two lists
ask_both : (target : List Assertion) (first second ds : List Due) → first ++ second ≡ ds → AskTarget target first → AskTarget target second
    → AskTarget target ds
ask_both target first second ds e asks_first asks_second = subst (AskTarget target) e (ask_append target first second asks_first asks_second)

-- what an end asks
end_asks : (k : ℕ) (st : State) (node : Node) (q : Opened) → opened_by k st node ≡ Some q → is_end node ≡ true
    → q.goals ≡ all_at_stores st.stores st.target
end_asks k st (Step c) q e end = absurd cc
end_asks k st (Abs c n) q e end = absurd cc
end_asks k st (Fork c) q e end = absurd cc
end_asks k st (Loop set keep) q e end = absurd cc
end_asks k st (Block counts keep) q e end = absurd cc
end_asks k st Dead q e end = absurd cc
end_asks k st Ends q e end =
    let goals = all_at_stores st.stores st.target in
    subst (λ (o : Opened). o.goals ≡ goals) (opened_same (each (λ (c : Copy). is_over (st.rest c))) (asks goals) q e) refl
end_asks k st (Unfit rule) q e end = absurd cc

-- the obligation of a node
due_asks : (target : List Assertion) (k : ℕ) (st : State) (node : Node) (goals : List Assertion) → HasTarget target st
    → (is_end node ≡ true → goals ≡ all_at_stores st.stores st.target) → AskTarget target (due k st node goals)
due_asks target k st node [] aims end = tt
due_asks target k st node (g ∷ gs) aims end = (
  λ (final : (is_end node && st.is_final) ≡ true).
      let both = and_parts (is_end node) st.is_final final in (
        st.stores,
        end both.0 ∙ ap (all_at_stores st.stores) (aims both.1),
      ),
  tt,
)

mutual
  -- the obligations of a plan
  plan_asks : (target : List Assertion) (p : Plan) (k : ℕ) (st : State) (ds : List Due) → HasTarget target st → expand k st p ≡ Ok ds
      → AskTarget target ds
  plan_asks target (At node ps) k st ds aims e =
      let w = Wrong k (rule_of node) in
      let o = opened_is (opened_by k st node) w
      (λ (q : Opened). if count ps == length q.states then joined (Ok (due k st node q.goals))
      (expand_all w (suc k) q.states ps) else Err w) ds e in
      let q = o.0 in
      let parts = joined_is (Ok (due k st node q.goals)) (expand_all w (suc k) q.states ps) ds
      (passed (count ps == length q.states) (joined (Ok (due k st node q.goals)) (expand_all w (suc k) q.states ps)) w ds o.2) in
      let here : due k st node q.goals ≡ parts.0 = let f = parts.2 in cc in
      ask_both target parts.0 parts.1 ds parts.4
      (subst (AskTarget target) here (due_asks target k st node q.goals aims (end_asks k st node q o.1)))
      (plans_ask target ps w (suc k) q.states parts.1 (opened_target target k st node q aims o.1) parts.3)

  -- the obligations of plans
  plans_ask : (target : List Assertion) (ps : Plans) (w : Fault) (k : ℕ) (states : List State) (ds : List Due) → HaveTarget target states
      → expand_all w k states ps ≡ Ok ds → AskTarget target ds
  plans_ask target Over w k [] ds aims e = let none : [] ≡ ds = cc in subst (AskTarget target) none tt
  plans_ask target Over w k (st ∷ states) ds aims e = absurd cc
  plans_ask target (More p ps) w k [] ds aims e = absurd cc
  plans_ask target (More p ps) w k (st ∷ states) ds aims e =
      let parts = joined_is (expand k st p) (expand_all w (k + size p) states ps) ds e in
      ask_both target parts.0 parts.1 ds parts.4 (plan_asks target p k st parts.0 aims.0 parts.2)
      (plans_ask target ps w (k + size p) states parts.1 aims.1 parts.3)

-- an obligation among others
asks_in : (target : List Assertion) (ds : List Due) (d : Due) → In d ds → AskTarget target ds → AsksTarget target d
asks_in target [] d h all = elim h [ ]
asks_in target (e ∷ ds) d (inl same) all = subst (AsksTarget target) same all.0
asks_in target (e ∷ ds) d (inr later) all = asks_in target ds d later all.1

-- ---- clauses

-- the clauses of outputs
abbrev clauses : List (ℕ × Sort) → List Assertion
clauses outputs = flat_map (λ (output : ℕ × Sort). keeps_goals (place output)) outputs

-- a clause among them, by its number
record IsClauseOf (outputs : List (ℕ × Sort)) (output clause : ℕ) (asked : Assertion) : Type 0 where
  pub name : ℕ × Sort
  pub is_output : slice_get outputs output ≡ Some name
  pub is_clause : slice_get (keeps_goals (place name)) clause ≡ Some asked

clause_at : (outputs : List (ℕ × Sort)) (n : ℕ) (asked : Assertion) → slice_get (clauses outputs) n ≡ Some asked
    → IsClauseOf outputs (n / 3) (n % 3) asked
clause_at [] n asked e = absurd cc
clause_at (o ∷ rest) zero asked e = record { name = o; is_output = refl; is_clause = e }
clause_at (o ∷ rest) (suc zero) asked e = record { name = o; is_output = refl; is_clause = e }
clause_at (o ∷ rest) (suc (suc zero)) asked e = record { name = o; is_output = refl; is_clause = e }
clause_at (o ∷ rest) (suc (suc (suc n))) asked e =
    let later = clause_at rest n asked e in
    let output : suc (n / 3) ≡ suc (suc (suc n)) / 3 = omega arith in
    let clause : n % 3 ≡ suc (suc (suc n)) % 3 = omega arith in
    record {
      name = later.name;
      is_output = subst (λ (k : ℕ). slice_get (o ∷ rest) k ≡ Some later.name) output later.is_output;
      is_clause = subst (λ (k : ℕ). slice_get (keeps_goals (place later.name)) k ≡ Some asked) clause later.is_clause;
    }

-- what stands in a place after a map
mapped_at : {A B : Type 0} (f : A → B) (o : Option A) (y : B) → option_map f o ≡ Some y → (x : A) × (o ≡ Some x) × (y ≡ f x)
mapped_at {A} {B} f None y e = absurd cc
mapped_at {A} {B} f (Some x) y e = (x, refl, sym (same_Some (f x) y e))

pub final_goals : FinalGoalsAskClauses
final_goals t p ds d n goal e inside final at =
    let target = clauses t.outputs in
    let all = plan_asks target p 0 (start_state t) ds (λ (yes : true ≡ true). refl)
    (shallow (is_shallow (branches p)) (expand 0 (start_state t) p) ds e) in
    let asked = asks_in target ds d (contains_in d ds inside) all final in
    let there : slice_get (map (at_stores asked.0) target) n ≡ Some goal =
    subst (λ (goals : List Assertion). slice_get goals n ≡ Some goal) asked.1 at in
    let mapped = mapped_at (at_stores asked.0) (slice_get target n) goal (sym (slice_get-map (at_stores asked.0) target n) ∙ there) in
    let clause = clause_at t.outputs n mapped.0 mapped.1 in
    record {
      name = clause.name;
      is_output = clause.is_output;
      asked = mapped.0;
      is_clause = clause.is_clause;
      stores = asked.0;
      is = mapped.2;
    }
