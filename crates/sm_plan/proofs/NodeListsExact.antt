-- Plans and lists of nodes: the nodes of a plan prove what it proves, and nodes that prove a task's start are a plan's.
use Rattle.sm_plan.proofs.Imports.{◌≡◌, ◌≤◌, ℕ, suc, ◌+◌, ◌==◌, Bool, true, false, if◌then◌else◌, max, Some, Result, Ok, Err, List, [], ◌∷◌, ◌++◌, length, refl, ap, sym, ◌∙◌, subst, arith, nat_tests, Task, Assertion, State, start_state, Node, opened_by, rule_of, is_branching, Plan, At, Plans, More, size, sizes, count, nodes_of, all_nodes, branches, most_branches, IsFresh, AreFresh, Due, Fault, Wrong, Deep, due, joined, expand, expand_all, obligations, AllValid, AllDischarged, Pending, above_opened, pending_states, states_of, NodesProve, start_pending}
use Rattle.std.proofs.Common.{eq-eqb}
use Rattle.std.proofs.lemmas.List.{append_assoc, append-nil}
use Rattle.sm_plan.specs.Limits.{is_shallow}
use Rattle.sm_plan.specs.Nodes.{Opened}
use Rattle.sm_plan.specs.Plans.{Over}
use Rattle.sm_plan.proofs.PlanSound.{opened_is, passed, joined_is, parts_discharged, due_valid, shallow, states-pending}

-- few enough branching nodes
pub is_few : (n : ℕ) → n ≤ 1000 → is_shallow n ≡ true
unfolding is_shallow
is_few n few = grind (arith, nat_tests)

-- a number of branching nodes that passes the test is at most 1,000
pub few_is : (n : ℕ) → is_shallow n ≡ true → n ≤ 1000
unfolding is_shallow
few_is n h = grind (arith, nat_tests)

-- a node's own branching counts above what it opens
pub counts_above : (b : Bool) (above most : ℕ) → above + (if b then suc most else most) ≤ 1000 → (if b then suc above else above) + most ≤ 1000
counts_above true above most few = omega (arith, few)
counts_above false above most few = omega (arith, few)

-- branching nodes are few with a node counted among them, where they are with it counted above
counts_below : (b : Bool) (above most : ℕ) → (if b then suc above else above) + most ≤ 1000 → above + (if b then suc most else most) ≤ 1000
counts_below true above most few = omega (arith, few)
counts_below false above most few = omega (arith, few)

-- either of two that are few
pub first_few : (above a b : ℕ) → above + max a b ≤ 1000 → above + a ≤ 1000
first_few above a b few = omega (arith, few)

pub second_few : (above a b : ℕ) → above + max a b ≤ 1000 → above + b ≤ 1000
second_few above a b few = omega (arith, few)

-- both
both_few : (above a b : ℕ) → above + a ≤ 1000 → above + b ≤ 1000 → above + max a b ≤ 1000
both_few above a b first second = omega (arith, first, second)

mutual
  -- the nodes of a plan take its state off the pending ones
  plan_proves : (p : Plan) (k above : ℕ) (st : State) (ds : List Due) (pending : List Pending) (rest : List Node)
      → above + branches p ≤ 1000 → IsFresh k p → expand k st p ≡ Ok ds →
      AllDischarged ds → NodesProve (k + size p) pending rest
      → NodesProve k (record { state = st; above = above } ∷ pending) (nodes_of p ++ rest)
  plan_proves (At node ps) k above st ds pending rest few fresh e all later =
      let w = Wrong k (rule_of node) in
      let o = opened_is (opened_by k st node) w
      (λ (q : Opened). if count ps == length q.states then joined (Ok (due k st node q.goals))
      (expand_all w (suc k) q.states ps) else Err w) ds e in
      let q = o.0 in
      let parts = joined_is (Ok (due k st node q.goals)) (expand_all w (suc k) q.states ps) ds
      (passed (count ps == length q.states) (joined (Ok (due k st node q.goals)) (expand_all w (suc k) q.states ps)) w ds o.2) in
      let both = parts_discharged parts.0 parts.1 ds parts.4 all in
      let here : parts.0 ≡ due k st node q.goals = let f = parts.2 in cc in
      let next : NodesProve (suc k + sizes ps) pending rest = subst (λ (j : ℕ). NodesProve j pending rest) (omega arith) later in
      let room : above_opened node above + most_branches ps ≤ 1000 = counts_above (is_branching node) above (most_branches ps) few in (
        q,
        o.1,
        is_few (above_opened node above) (omega (arith, room)),
        fresh.0,
        due_valid k st node q.goals (subst AllDischarged here both.0),
        plans_prove ps w (suc k) (above_opened node above) q.states parts.1 pending rest room fresh.1 parts.3 both.1 next,
      )

  -- the nodes of plans take their states off the pending ones
  plans_prove : (ps : Plans) (w : Fault) (k above : ℕ) (sts : List State) (ds : List Due) (pending : List Pending) (rest : List Node)
      → above + most_branches ps ≤ 1000 → AreFresh k ps →
      expand_all w k sts ps ≡ Ok ds → AllDischarged ds → NodesProve (k + sizes ps) pending rest
      → NodesProve k (pending_states above sts ++ pending) (all_nodes ps ++ rest)
  plans_prove Over w k above [] ds pending rest few fresh e all later = subst (λ (j : ℕ). NodesProve j pending rest) (omega arith) later
  plans_prove Over w k above (st ∷ sts) ds pending rest few fresh e all later = absurd cc
  plans_prove (More p ps) w k above [] ds pending rest few fresh e all later = absurd cc
  plans_prove (More p ps) w k above (st ∷ sts) ds pending rest few fresh e all later =
      let parts = joined_is (expand k st p) (expand_all w (k + size p) sts ps) ds e in
      let both = parts_discharged parts.0 parts.1 ds parts.4 all in
      let last : NodesProve ((k + size p) + sizes ps) pending rest = subst (λ (j : ℕ). NodesProve j pending rest) (omega arith) later in
      subst (λ (l : List Node). NodesProve k (record { state = st; above = above } ∷ (pending_states above sts ++ pending)) l)
      (sym (append_assoc (nodes_of p) (all_nodes ps) rest))
      (plan_proves p k above st parts.0 (pending_states above sts ++ pending) (all_nodes ps ++ rest)
      (first_few above (branches p) (most_branches ps) few) fresh.0 parts.2 both.0
      (plans_prove ps w (k + size p) above sts parts.1 pending rest
      (second_few above (branches p) (most_branches ps) few) fresh.1 parts.3 both.1 last))

-- some fault, where none comes
abbrev any_fault : Fault
any_fault = Wrong 0 0

-- where there are obligations, the fault doesn't count
expands_with : (ps : Plans) (v w : Fault) (k : ℕ) (states : List State) (ds : List Due) → expand_all v k states ps ≡ Ok ds
    → expand_all w k states ps ≡ Ok ds
expands_with Over v w k [] ds e = e
expands_with Over v w k (st ∷ states) ds e = absurd cc
expands_with (More p ps) v w k [] ds e = absurd cc
expands_with (More p ps) v w k (st ∷ states) ds e =
    let parts = joined_is (expand k st p) (expand_all v (k + size p) states ps) ds e in
    let later = expands_with ps v w (k + size p) states parts.1 parts.3 in
    let both : parts.0 ++ parts.1 ≡ ds = parts.4 in
    rw (parts.2, later) (ap (λ (l : List Due). Ok l) both)

-- the obligations of both
both_ok : (r s : Result (List Due) Fault) (a b : List Due) → r ≡ Ok a → s ≡ Ok b → joined r s ≡ Ok (a ++ b)
both_ok r s a b first second = rw (first, second) refl

-- obligations that are discharged, one after the other
discharged_append : (a b : List Due) → AllDischarged a → AllDischarged b → AllDischarged (a ++ b)
discharged_append [] b first second = second
discharged_append (d ∷ a) b first second = (first.0, discharged_append a b first.1 second)

-- valid goals of a node
valid_due : (k : ℕ) (st : State) (node : Node) (goals : List Assertion) → AllValid st.facts goals → AllDischarged (due k st node goals)
valid_due k st node [] valid = tt
valid_due k st node (g ∷ gs) valid = (valid, tt)

-- plans of which none branches too often after its state
abbrev AreShallow : List Pending → Plans → Type 0
AreShallow [] ps = Unit {0}
AreShallow (w ∷ pending) Over = Unit {0}
AreShallow (w ∷ pending) (More p ps) = (w.above + branches p ≤ 1000) × AreShallow pending ps

-- plans for the pending states, with these nodes
record Grown (k : ℕ) (pending : List Pending) (nodes : List Node) : Type 0 where
  plans : Plans
  dues : List Due
  same : all_nodes plans ≡ nodes
  shallow : AreShallow pending plans
  fresh : AreFresh k plans
  expands : expand_all any_fault k (states_of pending) plans ≡ Ok dues
  discharged : AllDischarged dues

-- plans for states that were opened and for those that wait after them, cut there
record Cut (k above : ℕ) (first : List State) (second : List Pending) (nodes : List Node) : Type 0 where
  front : Plans
  back : Plans
  front_dues : List Due
  back_dues : List Due
  same : all_nodes front ++ all_nodes back ≡ nodes
  front_shallow : above + most_branches front ≤ 1000
  back_shallow : AreShallow second back
  front_fresh : AreFresh k front
  back_fresh : AreFresh (k + sizes front) back
  front_expands : expand_all any_fault k first front ≡ Ok front_dues
  back_expands : expand_all any_fault (k + sizes front) (states_of second) back ≡ Ok back_dues
  front_discharged : AllDischarged front_dues
  back_discharged : AllDischarged back_dues
  counted : count front ≡ length first

-- they can be cut
cut : (first : List State) (second : List Pending) (k above : ℕ) (ps : Plans) (ds : List Due) → above ≤ 1000
    → AreShallow (pending_states above first ++ second) ps → AreFresh k ps →
    expand_all any_fault k (first ++ states_of second) ps ≡ Ok ds → AllDischarged ds → Cut k above first second (all_nodes ps)
cut [] second k above ps ds few under fresh e all =
    let same : k ≡ k + 0 = omega arith in
    record {
      front = Over;
      back = ps;
      front_dues = [];
      back_dues = ds;
      same = refl;
      front_shallow = omega (arith, few);
      back_shallow = under;
      front_fresh = tt;
      back_fresh = subst (λ (j : ℕ). AreFresh j ps) same fresh;
      front_expands = refl;
      back_expands = subst (λ (j : ℕ). expand_all any_fault j (states_of second) ps ≡ Ok ds) same e;
      front_discharged = tt;
      back_discharged = all;
      counted = refl;
    }
cut (st ∷ first) second k above Over ds few under fresh e all = absurd cc
cut (st ∷ first) second k above (More p ps) ds few under fresh e all =
    let parts = joined_is (expand k st p) (expand_all any_fault (k + size p) (first ++ states_of second) ps) ds e in
    let both = parts_discharged parts.0 parts.1 ds parts.4 all in
    let c = cut first second (k + size p) above ps parts.1 few under.1 fresh.1 parts.3 both.1 in
    let far : (k + size p) + sizes c.front ≡ k + (size p + sizes c.front) = omega arith in
    record {
      front = More p c.front;
      back = c.back;
      front_dues = parts.0 ++ c.front_dues;
      back_dues = c.back_dues;
      same = append_assoc (nodes_of p) (all_nodes c.front) (all_nodes c.back) ∙ ap (λ (l : List Node). nodes_of p ++ l) c.same;
      front_shallow = both_few above (branches p) (most_branches c.front) under.0 c.front_shallow;
      back_shallow = c.back_shallow;
      front_fresh = (fresh.0, c.front_fresh);
      back_fresh = subst (λ (j : ℕ). AreFresh j c.back) far c.back_fresh;
      front_expands =
          both_ok (expand k st p) (expand_all any_fault (k + size p) first c.front) parts.0 c.front_dues parts.2 c.front_expands;
      back_expands = subst (λ (j : ℕ). expand_all any_fault j (states_of second) c.back ≡ Ok c.back_dues) far c.back_expands;
      front_discharged = discharged_append parts.0 c.front_dues both.0 c.front_discharged;
      back_discharged = c.back_discharged;
      counted = ap suc c.counted;
    }

-- a node with plans for what it opens
at_expands : (k : ℕ) (st : State) (node : Node) (ps : Plans) (q : Opened) (ds : List Due) → opened_by k st node ≡ Some q
    → count ps ≡ length q.states →
    expand_all any_fault (suc k) q.states ps ≡ Ok ds → expand k st (At node ps) ≡ Ok (due k st node q.goals ++ ds)
at_expands k st node ps q ds is counted e =
    let w = Wrong k (rule_of node) in
    let later = expands_with ps any_fault w (suc k) q.states ds e in
    let same = eq-eqb (count ps) (length q.states) counted in
    rw (is, same, later) refl

-- plans grow from the last node back
grow : (nodes : List Node) (k : ℕ) (pending : List Pending) → NodesProve k pending nodes → Grown k pending nodes
grow [] k [] h = record { plans = Over; dues = []; same = refl; shallow = tt; fresh = tt; expands = refl; discharged = tt }
grow [] k (p ∷ pending) h = elim h [ ]
grow (node ∷ nodes) k [] h = elim h [ ]
grow (node ∷ nodes) k (p ∷ pending) h =
    let q = h.0 in
    let above = above_opened node p.above in
    let rest = states_of pending in
    let g = grow nodes (suc k) (pending_states above q.states ++ pending) h.5 in
    let there =
    subst (λ (l : List State). expand_all any_fault (suc k) l g.plans ≡ Ok g.dues) (states-pending above q.states pending) g.expands in
    let c = cut q.states pending (suc k) above g.plans g.dues (few_is above h.2) g.shallow g.fresh there g.discharged in
    let far : suc k + sizes c.front ≡ k + suc (sizes c.front) = omega arith in
    let here = at_expands k p.state node c.front q c.front_dues h.1 c.counted c.front_expands in
    let others : expand_all any_fault (k + suc (sizes c.front)) rest c.back ≡ Ok c.back_dues =
    subst (λ (j : ℕ). expand_all any_fault j rest c.back ≡ Ok c.back_dues) far c.back_expands in
    record {
      plans = More (At node c.front) c.back;
      dues = (due k p.state node q.goals ++ c.front_dues) ++ c.back_dues;
      same = ap (λ (l : List Node). node ∷ l) (c.same ∙ g.same);
      shallow = (counts_below (is_branching node) p.above (most_branches c.front) c.front_shallow, c.back_shallow);
      fresh = ((h.3, c.front_fresh), subst (λ (j : ℕ). AreFresh j c.back) far c.back_fresh);
      expands = rw (here, others) refl;
      discharged =
          discharged_append (due k p.state node q.goals ++ c.front_dues) c.back_dues
          (discharged_append (due k p.state node q.goals) c.front_dues (valid_due k p.state node q.goals h.4) c.front_discharged)
          c.back_discharged;
    }

-- a plan for one state
one_plan : (k : ℕ) (w : Pending) (nodes : List Node) (ps : Plans) (ds : List Due) → all_nodes ps ≡ nodes → AreShallow (w ∷ []) ps
    → AreFresh k ps → expand_all any_fault k (w.state ∷ []) ps ≡ Ok ds →
    AllDischarged ds → (p : Plan) × (es : List Due) × (nodes_of p ≡ nodes) × (w.above + branches p ≤ 1000) × IsFresh k p ×
    (expand k w.state p ≡ Ok es) × AllDischarged es
one_plan k w nodes Over ds same under fresh e all = absurd cc
one_plan k w nodes (More p Over) ds same under fresh e all =
    let parts = joined_is (expand k w.state p) (Ok []) ds e in
    (p, parts.0, sym (append-nil (nodes_of p)) ∙ same, under.0, fresh.0, parts.2, (parts_discharged parts.0 parts.1 ds parts.4 all).0)
one_plan k w nodes (More p (More r ps)) ds same under fresh e all =
    let parts = joined_is (expand k w.state p) (Err any_fault) ds e in
    let f = parts.3 in
    absurd cc

-- nodes that prove the start of a task are those of a plan whose obligations hold
pub nodes_are_plan : (t : Task) (nodes : List Node) → NodesProve 0 (start_pending t) nodes →
    (p : Plan) × (ds : List Due) × (nodes_of p ≡ nodes) × IsFresh 0 p × (obligations t p ≡ Ok ds) × AllDischarged ds
nodes_are_plan t nodes h =
    let g = grow nodes 0 (start_pending t) h in
    let one =
    one_plan 0 (record { state = start_state t; above = 0 }) nodes g.plans g.dues g.same g.shallow g.fresh g.expands g.discharged in
    let p = one.0 in
    let few = is_few (branches p) (omega (arith, one.3)) in
    (p, one.1, one.2, one.4, ap (λ (b : Bool). if b then expand 0 (start_state t) p else Err Deep) few ∙ one.5, one.6)

-- a test that passed
pub test_passed : (b : Bool) (r : Result (List Due) Fault) (ds : List Due) → (if b then r else Err Deep) ≡ Ok ds → b ≡ true
test_passed true r ds e = refl
test_passed false r ds e = absurd cc

-- the nodes of a fresh plan whose obligations hold prove the start of its task
pub plan_nodes_prove : (t : Task) (p : Plan) (ds : List Due) → IsFresh 0 p → obligations t p ≡ Ok ds → AllDischarged ds
    → NodesProve 0 (start_pending t) (nodes_of p)
plan_nodes_prove t p ds fresh e all =
    let expands = shallow (is_shallow (branches p)) (expand 0 (start_state t) p) ds e in
    let few = few_is (branches p) (test_passed (is_shallow (branches p)) (expand 0 (start_state t) p) ds e) in
    subst (λ (l : List Node). NodesProve 0 (start_pending t) l) (append-nil (nodes_of p))
    (plan_proves p 0 0 (start_state t) ds [] [] (omega (arith, few)) fresh expands all tt)
