-- A node taken for the state that waits first.
use Rattle.sm_expand.proofs.Imports.{◌≡◌, ℕ, suc, ◌+◌, ◌≤◌, ◌<◌, ◌&&◌, Bool, Result, Ok, Err, List, [], ◌∷◌, ◌++◌, length, map, take, sym, ap, ◌∙◌, subst, arith, length-append, length-map, length-take-le, map-append, take_all, take-append-le, take-take, Vec, IfErr, IsErrAnd, Global, Sorts, Formula, Assertion, TableValue, trees_in, sorts_in, ExtendsTable, Tree, rule_of, is_end, Fault, Wrong, joined, due, count, size, sizes, expand, expand_all, AreFormsReady, AreSuccessorsReady, Successor, State, forms_in, state_in, successor_in, opened_in, Opened, PlanFault, Waiting, NumberedPlan, At, NumberedPlans, Over, More, node_over, plan_over, plans_over, head, below, list_of, IsPlanReady, ArePlansReady, numbered_at, dues_in, AreDuesReady, FaultTells, asked, expand_pairs, facts_of, waits_as, waits_with, outcome, AreNested, AreWaitingReady, IsReadyWith}
use Rattle.sm_plan.specs.Plans as plain
use Rattle.sm_plan.proofs.TablesWiden as widened
use Rattle.sm_expand.specs.declared.fault.PlanFault.TheVariants as fault
use Rattle.sm_expand.specs.Cursors.{Cursor}
use Rattle.sm_expand.specs.Views.{Due}
use Rattle.sm_expand.specs.Opens.{OpensAs}
use Rattle.sm_expand.specs.Walks.{weight}
use Rattle.sm_expand.proofs.PlansWiden.{plans_stay, plans_ready, dues_stay, all_stay, all_ready}
use Rattle.sm_expand.proofs.PairsLemmas.{joined_assoc, plan_is, counted, due_asked, fitting_expands, all_follow, heavier, below_weighs}

-- the path of a state
abbrev pub IsPathOf : List Formula → Waiting → List Formula → Type 0
IsPathOf path x more = (sorts : Sorts) (trees : List Tree) → forms_in sorts trees more ≡ facts_of sorts trees path x

pub forms_long : (sorts : Sorts) (trees : List Tree) (fs : List Formula) → length (forms_in sorts trees fs) ≡ length fs
forms_long sorts trees fs = length-map fs _

-- it has what the state shares
pub path_long : (sorts : Sorts) (trees : List Tree) (path : List Formula) (x : Waiting) (more : List Formula) → x.shared ≤ length path →
    forms_in sorts trees more ≡ facts_of sorts trees path x → x.shared ≤ length more
path_long sorts trees path x more fits is =
    let old = forms_in sorts trees path in
    let own = forms_in sorts trees x.kept.value.list.items ++ forms_in sorts trees x.more.list.items in
    let a = forms_long sorts trees more in
    let b = forms_long sorts trees path in
    let c = ap length is in
    let d = length-append (take x.shared old) own in
    let e : length (take x.shared old) ≡ x.shared = length-take-le x.shared old (omega arith) in
    omega arith

-- the path of a state begins with that of the others, as far as they share it
pub path_front : (sorts : Sorts) (trees : List Tree) (path : List Formula) (x : Waiting) (more : List Formula) → x.shared ≤ length path →
    forms_in sorts trees more ≡ facts_of sorts trees path x → (n : ℕ) → n ≤ x.shared →
    take n (forms_in sorts trees more) ≡ take n (forms_in sorts trees path)
path_front sorts trees path x more fits is n h =
    let old = forms_in sorts trees path in
    let own = forms_in sorts trees x.kept.value.list.items ++ forms_in sorts trees x.more.list.items in
    let b = forms_long sorts trees path in
    let e : length (take x.shared old) ≡ x.shared = length-take-le x.shared old (omega arith) in
    let short : n ≤ length (take x.shared old) = omega arith in
    ap (take n) is ∙ take-append-le n (take x.shared old) own short ∙ take-take n x.shared old h

whole : (sorts : Sorts) (trees : List Tree) (fs : List Formula) → take (length fs) (forms_in sorts trees fs) ≡ forms_in sorts trees fs
whole sorts trees fs = let a = forms_long sorts trees fs in let b : length (forms_in sorts trees fs) ≤ length fs =
    omega arith in take_all (length fs) (forms_in sorts trees fs) b

module _ (v w : TableValue) (wider : ExtendsTable v w) where
  -- what is asked and what waits then is what was to be expanded before
  pub taken : (k : ℕ) (x : Waiting) (path more : List Formula) (dues later : List Due) (ws new : List Waiting)
      (o : Opened × Vec Cursor Global)
      (last : Bool) → IsReadyWith v path dues (x ∷ ws) → IsPathOf path x more → AreFormsReady (sorts_in v) (trees_in v) more →
      OpensAs v w k x.state x.cursor o →
      last ≡ (is_end (node_over (sorts_in v) (trees_in v) (head (numbered_at x.cursor))) && x.state.is_final) →
      dues_in (sorts_in w) (trees_in w) later
      ≡ dues_in (sorts_in w) (trees_in w) dues
      ++ asked k (forms_in (sorts_in w) (trees_in w) more) last (forms_in (sorts_in w) (trees_in w) o.0.goals.list.items) →
      new ≡ waits_with (length more) o.0.states.items o.1.items ++ ws → outcome v dues k path (x ∷ ws) ≡ outcome w later (suc k) more new
  taken k x path more dues later ws new o last ready path_is forms opens last_is put waits =
      let vs = sorts_in v in
      let vt = trees_in v in
      let us = sorts_in w in
      let ut = trees_in w in
      let n = numbered_at x.cursor in
      let here = node_over vs vt (head n) in
      let facts = forms_in vs vt more in
      let st = state_in vs vt facts x.state in
      let ps = plans_over vs vt (below n) in
      let ss = o.0.states.items in
      let cs = o.1.items in
      let gs = forms_in us ut o.0.goals.list.items in
      let q = opened_in us ut facts o.0 in
      let wrong = Wrong k (rule_of here) in
      let whole_new = forms_in us ut more in
      let done = dues_in vs vt dues in
      let rest = map (waits_as vs vt path) ws in
      let stay : forms_in us ut more ≡ facts = widened.forms_stay v w wider more forms in
      let dues_same : dues_in us ut dues ≡ done = dues_stay v w wider dues ready.asked in
      let plans_same : plans_over us ut (below n) ≡ ps = plans_stay v w wider (below n) (plans_of n ready.waiting.0.plan) in
      let rest_same : map (waits_as us ut more) ws ≡ rest =
      all_stay v w wider path more x.shared ws
      (λ (m : ℕ) (h : m ≤ x.shared). ap (take m) stay ∙ path_front vs vt path x more ready.nested.0 (path_is vs vt) m h) ready.nested.1
      ready.waiting.1 in
      let many : count ps ≡ length q.states =
      counted vs vt (below n) ∙ ap length (sym opens.plans) ∙ length-map cs numbered_at ∙ sym opens.count
      ∙ sym (length-map ss (successor_in us ut facts)) in
      let all = λ (ds : List plain.Due) (fs : List Assertion) (qs : plain.Plans) (more_of : List (State × plain.Plan)).
      joined (Ok ds) (joined (joined (Ok (asked k fs last gs)) (expand_all wrong (suc k) (map (successor_in us ut fs) ss) qs))
      (expand_pairs (k + suc (sizes qs)) more_of)) in
      let first : outcome v dues k path (x ∷ ws) ≡ joined (Ok done) (joined (expand k st (plan_over vs vt n))
      (expand_pairs (k + size (plan_over vs vt n)) rest)) =
      ap (λ (fs : List Assertion). joined (Ok done) (joined (expand k (state_in vs vt fs x.state) (plan_over vs vt n))
      (expand_pairs (k + size (plan_over vs vt n)) rest))) (sym (path_is vs vt)) in
      let second : joined (Ok done) (joined (expand k st (plan_over vs vt n)) (expand_pairs (k + size (plan_over vs vt n)) rest))
      ≡ joined (Ok done) (joined (expand k st (plain.At here ps)) (expand_pairs (k + suc (sizes ps)) rest)) =
      ap (λ (p : plain.Plan). joined (Ok done) (joined (expand k st p) (expand_pairs (k + size p) rest))) (plan_is vs vt n) in
      let third : joined (Ok done) (joined (expand k st (plain.At here ps))
      (expand_pairs (k + suc (sizes ps)) rest)) ≡ all done facts ps rest =
      ap (λ (r : Result (List plain.Due) Fault). joined (Ok done) (joined r (expand_pairs (k + suc (sizes ps)) rest)))
      (fitting_expands k st here ps q (opens.opened facts) many
      ∙ ap (λ (ds : List plain.Due). joined (Ok ds) (expand_all wrong (suc k) q.states ps))
      (due_asked k st here gs ∙ ap (λ (b : Bool). asked k facts b gs) (sym last_is))) in
      let fourth : all done facts ps rest
      ≡ all (dues_in us ut dues) whole_new (plans_over us ut (below n)) (map (waits_as us ut more) ws) =
      sym (λ i. all (dues_same i) (stay i) (plans_same i) (rest_same i)) in
      let sum : k + suc (sizes (plans_over us ut (below n))) ≡ suc k + sizes (plans_over us ut (below n)) = omega arith in
      let asks = asked k whole_new last gs in
      let others = map (waits_as us ut more) ws in
      let below_all = expand_all wrong (suc k) (map (successor_in us ut whole_new) ss) (plans_over us ut (below n)) in
      let fifth : all (dues_in us ut dues) whole_new (plans_over us ut (below n)) others
      ≡ joined (Ok (dues_in us ut dues)) (joined (Ok asks) (expand_pairs (suc k) (map (waits_as us ut more) new))) =
      ap (joined (Ok (dues_in us ut dues)))
      (joined_assoc (Ok asks) below_all (expand_pairs (k + suc (sizes (plans_over us ut (below n)))) others)
      ∙ ap (λ (m : ℕ). joined (Ok asks) (joined below_all (expand_pairs m others))) sum
      ∙ ap (joined (Ok asks))
      (all_follow us ut more (whole us ut more) wrong ss cs (below n) (suc k) others opens.count opens.plans
      ∙ ap (expand_pairs (suc k)) (sym (map-append (waits_as us ut more) (waits_with (length more) ss cs) ws))
      ∙ ap (λ (xs : List Waiting). expand_pairs (suc k) (map (waits_as us ut more) xs)) (sym waits))) in
      first ∙ second ∙ third ∙ fourth ∙ fifth
      ∙ sym (joined_assoc (Ok (dues_in us ut dues)) (Ok asks) (expand_pairs (suc k) (map (waits_as us ut more) new)))
      ∙ ap (λ (ds : List plain.Due). joined (Ok ds) (expand_pairs (suc k) (map (waits_as us ut more) new))) (sym put)
    where
      plans_of : (n : NumberedPlan) → IsPlanReady (sorts_in v) (trees_in v) n → ArePlansReady (sorts_in v) (trees_in v) (below n)
      plans_of (At m ps) r = r.1

  -- all that waits then can be gone on from
  plans_of : (n : NumberedPlan) → IsPlanReady (sorts_in v) (trees_in v) n → ArePlansReady (sorts_in v) (trees_in v) (below n)
  plans_of (At m ps) r = r.1

  follow_ready : (n : ℕ) (ss : List Successor) (cs : List Cursor) (ps : NumberedPlans) (ws : List Waiting) → length ss ≡ length cs →
      map numbered_at cs ≡ list_of ps → AreSuccessorsReady (sorts_in w) (trees_in w) ss → ArePlansReady (sorts_in w) (trees_in w) ps →
      AreWaitingReady (sorts_in w) (trees_in w) ws → AreWaitingReady (sorts_in w) (trees_in w) (waits_with n ss cs ++ ws)
  follow_ready n [] cs ps ws h e ready plans all = all
  follow_ready n (s ∷ ss) [] ps ws h e ready plans all = absurd cc
  follow_ready n (s ∷ ss) (c ∷ cs) Over ws h e ready plans all = absurd cc
  follow_ready n (s ∷ ss) (c ∷ cs) (More p ps) ws h e ready plans all =
      let fewer : length ss ≡ length cs = omega arith in
      let one : numbered_at c ≡ p = cc in
      let others : map numbered_at cs ≡ list_of ps = cc in (
        record {
          state = ready.0.state;
          kept = ready.0.kept;
          more = ready.0.more;
          plan = subst (IsPlanReady (sorts_in w) (trees_in w)) (sym one) plans.0;
        },
        follow_ready n ss cs ps ws fewer others ready.1 plans.1 all,
      )

  pub taken_ready : (k : ℕ) (x : Waiting) (path more : List Formula) (dues later : List Due) (ws new : List Waiting)
      (o : Opened × Vec Cursor Global) →
      IsReadyWith v path dues (x ∷ ws) → IsPathOf path x more → AreFormsReady (sorts_in v) (trees_in v) more →
      OpensAs v w k x.state x.cursor o → AreDuesReady (sorts_in w) (trees_in w) later →
      new ≡ waits_with (length more) o.0.states.items o.1.items ++ ws → IsReadyWith w more later new
  taken_ready k x path more dues later ws new o ready path_is forms opens asks waits =
      let long = path_long (sorts_in v) (trees_in v) path x more ready.nested.0 (path_is (sorts_in v) (trees_in v)) in
      record {
        facts = widened.forms_ready v w wider more forms;
        asked = asks;
        waiting = subst (AreWaitingReady (sorts_in w) (trees_in w)) (sym waits)
            (follow_ready (length more) o.0.states.items o.1.items (below (numbered_at x.cursor)) ws opens.count opens.plans opens.states
            (plans_ready v w wider (below (numbered_at x.cursor)) (plans_of (numbered_at x.cursor) ready.waiting.0.plan))
            (all_ready v w wider ws ready.waiting.1));
        nested = subst (AreNested (length more)) (sym waits)
            (nested_with (length more) o.0.states.items o.1.items ws (nested_more x.shared (length more) long ws ready.nested.1));
      }
    where
      nested_more : (m n : ℕ) → m ≤ n → (ws : List Waiting) → AreNested m ws → AreNested n ws
      nested_more m n h [] nested = tt
      nested_more m n h (y ∷ ws) nested = (omega (arith, nested.0), nested.1)

      nested_with : (n : ℕ) (ss : List Successor) (cs : List Cursor) (ws : List Waiting) → AreNested n ws →
          AreNested n (waits_with n ss cs ++ ws)
      nested_with n [] cs ws nested = nested
      nested_with n (s ∷ ss) [] ws nested = nested
      nested_with n (s ∷ ss) (c ∷ cs) ws nested = (omega arith, nested_with n ss cs ws nested)

  -- fewer nodes wait
  pub taken_fewer : (k n : ℕ) (x : Waiting) (ws new : List Waiting) (o : Opened × Vec Cursor Global) → OpensAs v w k x.state x.cursor o →
      new ≡ waits_with n o.0.states.items o.1.items ++ ws → weight new < weight (x ∷ ws)
  taken_fewer k n x ws new o opens waits =
      let a : weight new ≡ weight (waits_with n o.0.states.items o.1.items) + weight ws =
      ap weight waits ∙ heavier (waits_with n o.0.states.items o.1.items) ws in
      let b = below_weighs n o.0.states.items o.1.items (numbered_at x.cursor) opens.count opens.plans in
      omega arith

-- a fault of what is joined between others
first_fails : (e : PlanFault) (ds : List plain.Due) (r later : Result (List plain.Due) Fault) → FaultTells e r →
    FaultTells e (joined (Ok ds) (joined r later))
first_fails (fault.Wrong number rule) ds r later h = ap (λ (x : Result (List plain.Due) Fault). joined (Ok ds) (joined x later)) h
first_fails fault.Deep ds r later h = ap (λ (x : Result (List plain.Due) Fault). joined (Ok ds) (joined x later)) h
first_fails fault.Memory ds r later h = tt

-- a node that fails, or want of memory
pub fails : (e : PlanFault) (v : TableValue) (k : ℕ) (x : Waiting) (path more : List Formula) (dues : List Due) (ws : List Waiting) →
    IsPathOf path x more →
    FaultTells e (expand k (state_in (sorts_in v) (trees_in v) (forms_in (sorts_in v) (trees_in v) more) x.state)
    (plan_over (sorts_in v) (trees_in v) (numbered_at x.cursor))) →
    FaultTells e (outcome v dues k path (x ∷ ws))
fails e v k x path more dues ws path_is tells =
    let p = plan_over (sorts_in v) (trees_in v) (numbered_at x.cursor) in
    first_fails e (dues_in (sorts_in v) (trees_in v) dues)
    (expand k (state_in (sorts_in v) (trees_in v) (facts_of (sorts_in v) (trees_in v) path x) x.state) p)
    (expand_pairs (k + size p) (map (waits_as (sorts_in v) (trees_in v) path) ws))
    (subst (λ (fs : List Assertion). FaultTells e (expand k (state_in (sorts_in v) (trees_in v) fs x.state) p)) (path_is (sorts_in v)
    (trees_in v)) tells)

-- a fault that is handed on
pub err_is : {T E : Type 0} (P : E → Type 0) (r : Result T E) (x : E) → IsErrAnd r (λ (e : E). e ≡ x) → P x → IfErr r P
err_is P (Ok t) x h p = tt
err_is P (Err e) x h p = subst P (sym h) p
