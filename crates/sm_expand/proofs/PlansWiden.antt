-- What waits, and what was asked, stay where the table has more behind.
use Rattle.sm_expand.proofs.Imports.{◌≡◌, ℕ, ◌≤◌, nat_le, if◌then◌else◌, List, [], ◌∷◌, ◌++◌, length, map, take, refl, sym, ap, ◌∙◌, subst, arith, Sorts, Assertion, NumberedFormula, assertion_in, IsFormulaWithin, Formula, IsFormSorted, TableValue, trees_in, sorts_in, ExtendsTable, set_of, forms_in, state_in, Waiting, NumberedNode, Step, Abs, Fork, Loop, Block, Dead, Ends, NumberedPlan, At, NumberedPlans, Over, More, node_over, plan_over, plans_over, IsKeepReady, IsPlanReady, ArePlansReady, numbered_at, dues_in, AreDuesReady, facts_of, waits_as, AreNested, IsWaitingReady, AreWaitingReady}
use Rattle.sm_plan.specs.Nodes as plain
use Rattle.sm_plan.specs.Plans as tree
use Rattle.sm_plan.proofs.TablesWiden as widened
use Rattle.sm_expand.specs.Views.{Due}

module _ (v w : TableValue) (wider : ExtendsTable v w) where
  -- kept formulas
  keep_stays : (keep : NumberedFormula) →
      IsFormulaWithin (length (trees_in v)) keep × IsFormSorted (sorts_in v) (assertion_in (sorts_in v) (trees_in v) keep) →
      IsFormulaWithin (length (trees_in w)) keep × IsFormSorted (sorts_in w) (assertion_in (sorts_in w) (trees_in w) keep)
  keep_stays keep r = (
    widened.within_stays v w wider keep r.0,
    subst (λ (s : Sorts). IsFormSorted s (assertion_in (sorts_in w) (trees_in w) keep)) (sym wider.sorts)
        (subst (IsFormSorted (sorts_in v)) (sym (widened.assertion_stays v w wider keep r.0)) r.1),
  )

  -- nodes
  node_stays : (n : NumberedNode) → IsKeepReady (sorts_in v) (trees_in v) n →
      node_over (sorts_in w) (trees_in w) n ≡ node_over (sorts_in v) (trees_in v) n
  node_stays (Step copy) r = refl
  node_stays (Abs copy n) r = refl
  node_stays (Fork copy) r = refl
  node_stays (Loop set keep) r =
      ap (λ (f : Assertion). if nat_le set 15 then plain.Loop (set_of set) f else plain.Unfit 4)
      (widened.assertion_stays v w wider keep r.0)
  node_stays (Block counts keep) r = ap (λ (f : Assertion). plain.Block counts f) (widened.assertion_stays v w wider keep r.0)
  node_stays Dead r = refl
  node_stays Ends r = refl

  node_ready : (n : NumberedNode) → IsKeepReady (sorts_in v) (trees_in v) n → IsKeepReady (sorts_in w) (trees_in w) n
  node_ready (Step copy) r = tt
  node_ready (Abs copy n) r = tt
  node_ready (Fork copy) r = tt
  node_ready (Loop set keep) r = keep_stays keep r
  node_ready (Block counts keep) r = keep_stays keep r
  node_ready Dead r = tt
  node_ready Ends r = tt

  -- plans
  mutual
    pub plan_stays : (p : NumberedPlan) → IsPlanReady (sorts_in v) (trees_in v) p →
        plan_over (sorts_in w) (trees_in w) p ≡ plan_over (sorts_in v) (trees_in v) p
    plan_stays (At node ps) r = λ i. tree.At (node_stays node r.0 i) (plans_stay ps r.1 i)

    pub plans_stay : (ps : NumberedPlans) → ArePlansReady (sorts_in v) (trees_in v) ps →
        plans_over (sorts_in w) (trees_in w) ps ≡ plans_over (sorts_in v) (trees_in v) ps
    plans_stay Over r = refl
    plans_stay (More p ps) r = λ i. tree.More (plan_stays p r.0 i) (plans_stay ps r.1 i)

  mutual
    pub plan_ready : (p : NumberedPlan) → IsPlanReady (sorts_in v) (trees_in v) p → IsPlanReady (sorts_in w) (trees_in w) p
    plan_ready (At node ps) r = (node_ready node r.0, plans_ready ps r.1)

    pub plans_ready : (ps : NumberedPlans) → ArePlansReady (sorts_in v) (trees_in v) ps → ArePlansReady (sorts_in w) (trees_in w) ps
    plans_ready Over r = tt
    plans_ready (More p ps) r = (plan_ready p r.0, plans_ready ps r.1)

  -- obligations
  pub dues_stay : (ds : List Due) → AreDuesReady (sorts_in v) (trees_in v) ds →
      dues_in (sorts_in w) (trees_in w) ds ≡ dues_in (sorts_in v) (trees_in v) ds
  dues_stay [] r = refl
  dues_stay (d ∷ ds) r =
      let facts = widened.forms_stay v w wider d.facts.list.items r.0 in
      let goals = widened.forms_stay v w wider d.targets.list.items r.1 in
      let rest = dues_stay ds r.2 in
      λ i. record { node = d.node; facts = facts i; goals = goals i; is_final = d.last } ∷ rest i

  pub dues_ready : (ds : List Due) → AreDuesReady (sorts_in v) (trees_in v) ds → AreDuesReady (sorts_in w) (trees_in w) ds
  dues_ready [] r = tt
  dues_ready (d ∷ ds) r =
      (widened.forms_ready v w wider d.facts.list.items r.0, widened.forms_ready v w wider d.targets.list.items r.1, dues_ready ds r.2)

  -- what waits, over a path whose first facts are those of another
  waits_stay : (path more : List Formula) (x : Waiting) →
      take x.shared (forms_in (sorts_in w) (trees_in w) more) ≡ take x.shared (forms_in (sorts_in v) (trees_in v) path) →
      IsWaitingReady (sorts_in v) (trees_in v) x → waits_as (sorts_in w) (trees_in w) more x ≡ waits_as (sorts_in v) (trees_in v) path x
  waits_stay path more x same r =
      let kept = widened.forms_stay v w wider x.kept.value.list.items r.kept in
      let own = widened.forms_stay v w wider x.more.list.items r.more in
      let facts : facts_of (sorts_in w) (trees_in w) more x ≡ facts_of (sorts_in v) (trees_in v) path x =
      λ i. same i ++ (kept i ++ own i) in
      let st = widened.state_stays v w wider (facts_of (sorts_in w) (trees_in w) more x) x.state r.state
      ∙ ap (λ (fs : List Assertion). state_in (sorts_in v) (trees_in v) fs x.state) facts in
      let p = plan_stays (numbered_at x.cursor) r.plan in
      λ i. (st i, p i)

  pub all_stay : (path more : List Formula) (most : ℕ) (ws : List Waiting) →
      ((n : ℕ) → n ≤ most → take n (forms_in (sorts_in w) (trees_in w) more) ≡ take n (forms_in (sorts_in v) (trees_in v) path)) →
      AreNested most ws → AreWaitingReady (sorts_in v) (trees_in v) ws →
      map (waits_as (sorts_in w) (trees_in w) more) ws ≡ map (waits_as (sorts_in v) (trees_in v) path) ws
  all_stay path more most [] same nested ready = refl
  all_stay path more most (x ∷ ws) same nested ready =
      let one = waits_stay path more x (same x.shared nested.0) ready.0 in
      let rest =
      all_stay path more x.shared ws (λ (n : ℕ) (h : n ≤ x.shared). let fits : n ≤ most =
      omega (arith, nested.0) in same n fits) nested.1 ready.1 in
      λ i. one i ∷ rest i

  waiting_ready : (x : Waiting) → IsWaitingReady (sorts_in v) (trees_in v) x → IsWaitingReady (sorts_in w) (trees_in w) x
  waiting_ready x r = record {
    state = widened.state_ready v w wider x.state r.state;
    kept = widened.forms_ready v w wider x.kept.value.list.items r.kept;
    more = widened.forms_ready v w wider x.more.list.items r.more;
    plan = plan_ready (numbered_at x.cursor) r.plan;
  }

  pub all_ready : (ws : List Waiting) → AreWaitingReady (sorts_in v) (trees_in v) ws → AreWaitingReady (sorts_in w) (trees_in w) ws
  all_ready [] r = tt
  all_ready (x ∷ ws) r = (waiting_ready x r.0, all_ready ws r.1)
