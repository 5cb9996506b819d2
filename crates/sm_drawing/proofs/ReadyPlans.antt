-- A plan that keeps nothing is ready over each table: by how it ends, and by its turns.
use Rattle.sm_drawing.proofs.Imports.{◌≡◌, ℕ, List, [], ◌∷◌, ◌++◌, map, sym, ◌∙◌, subst, Sorts, Tree, NumberedPlan, Over, More, plans_before, IsKeepReady, IsPlanReady, ArePlansReady, simple_node, straight_before, last_layer, plan_layer, plans_layer, numbered_plan, numbered_last, Plan}
use Rattle.std.specs.Prelude.{Box, Vec}
use Rattle.std.specs.declared.alloc.Global.{Global}
use Rattle.sm_term.specs.declared.formula.Formula.TheVariants as formula
use Rattle.sm_expand.specs.declared.plan.Last.TheVariants as last
use Rattle.sm_expand.specs.declared.plan.Simple.TheVariants as simple
use Rattle.sm_expand.specs.declared.plan.Simple.{Simple}
use Rattle.sm_expand.specs.declared.plan.Plans.{Plans, roll-Plans, fold-Plans, fold-roll-Plans}
use Rattle.sm_expand.proofs.PlanViews.{plan_is, plans_are, last_fork, last_loop, last_dead, last_end}

-- plans over numbers of terms
abbrev pub plans_of : Plans → List NumberedPlan
plans_of = fold-Plans NumberedPlan NumberedPlan (List NumberedPlan) last_layer plan_layer plans_layer

-- plans that were put into a list
pub rolled_plans : (l : Vec Plan Global) → plans_of (roll-Plans (record { list = l })) ≡ map numbered_plan l.items
rolled_plans l = fold-roll-Plans NumberedPlan NumberedPlan (List NumberedPlan) last_layer plan_layer plans_layer (record { list = l })

module _ (sorts : Sorts) (trees : List Tree) where
  simple_ready : (s : Simple) → IsKeepReady sorts trees (simple_node s)
  simple_ready (simple.Step copy) = tt
  simple_ready (simple.Abs copy n) = tt

  straight_ready : (ss : List Simple) (q : NumberedPlan) → IsPlanReady sorts trees q → IsPlanReady sorts trees (straight_before ss q)
  straight_ready [] q r = r
  straight_ready (s ∷ ss) q r = (simple_ready s, (straight_ready ss q r, tt))

  -- a plan by its last node
  pub plan_ready : (p : Plan) → IsPlanReady sorts trees (numbered_last p.last) → IsPlanReady sorts trees (numbered_plan p)
  plan_ready p r = subst (IsPlanReady sorts trees) (sym (plan_is p)) (straight_ready p.straight.list.items (numbered_last p.last) r)

  -- a dead end
  pub dead_ready : IsPlanReady sorts trees (numbered_last last.Dead)
  dead_ready = subst (IsPlanReady sorts trees) (sym last_dead) (tt, tt)

  -- the end of all copies
  pub end_ready : IsPlanReady sorts trees (numbered_last last.End)
  end_ready = subst (IsPlanReady sorts trees) (sym last_end) (tt, tt)

  -- a fork of two such plans
  pub fork_ready : (copy : ℕ) (one other : Box Plan Global) → IsPlanReady sorts trees (numbered_plan one.value) →
      IsPlanReady sorts trees (numbered_plan other.value) → IsPlanReady sorts trees (numbered_last (last.Fork copy one other))
  fork_ready copy one other first second =
      subst (IsPlanReady sorts trees) (sym (last_fork copy one other)) (tt, (first, (second, tt)))

  -- one more turn
  pub turns_more : (ps : List Plan) (p : Plan) → ArePlansReady sorts trees (plans_before (map numbered_plan ps) Over) →
      IsPlanReady sorts trees (numbered_plan p) → ArePlansReady sorts trees (plans_before (map numbered_plan (ps ++ p ∷ [])) Over)
  turns_more [] p r last = (last, tt)
  turns_more (x ∷ ps) p r last = (r.0, turns_more ps p r.1 last)

  turns_then : (ps : List Plan) (q : NumberedPlan) → ArePlansReady sorts trees (plans_before (map numbered_plan ps) Over) →
      IsPlanReady sorts trees q → ArePlansReady sorts trees (plans_before (map numbered_plan ps) (More q Over))
  turns_then [] q r last = (last, tt)
  turns_then (p ∷ ps) q r last = (r.0, turns_then ps q r.1 last)

  -- loops over such plans, which keep nothing
  pub loop_ready : (set : ℕ) (turns : Vec Plan Global) (after : Box Plan Global) →
      ArePlansReady sorts trees (plans_before (map numbered_plan turns.items) Over) →
      IsPlanReady sorts trees (numbered_plan after.value) →
      IsPlanReady sorts trees (numbered_last (last.Loop set formula.Yes (roll-Plans (record { list = turns })) after))
  loop_ready set turns after each later =
      let plans = roll-Plans (record { list = turns }) in
      let are = sym (plans_are plans) ∙ rolled_plans turns in
      subst (IsPlanReady sorts trees) (sym (last_loop set formula.Yes plans after)) (
        (tt, tt),
        subst (λ (qs : List NumberedPlan). ArePlansReady sorts trees (plans_before qs (More (numbered_plan after.value) Over)))
            (sym are) (turns_then turns.items (numbered_plan after.value) each later),
      )
