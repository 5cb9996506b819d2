-- Plans whose kept formulas are ready, by how they end.
use Rattle.sm_audit.proofs.Imports.{◌≡◌, ℕ, ◌+◌, ◌<◌, List, [], ◌∷◌, map, drop, length, get_or, refl, sym, ap, ◌∙◌, subst, drop_more, Box, Global, Sorts, numbered, assertion_in, IsFormulaWithin, Formula, IsFormSorted, tree_sort, AreTreesSorted, tree_at, TermId, Tree, NumberedPlan, IsKeepReady, IsPlanReady, ArePlansReady, plans_before, simple_node, straight_before, numbered_plan, numbered_last}
use Rattle.sm_syntax.specs.declared.tree.Sort.TheVariants.{Num}
use Rattle.sm_term.specs.declared.formula.Formula.TheVariants as form
use Rattle.sm_expand.specs.declared.plan.Last.TheVariants as last
use Rattle.sm_expand.specs.declared.plan.Simple.TheVariants as simple
use Rattle.sm_expand.specs.NumberedPlans.{At, Over, More}
use Rattle.sm_expand.specs.declared.plan.Plan.{Plan}
use Rattle.sm_expand.specs.declared.plan.Simple.{Simple}
use Rattle.sm_expand.specs.declared.plan.Plans.{Plans, out-Plans}
use Rattle.sm_expand.proofs.PlanViews.{plan_is, last_fork, last_loop, last_block, last_dead, last_end}

module _ (sorts : Sorts) (trees : List Tree) where
  -- the formula is sorted
  abbrev pub IsSortedIn : Formula → Type 0
  IsSortedIn f = IsFormSorted sorts (assertion_in sorts trees (numbered f))

  module _ (all : AreTreesSorted sorts trees) (f : Formula) (t u : TermId) (left : t.0 < length trees) (right : u.0 < length trees) where
    -- an equation of terms of one sort
    pub equal_sorted : f ≡ form.Eq t u → tree_sort sorts (tree_at trees t.0) ≡ tree_sort sorts (tree_at trees u.0) → IsSortedIn f
    equal_sorted e same = subst IsSortedIn (sym e) ((all t.0 left, refl), (all u.0 right, sym same))

    -- its contrary
    pub unequal_sorted : f ≡ form.Ne t u → tree_sort sorts (tree_at trees t.0) ≡ tree_sort sorts (tree_at trees u.0) → IsSortedIn f
    unequal_sorted e same = subst IsSortedIn (sym e) ((all t.0 left, refl), (all u.0 right, sym same))

    -- a comparison of numbers
    pub at_most_sorted : f ≡ form.Le t u → tree_sort sorts (tree_at trees t.0) ≡ Num → tree_sort sorts (tree_at trees u.0) ≡ Num →
        IsSortedIn f
    at_most_sorted e one two = subst IsSortedIn (sym e) ((all t.0 left, one), (all u.0 right, two))

    -- a strict one
    pub below_sorted : f ≡ form.Lt t u → tree_sort sorts (tree_at trees t.0) ≡ Num → tree_sort sorts (tree_at trees u.0) ≡ Num →
        IsSortedIn f
    below_sorted e one two = subst IsSortedIn (sym e) ((all t.0 left, one), (all u.0 right, two))

  -- a simple node keeps nothing
  simple_ready : (s : Simple) → IsKeepReady sorts trees (simple_node s)
  simple_ready (simple.Step copy) = tt
  simple_ready (simple.Abs copy n) = tt

  straight_ready : (ss : List Simple) (p : NumberedPlan) → IsPlanReady sorts trees p → IsPlanReady sorts trees (straight_before ss p)
  straight_ready [] p r = r
  straight_ready (s ∷ ss) p r = (simple_ready s, (straight_ready ss p r, tt))

  ended : (p : Plan) (q : NumberedPlan) → numbered_last p.last ≡ q → IsPlanReady sorts trees q → IsPlanReady sorts trees (numbered_plan p)
  ended p q e r =
      subst (IsPlanReady sorts trees) (sym (plan_is p))
      (straight_ready p.straight.list.items (numbered_last p.last) (subst (IsPlanReady sorts trees) (sym e) r))

  -- plans before one more
  before_ready : (ps : List NumberedPlan) (q : NumberedPlan) → ArePlansReady sorts trees (plans_before ps Over) →
      IsPlanReady sorts trees q → ArePlansReady sorts trees (plans_before ps (More q Over))
  before_ready [] q all r = (r, tt)
  before_ready (p ∷ ps) q all r = (all.0, before_ready ps q all.1 r)

  -- by how a plan ends
  pub fork_ready : (p : Plan) (copy : ℕ) (one other : Box Plan Global) → p.last ≡ last.Fork copy one other →
      IsPlanReady sorts trees (numbered_plan one.value) → IsPlanReady sorts trees (numbered_plan other.value) →
      IsPlanReady sorts trees (numbered_plan p)
  fork_ready p copy one other e a b = ended p _ (ap numbered_last e ∙ last_fork copy one other) (tt, (a, (b, tt)))

  pub loop_ready : (p : Plan) (set : ℕ) (keep : Formula) (turns : Plans) (after : Box Plan Global) →
      p.last ≡ last.Loop set keep turns after → IsFormulaWithin (length trees) (numbered keep) → IsSortedIn keep →
      ArePlansReady sorts trees (plans_before (map numbered_plan (out-Plans turns).list.items) Over) →
      IsPlanReady sorts trees (numbered_plan after.value) → IsPlanReady sorts trees (numbered_plan p)
  loop_ready p set keep turns after e within sorted all r =
      ended p _ (ap numbered_last e ∙ last_loop set keep turns after)
      ((within, sorted), before_ready (map numbered_plan (out-Plans turns).list.items) (numbered_plan after.value) all r)

  pub block_ready : (p : Plan) (k0 k1 k2 k3 : ℕ) (keep : Formula) (inner after : Box Plan Global) →
      p.last ≡ last.Block k0 k1 k2 k3 keep inner after → IsFormulaWithin (length trees) (numbered keep) → IsSortedIn keep →
      IsPlanReady sorts trees (numbered_plan inner.value) → IsPlanReady sorts trees (numbered_plan after.value) →
      IsPlanReady sorts trees (numbered_plan p)
  block_ready p k0 k1 k2 k3 keep inner after e within sorted a b =
      ended p _ (ap numbered_last e ∙ last_block k0 k1 k2 k3 keep inner after) ((within, sorted), (a, (b, tt)))

  pub dead_ready : (p : Plan) → p.last ≡ last.Dead → IsPlanReady sorts trees (numbered_plan p)
  dead_ready p e = ended p _ (ap numbered_last e ∙ last_dead) (tt, tt)

  pub end_ready : (p : Plan) → p.last ≡ last.End → IsPlanReady sorts trees (numbered_plan p)
  end_ready p e = ended p _ (ap numbered_last e ∙ last_end) (tt, tt)

  -- a plan and those behind it
  abbrev pub AreListReady : List Plan → Type 0
  AreListReady ps = ArePlansReady sorts trees (plans_before (map numbered_plan ps) Over)

  pub plan_before : (ps : List Plan) (i : ℕ) (d : Plan) → i < length ps → IsPlanReady sorts trees (numbered_plan (get_or ps i d)) →
      AreListReady (drop (i + 1) ps) → AreListReady (drop i ps)
  plan_before ps i d less one rest = subst AreListReady (sym (drop_more ps i d less)) (one, rest)
