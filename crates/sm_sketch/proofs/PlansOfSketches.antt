-- The plan of a sketch under a choice, by how the sketch ends.
use Rattle.sm_sketch.proofs.Imports.{◌≡◌, ℕ, ◌+◌, List, [], ◌∷◌, ◌++◌, length, reverse, refl, sym, ap, ◌∙◌, subst, arith, append-nil, reverse-append, Sorts, Assertion, Tree, NumberedPlan, At, plan_over, plans_over, plans_before, IsKeepReady, IsPlanReady, ArePlansReady, simple_node, straight_before, numbered_plan, numbered_last, plan_in, Simple, plan_is, Plain, NumberedSketch, Draw, Over, More, sketch_over, AreNodesReady, plan_with, sites_of, stacked, numbered_sketch, numbered_end, sketch_in}
use Rattle.sm_plan.specs.Plans as plan
use Rattle.sm_expand.specs.declared.plan.Plan as program
use Rattle.sm_expand.specs.declared.plan.Simple.TheVariants as simple
use Rattle.sm_expand.specs.NumberedPlans as numbers
use Rattle.sm_sketch.specs.SketchViews.{Sketch}
use Rattle.sm_sketch.proofs.SketchEnds.{sketch_is}

straight_more : (ss : List Simple) (s : Simple) (q : NumberedPlan) →
    straight_before (ss ++ s ∷ []) q ≡ straight_before ss (At (simple_node s) (numbers.More q numbers.Over))
straight_more [] s q = refl
straight_more (x ∷ ss) s q = ap (λ (p : NumberedPlan). At (simple_node x) (numbers.More p numbers.Over)) (straight_more ss s q)

turned : (ss : List Simple) (s : Simple) (q : NumberedPlan) →
    straight_before (reverse (s ∷ ss)) q ≡ straight_before (reverse ss) (At (simple_node s) (numbers.More q numbers.Over))
turned ss s q = ap (λ (l : List Simple). straight_before l q) (reverse-append (s ∷ []) ss) ∙ straight_more (reverse ss) s q

module _ (sorts : Sorts) (trees : List Tree) (keep : ℕ → List Assertion → Assertion) where
  -- simple nodes before an end
  below_simple : (s : Simple) (p : NumberedSketch) (q : NumberedPlan) (n : ℕ) →
      plan_over sorts trees q ≡ plan_with keep n (sketch_over sorts trees p) →
      plan_over sorts trees (At (simple_node s) (numbers.More q numbers.Over))
      ≡ plan_with keep n (sketch_over sorts trees (Draw (Plain (simple_node s)) (More p Over)))
  below_simple s p q n e =
      let same : n ≡ n + 0 = omega arith in
      (λ i. plan.At (numbers.node_over sorts trees (simple_node s)) (plan.More (e i) plan.Over))
      ∙ ap (λ (m : ℕ). plan.At (numbers.node_over sorts trees (simple_node s))
      (plan.More (plan_with keep m (sketch_over sorts trees p)) plan.Over)) same

  straight_planned : (ss : List Simple) (p : NumberedSketch) (q : NumberedPlan) (n : ℕ) →
      plan_over sorts trees q ≡ plan_with keep n (sketch_over sorts trees p) →
      plan_over sorts trees (straight_before (reverse ss) q) ≡ plan_with keep n (sketch_over sorts trees (stacked ss p))
  straight_planned [] p q n e = e
  straight_planned (s ∷ ss) p q n e =
      ap (plan_over sorts trees) (turned ss s q)
      ∙ straight_planned ss (Draw (Plain (simple_node s)) (More p Over)) (At (simple_node s) (numbers.More q numbers.Over)) n
      (below_simple s p q n e)

  straight_sites : (ss : List Simple) (p : NumberedSketch) →
      sites_of (sketch_over sorts trees (stacked ss p)) ≡ sites_of (sketch_over sorts trees p)
  straight_sites [] p = refl
  straight_sites (s ∷ ss) p =
      straight_sites ss (Draw (Plain (simple_node s)) (More p Over)) ∙ append-nil (sites_of (sketch_over sorts trees p))

  end_ready : (ss : List Simple) (p : NumberedSketch) → AreNodesReady sorts trees (stacked ss p) → AreNodesReady sorts trees p
  end_ready [] p r = r
  end_ready (s ∷ ss) p r = (end_ready ss (Draw (Plain (simple_node s)) (More p Over)) r).1.0

  simple_ready : (s : Simple) → IsKeepReady sorts trees (simple_node s)
  simple_ready (simple.Step copy) = tt
  simple_ready (simple.Abs copy n) = tt

  straight_ready : (ss : List Simple) (q : NumberedPlan) → IsPlanReady sorts trees q → IsPlanReady sorts trees (straight_before ss q)
  straight_ready [] q r = r
  straight_ready (s ∷ ss) q r = (simple_ready s, (straight_ready ss q r, tt))

  -- a whole sketch by its end
  pub last_ready : (s : Sketch) → AreNodesReady sorts trees (numbered_sketch s) → AreNodesReady sorts trees (numbered_end s.last)
  last_ready s r = end_ready s.straight.list.items (numbered_end s.last) (subst (AreNodesReady sorts trees) (sketch_is s) r)

  pub all_planned : (s : Sketch) (p : program.Plan) (n : ℕ) → p.straight.list.items ≡ reverse s.straight.list.items →
      plan_over sorts trees (numbered_last p.last) ≡ plan_with keep n (sketch_over sorts trees (numbered_end s.last)) →
      plan_in sorts trees p ≡ plan_with keep n (sketch_in sorts trees s)
  all_planned s p n items e =
      ap (plan_over sorts trees) (plan_is p)
      ∙ ap (λ (l : List Simple). plan_over sorts trees (straight_before l (numbered_last p.last))) items
      ∙ straight_planned s.straight.list.items (numbered_end s.last) (numbered_last p.last) n e
      ∙ ap (λ (q : NumberedSketch). plan_with keep n (sketch_over sorts trees q)) (sym (sketch_is s))

  pub all_ready : (p : program.Plan) → IsPlanReady sorts trees (numbered_last p.last) → IsPlanReady sorts trees (numbered_plan p)
  all_ready p r = subst (IsPlanReady sorts trees) (sym (plan_is p)) (straight_ready p.straight.list.items (numbered_last p.last) r)

  pub all_sites : (s : Sketch) →
      length (sites_of (sketch_over sorts trees (numbered_end s.last))) ≡ length (sites_of (sketch_in sorts trees s))
  all_sites s =
      ap (λ (l : List (List Assertion)). length l)
      (sym (ap (λ (q : NumberedSketch). sites_of (sketch_over sorts trees q)) (sketch_is s)
      ∙ straight_sites s.straight.list.items (numbered_end s.last)))
