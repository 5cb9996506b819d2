-- The plan of a sketch by how it ends, where the sites are numbered one after the other.
use Rattle.sm_sketch.proofs.Imports.{◌+◌, ◌∙◌, ◌≤◌, ℕ, List, length, map, refl, sym, ap, subst, arith, map_push, take_all, Sorts, Tree, Formulas, AreFormsReady, forms_in, plan_in, roll-Plans, kept_by, choice_in, plans_from, sites_among, AreSomeReady, AreAllReady, AreNodesReady, plan_with, sites_of, numbered_sketch, sketch_in}
use Rattle.sm_sketch.specs.Sketches as tree
use Rattle.sm_sketch.specs.SketchViews.{Sketch}
use Rattle.sm_sketch.proofs.EndsPlanned.{rolled_plans, all_over, loop_planned, loop_sites, loop_few, loop_forms, loop_turns, loop_follows, loop_all_ready, next_plans, next_sites, some_at, all_more, block_planned, block_sites, block_inner}
use Rattle.sm_sketch.proofs.EndsPlanned.{block_after}
use Rattle.sm_sketch.proofs.SketchEnds.{sketches_are}
use Rattle.sm_sketch.proofs.PlansOfSketches.{last_ready, all_planned, all_ready, all_sites}
use Rattle.sm_sketch.proofs.planning.+planned.Goals as goal

pub planned-returns-clause-made : goal.planned-returns-clause-made
planned-returns-clause-made t c = λ sorts trees ready.
    let keep = kept_by (choice_in c.args.choice.now) in
    let s = c.args.sketch.now in
    all_planned sorts trees keep s _ c.args.site.now c.in_ok-straight.ensures
    (c.in_ok-last.ensures.made sorts trees (last_ready sorts trees keep s ready))

pub planned-returns-clause-ready : goal.planned-returns-clause-ready
planned-returns-clause-ready t c = λ sorts trees ready.
    let keep = kept_by (choice_in c.args.choice.now) in
    all_ready sorts trees keep _ (c.in_ok-last.ensures.ready sorts trees (last_ready sorts trees keep c.args.sketch.now ready))

pub planned-returns-clause-site : goal.planned-returns-clause-site
planned-returns-clause-site t c = λ sorts trees.
    c.in_ok-last.ensures.site sorts trees
    ∙ ap (λ (n : ℕ). c.args.site.now + n) (all_sites sorts trees (kept_by (choice_in c.args.choice.now)) c.args.sketch.now)

pub planned_end-returns-in_ok-after-in-Loop-clause-made : goal.planned_end-returns-in_ok-after-in-Loop-clause-made
planned_end-returns-in_ok-after-in-Loop-clause-made t c = λ sorts trees ready.
    let keep = kept_by (choice_in c.args.choice.now) in
    let s = c.args.last.now in
    let l = c.in-Loop in
    let k = c.next_kept.new.site in
    let m = c.planned_all.new.site in
    let kept =
    c.in_ok-keep-in-Loop.ensures.made sorts trees
    ∙ ap (λ (fs : Formulas). keep c.args.site.now (forms_in sorts trees fs.list.items)) c.deref-in-Loop.ensures in
    let each =
    c.in_ok-turns-in-Loop.ensures.made sorts trees (loop_turns sorts trees keep s l.set l.templates l.turns l.after l.is ready)
    ∙ ap (plans_from keep k) (all_over sorts trees keep l.turns) in
    let later =
    subst (λ (p : Sketch). AreNodesReady sorts trees (numbered_sketch p)) (sym c.deref-in-Loop-2.ensures)
    (loop_follows sorts trees keep s l.set l.templates l.turns l.after l.is ready) in
    let last =
    c.in_ok-after-in-Loop.ensures.made sorts trees later
    ∙ ap (λ (p : Sketch). plan_with keep m (sketch_in sorts trees p)) c.deref-in-Loop-2.ensures in
    let next =
    c.in_ok-turns-in-Loop.ensures.site sorts trees
    ∙ ap (λ (ps : List tree.Sketch). k + sites_among ps) (all_over sorts trees keep l.turns) in
    let plans = roll-Plans (record { list = c.in_ok-turns-in-Loop.turns }) in
    loop_planned sorts trees keep s _ l.set c.args.site.now k m l.templates c.in_ok-keep-in-Loop.keep l.turns l.after plans
    c.in_ok-after-in-Loop.after c.in_ok-turns-in-Loop.turns.items l.is refl (rolled_plans c.in_ok-turns-in-Loop.turns)
    (loop_few sorts trees keep s l.set l.templates l.turns l.after l.is ready) kept c.in_ok-keep-in-Loop.ensures.site each last next

pub planned_end-returns-in_ok-after-in-Loop-clause-ready : goal.planned_end-returns-in_ok-after-in-Loop-clause-ready
planned_end-returns-in_ok-after-in-Loop-clause-ready t c = λ sorts trees ready.
    let keep = kept_by (choice_in c.args.choice.now) in
    let s = c.args.last.now in
    let l = c.in-Loop in
    let forms =
    c.in_ok-keep-in-Loop.ensures.ready sorts trees
    (subst (λ (fs : Formulas). AreFormsReady sorts trees fs.list.items) (sym c.deref-in-Loop.ensures)
    (loop_forms sorts trees keep s l.set l.templates l.turns l.after l.is ready)) in
    let each =
    c.in_ok-turns-in-Loop.ensures.ready sorts trees (loop_turns sorts trees keep s l.set l.templates l.turns l.after l.is ready) in
    let later =
    c.in_ok-after-in-Loop.ensures.ready sorts trees
    (subst (λ (p : Sketch). AreNodesReady sorts trees (numbered_sketch p)) (sym c.deref-in-Loop-2.ensures)
    (loop_follows sorts trees keep s l.set l.templates l.turns l.after l.is ready)) in
    let plans = roll-Plans (record { list = c.in_ok-turns-in-Loop.turns }) in
    loop_all_ready sorts trees keep _ l.set c.in_ok-keep-in-Loop.keep plans c.in_ok-after-in-Loop.after
    c.in_ok-turns-in-Loop.turns.items refl (rolled_plans c.in_ok-turns-in-Loop.turns) forms each later

pub planned_end-returns-in_ok-after-in-Loop-clause-site : goal.planned_end-returns-in_ok-after-in-Loop-clause-site
planned_end-returns-in_ok-after-in-Loop-clause-site t c = λ sorts trees.
    let keep = kept_by (choice_in c.args.choice.now) in
    let l = c.in-Loop in
    let k = c.next_kept.new.site in
    let m = c.planned_all.new.site in
    let next =
    c.in_ok-turns-in-Loop.ensures.site sorts trees
    ∙ ap (λ (ps : List tree.Sketch). k + sites_among ps) (all_over sorts trees keep l.turns) in
    let last =
    c.in_ok-after-in-Loop.ensures.site sorts trees
    ∙ ap (λ (p : Sketch). m + length (sites_of (sketch_in sorts trees p))) c.deref-in-Loop-2.ensures in
    loop_sites sorts trees keep c.args.last.now l.set c.args.site.now k m _ l.templates l.turns l.after l.is
    c.in_ok-keep-in-Loop.ensures.site next last

pub planned_end-returns-in_ok-after-in-Block-clause-made : goal.planned_end-returns-in_ok-after-in-Block-clause-made
planned_end-returns-in_ok-after-in-Block-clause-made t c = λ sorts trees ready.
    let keep = kept_by (choice_in c.args.choice.now) in
    let s = c.args.last.now in
    let l = c.in-Block in
    let k = c.next_kept-in-Block.new.site in
    let m = c.boxed_plan-in-Block.new.site in
    let kept =
    c.in_ok-keep-in-Block.ensures.made sorts trees
    ∙ ap (λ (fs : Formulas). keep c.args.site.now (forms_in sorts trees fs.list.items)) c.deref-in-Block.ensures in
    let inside =
    subst (λ (p : Sketch). AreNodesReady sorts trees (numbered_sketch p)) (sym c.deref-in-Block-2.ensures)
    (block_inner sorts trees keep s l.k0 l.k1 l.k2 l.k3 l.templates l.inner l.after l.is ready) in
    let later =
    subst (λ (p : Sketch). AreNodesReady sorts trees (numbered_sketch p)) (sym c.deref-in-Block-3.ensures)
    (block_after sorts trees keep s l.k0 l.k1 l.k2 l.k3 l.templates l.inner l.after l.is ready) in
    let first =
    c.in_ok-inner-in-Block.ensures.made sorts trees inside
    ∙ ap (λ (p : Sketch). plan_with keep k (sketch_in sorts trees p)) c.deref-in-Block-2.ensures in
    let second =
    c.in_ok-after-in-Block.ensures.made sorts trees later
    ∙ ap (λ (p : Sketch). plan_with keep m (sketch_in sorts trees p)) c.deref-in-Block-3.ensures in
    let next =
    c.in_ok-inner-in-Block.ensures.site sorts trees
    ∙ ap (λ (p : Sketch). k + length (sites_of (sketch_in sorts trees p))) c.deref-in-Block-2.ensures in
    block_planned sorts trees keep s _ l.k0 l.k1 l.k2 l.k3 c.args.site.now k m l.templates c.in_ok-keep-in-Block.keep l.inner l.after
    c.in_ok-inner-in-Block.inner c.in_ok-after-in-Block.after l.is refl kept c.in_ok-keep-in-Block.ensures.site first second next

pub planned_end-returns-in_ok-after-in-Block-clause-site : goal.planned_end-returns-in_ok-after-in-Block-clause-site
planned_end-returns-in_ok-after-in-Block-clause-site t c = λ sorts trees.
    let keep = kept_by (choice_in c.args.choice.now) in
    let l = c.in-Block in
    let k = c.next_kept-in-Block.new.site in
    let m = c.boxed_plan-in-Block.new.site in
    let next =
    c.in_ok-inner-in-Block.ensures.site sorts trees
    ∙ ap (λ (p : Sketch). k + length (sites_of (sketch_in sorts trees p))) c.deref-in-Block-2.ensures in
    let last =
    c.in_ok-after-in-Block.ensures.site sorts trees
    ∙ ap (λ (p : Sketch). m + length (sites_of (sketch_in sorts trees p))) c.deref-in-Block-3.ensures in
    block_sites sorts trees keep c.args.last.now l.k0 l.k1 l.k2 l.k3 c.args.site.now k m _ l.templates l.inner l.after l.is
    c.in_ok-keep-in-Block.ensures.site next last

pub planned_all-loop-sketch-preserved : goal.planned_all-loop-sketch-preserved
planned_all-loop-sketch-preserved t c =
    let keep = kept_by (choice_in c.args.choice.now) in
    let items = c.deref-sketch-items.result.now in
    let i = c.loop-sketch.sketch-index in
    let s = c.sketch-item.result in
    let p = c.in_ok-planned.field-0 in
    let here : (sorts : Sorts) (trees : List Tree) → AreSomeReady sorts trees (map numbered_sketch items) →
    AreNodesReady sorts trees (numbered_sketch s) = λ sorts trees ready.
    subst (λ (x : Sketch). AreNodesReady sorts trees (numbered_sketch x)) (sym c.sketch-item.is)
    (some_at sorts trees keep items i s c.loop-sketch-test.true ready) in
    record {
      made = λ sorts trees ready.
          next_plans sorts trees keep items i c.args.site.now c.loop-sketch.site s (map (plan_in sorts trees) c.loop-sketch.list.items)
          (map (plan_in sorts trees) c.push.new.self.items) (plan_in sorts trees p) c.loop-sketch-test.true c.sketch-item.is
          (c.loop-sketch.invariant.site sorts trees) (c.loop-sketch.invariant.made sorts trees ready)
          (ap (map (plan_in sorts trees)) c.in_ok-push.ensures.items ∙ map_push (plan_in sorts trees) c.loop-sketch.list.items p)
          (c.in_ok-planned.ensures.made sorts trees (here sorts trees ready));
      ready = λ sorts trees ready.
          subst (AreAllReady sorts trees) (sym c.in_ok-push.ensures.items)
          (all_more sorts trees keep c.loop-sketch.list.items p (c.loop-sketch.invariant.ready sorts trees ready)
          (c.in_ok-planned.ensures.ready sorts trees (here sorts trees ready)));
      site = λ sorts trees.
          next_sites sorts trees keep items i c.args.site.now c.loop-sketch.site c.planned.new.site s c.loop-sketch-test.true
          c.sketch-item.is (c.loop-sketch.invariant.site sorts trees) (c.in_ok-planned.ensures.site sorts trees);
    }

pub planned_all-returns-clause-made : goal.planned_all-returns-clause-made
planned_all-returns-clause-made t c = λ sorts trees ready.
    let keep = kept_by (choice_in c.args.choice.now) in
    let items = c.deref-sketch-items.result.now in
    let all : length items ≤ c.loop-sketch.sketch-index = omega (arith, c.loop-sketch-test.false) in
    let whole = take_all c.loop-sketch.sketch-index items all ∙ c.deref-sketch-items.ensures.value in
    let are = sketches_are c.args.sketches.now ∙ ap (map numbered_sketch) (sym c.deref-sketch-items.ensures.value) in
    c.loop-sketch.invariant.made sorts trees (subst (AreSomeReady sorts trees) are ready)
    ∙ ap (λ (l : List Sketch). plans_from keep c.args.site.now (map (sketch_in sorts trees) l)) whole
    ∙ ap (plans_from keep c.args.site.now) (sym (all_over sorts trees keep c.args.sketches.now))

pub planned_all-returns-clause-ready : goal.planned_all-returns-clause-ready
planned_all-returns-clause-ready t c = λ sorts trees ready.
    let are = sketches_are c.args.sketches.now ∙ ap (map numbered_sketch) (sym c.deref-sketch-items.ensures.value) in
    c.loop-sketch.invariant.ready sorts trees (subst (AreSomeReady sorts trees) are ready)

pub planned_all-returns-clause-site : goal.planned_all-returns-clause-site
planned_all-returns-clause-site t c = λ sorts trees.
    let items = c.deref-sketch-items.result.now in
    let all : length items ≤ c.loop-sketch.sketch-index = omega (arith, c.loop-sketch-test.false) in
    let whole = take_all c.loop-sketch.sketch-index items all ∙ c.deref-sketch-items.ensures.value in
    c.loop-sketch.invariant.site sorts trees
    ∙ ap (λ (l : List Sketch). c.args.site.now + sites_among (map (sketch_in sorts trees) l)) whole
    ∙ ap (λ (ps : List tree.Sketch). c.args.site.now + sites_among ps)
    (sym (all_over sorts trees (kept_by (choice_in c.args.choice.now)) c.args.sketches.now))
