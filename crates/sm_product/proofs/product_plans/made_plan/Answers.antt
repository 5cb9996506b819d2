-- The plan of the task's sketch, where that of all templates is small.
use Rattle.sm_product.proofs.Imports.{ap, ◌∙◌, rules, trees_in, sorts_in, parts_of, widens_twice, kept_by, plan_with, sketch_stays, sketch_ready, ProductError, TellsTask}
use Rattle.sm_sketch.specs.ChoiceViews.{choice_in}
use Rattle.sm_product.proofs.DrawnLemmas.{err_is}
use Rattle.sm_product.proofs.LargeTasks.{err_tells_task}
use Rattle.sm_product.proofs.product_plans.made_plan.Goals as goal

pub returns-in_err-sketch-clause-err : goal.returns-in_err-sketch-clause-err
returns-in_err-sketch-clause-err c =
    err_tells_task c.from_residual.result _ (parts_of c.args.task.now) (search rules) c.in_err-sketch.ensures.err

pub sites_within-requires-clause-declared : goal.sites_within-requires-clause-declared
sites_within-requires-clause-declared c = c.in_ok-sketch.ensures.widens.sorts ∙ c.requires.declared

pub returns-in_err-sites_within-clause-err : goal.returns-in_err-sites_within-clause-err
returns-in_err-sites_within-clause-err c =
    err_is (λ (e : ProductError). TellsTask e (parts_of c.args.task.now)) c.from_residual-in_err-sites_within.result
    c.in_err-sites_within.field-0.0 c.from_residual-in_err-sites_within.ensures.1 c.in_err-sites_within.ensures.err

pub returns-in_err-sites_within-clause-widens : goal.returns-in_err-sites_within-clause-widens
returns-in_err-sites_within-clause-widens c =
    widens_twice c.args.table.now c.sketch_of.new.table c.sites_within.new.table c.in_ok-sketch.ensures.widens c.in_err-sites_within.ensures.widens

pub returns-in_err-plan_with-clause-widens : goal.returns-in_err-plan_with-clause-widens
returns-in_err-plan_with-clause-widens c =
    widens_twice c.args.table.now c.sketch_of.new.table c.sites_within.new.table c.in_ok-sketch.ensures.widens c.in_ok-sites_within.ensures.widens

pub returns-clause-ok : goal.returns-clause-ok
returns-clause-ok c =
    let v = c.sketch_of.new.table in
    let w = c.sites_within.new.table in
    let s = c.in_ok-sketch.sketch in
    let ready = c.in_ok-sketch.ensures.ready in
    let wider = c.in_ok-sites_within.ensures.widens in
    c.in_ok-plan_with.ensures.made (sorts_in w) (trees_in w) (sketch_ready v w wider s ready)
    ∙ ap (plan_with (kept_by (choice_in c.args.choice.now)) 0) (sketch_stays v w wider s ready ∙ c.in_ok-sketch.ensures.ok)

pub returns-clause-ready : goal.returns-clause-ready
returns-clause-ready c =
    let v = c.sketch_of.new.table in
    let w = c.sites_within.new.table in
    c.in_ok-plan_with.ensures.ready (sorts_in w) (trees_in w)
    (sketch_ready v w c.in_ok-sites_within.ensures.widens c.in_ok-sketch.sketch c.in_ok-sketch.ensures.ready)

pub returns-clause-widens : goal.returns-clause-widens
returns-clause-widens c =
    widens_twice c.args.table.now c.sketch_of.new.table c.sites_within.new.table c.in_ok-sketch.ensures.widens c.in_ok-sites_within.ensures.widens
