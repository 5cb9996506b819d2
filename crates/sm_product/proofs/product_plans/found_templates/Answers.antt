-- Those of one of the sites that are listed.
use Rattle.sm_product.proofs.Imports.{ap, ◌∙◌, rules, trees_in, sorts_in, parts_of, sites_of, sketch_of}
use Rattle.sm_sketch.proofs.SitesListed.{site_inside, one_ready}
use Rattle.sm_product.proofs.LargeTasks.{err_tells_task}
use Rattle.sm_product.proofs.product_plans.found_templates.Goals as goal

pub returns-in_err-sketch-clause-large : goal.returns-in_err-sketch-clause-large
returns-in_err-sketch-clause-large c =
    err_tells_task c.from_residual.result _ (parts_of c.args.task.now) (search rules) c.in_err-sketch.ensures.err

pub returns-clause-ready : goal.returns-clause-ready
returns-clause-ready c =
    let v = c.sketch_of.new.table in
    let l = c.in_ok-list.list.items in
    let all = sites_of (sketch_of (parts_of c.args.task.now)) in
    let inside =
    site_inside (sorts_in v) (trees_in v) l all c.args.site
    (c.in_ok-list.ensures.listed (sorts_in v) (trees_in v) ∙ ap sites_of c.in_ok-sketch.ensures.ok) c.requires.site in
    one_ready (sorts_in v) (trees_in v) l c.args.site c.swap_remove.result
    (c.in_ok-list.ensures.ready (sorts_in v) (trees_in v) c.in_ok-sketch.ensures.ready) inside c.swap_remove.ensures.value
