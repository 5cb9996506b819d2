-- The sketch is that of the task, or it is told why there is none.
use Rattle.sm_product.proofs.Imports.{◌∙◌, rules, parts_of}
use Rattle.sm_product.proofs.LargeTasks.{err_tells_task}
use Rattle.sm_product.proofs.counting.sites.Goals as goal

pub returns-in_err-sketch-clause-err : goal.returns-in_err-sketch-clause-err
returns-in_err-sketch-clause-err c =
    err_tells_task c.from_residual-in_err-sketch.result _ (parts_of c.args.task.now) (search rules) c.in_err-sketch.ensures.err

pub sites_within-requires-clause-declared : goal.sites_within-requires-clause-declared
sites_within-requires-clause-declared c = c.in_ok-sketch.ensures.widens.sorts ∙ c.in_ok-table.ensures.sorts
