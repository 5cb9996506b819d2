use Rattle.sm_product.proofs.Imports.{task_of, parts_of}
use Rattle.sm_product.proofs.TaskParts.{has_parts}
use Rattle.sm_product.proofs.asking.obligations_of.Goals as goal

pub returns-clause-ok : goal.returns-clause-ok
returns-clause-ok c =
    let task = c.args.task.now in
    c.expand.ensures.ok (task_of (parts_of task))
    (has_parts task c.args.programs.now c.as_ref-assumed.result c.requires.filled c.as_ref-assumed.ensures.value)

pub returns-clause-err : goal.returns-clause-err
returns-clause-err c =
    let task = c.args.task.now in
    c.expand.ensures.err (task_of (parts_of task))
    (has_parts task c.args.programs.now c.as_ref-assumed.result c.requires.filled c.as_ref-assumed.ensures.value)
