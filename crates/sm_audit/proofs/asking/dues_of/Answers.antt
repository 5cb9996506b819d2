-- A task has the parts of its tree.
use Rattle.sm_audit.proofs.Imports.{task_of, parts_of}
use Rattle.sm_audit.proofs.TaskParts.{has_parts}
use Rattle.sm_audit.proofs.asking.dues_of.Goals as goal

pub returns-clause-asked : goal.returns-clause-asked
returns-clause-asked c =
    let task = c.args.task.now in
    c.in_ok-dues.ensures.ok (task_of (parts_of task))
    (has_parts task c.args.programs.now c.as_ref-assumed.result c.requires.filled c.as_ref-assumed.ensures.value)
