use Rattle.std.proofs.Common.{rules}
use Rattle.sm_replies.proofs.ReadingsLemmas.{none_proposed}
use Rattle.sm_replies.proofs.suggesting.suggest_in.Goals as goal

pub returns-in_err-task-clause-exit_read : goal.returns-in_err-task-clause-exit_read
returns-in_err-task-clause-exit_read g c =
    let none =
    none_proposed c.args.name.now c.args.effort (g.H.Shelf.given c.args.shelf.now) (g.H.Shelf.given c.task_in.new.shelf)
    (g.H.Shelf.file c.args.shelf.now c.args.name.now) (g.H.Shelf.read_faults c.args.shelf.now)
    (g.H.Shelf.read_faults c.task_in.new.shelf) c.in_err-task.field-0.0 c.in_err-task.ensures.exit in
    search rules
