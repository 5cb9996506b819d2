use Rattle.sm_display.proofs.Imports.{rules, parts_of, replayed_read}
use Rattle.sm_display.proofs.Explained.{explained_by, none_explained}
use Rattle.sm_display.proofs.explaining.explain_run.Goals as goal

pub returns-clause-ok : goal.returns-clause-ok
returns-clause-ok g c =
    (explained_by (g.H.Shelf.file c.args.shelf.now c.args.name.now) (g.H.Shelf.file c.args.shelf.now c.args.input.now)
    (g.H.Shelf.file c.shown_task_in.new.shelf c.args.input.now) c.args.turns (g.H.Shelf.read_faults c.args.shelf.now)
    (g.H.Shelf.read_faults c.shown_task_in.new.shelf) (g.H.Shelf.read_faults c.explain_task.new.shelf) (parts_of c.in_ok-task.task)
    c.in_ok-task.ensures.ok
    (c.in_ok-task.ensures.same c.args.input.now) c.explain_task.result c.explain_task.ensures.ok c.explain_task.ensures.exit).0

pub returns-clause-exit : goal.returns-clause-exit
returns-clause-exit g c =
    (explained_by (g.H.Shelf.file c.args.shelf.now c.args.name.now) (g.H.Shelf.file c.args.shelf.now c.args.input.now)
    (g.H.Shelf.file c.shown_task_in.new.shelf c.args.input.now) c.args.turns (g.H.Shelf.read_faults c.args.shelf.now)
    (g.H.Shelf.read_faults c.shown_task_in.new.shelf) (g.H.Shelf.read_faults c.explain_task.new.shelf) (parts_of c.in_ok-task.task)
    c.in_ok-task.ensures.ok
    (c.in_ok-task.ensures.same c.args.input.now) c.explain_task.result c.explain_task.ensures.ok c.explain_task.ensures.exit).1

pub returns-clause-read : goal.returns-clause-read
returns-clause-read g c =
    (replayed_read c.args.name.now c.args.input.now c.args.turns (g.H.Shelf.given c.args.shelf.now) (g.H.Shelf.given c.shown_task_in.new.shelf)
    (g.H.Shelf.given c.explain_task.new.shelf) (parts_of c.in_ok-task.task) c.in_ok-task.ensures.read c.explain_task.result
    c.explain_task.ensures.read c.explain_task.ensures.exit_read).0

pub returns-clause-exit_read : goal.returns-clause-exit_read
returns-clause-exit_read g c =
    (replayed_read c.args.name.now c.args.input.now c.args.turns (g.H.Shelf.given c.args.shelf.now) (g.H.Shelf.given c.shown_task_in.new.shelf)
    (g.H.Shelf.given c.explain_task.new.shelf) (parts_of c.in_ok-task.task) c.in_ok-task.ensures.read c.explain_task.result
    c.explain_task.ensures.read c.explain_task.ensures.exit_read).1

pub returns-in_err-task-clause-exit_read : goal.returns-in_err-task-clause-exit_read
returns-in_err-task-clause-exit_read g c =
    let none =
    none_explained c.args.name.now c.args.input.now c.args.turns (g.H.Shelf.given c.args.shelf.now) (g.H.Shelf.given c.shown_task_in.new.shelf)
    (g.H.Shelf.file c.args.shelf.now c.args.name.now) (g.H.Shelf.read_faults c.args.shelf.now)
    (g.H.Shelf.read_faults c.shown_task_in.new.shelf) c.in_err-task.field-0.0 c.in_err-task.ensures.exit in
    search rules
