use Rattle.sm_answers.proofs.Imports.{rules, parts_of}
use Rattle.sm_answers.proofs.Answering.{verified_by}
use Rattle.sm_answers.proofs.ReadingsLemmas.{none_verified, verified_read}
use Rattle.sm_answers.proofs.verifying.verify_in.Goals as goal

pub returns-clause-ok : goal.returns-clause-ok
returns-clause-ok g c =
    (verified_by (g.H.Shelf.file c.args.shelf.now c.args.name.now) (g.H.Shelf.file c.args.shelf.now c.args.proof.now)
    (g.H.Shelf.file c.task_in.new.shelf c.args.proof.now) (g.H.Shelf.read_faults c.args.shelf.now)
    (g.H.Shelf.read_faults c.task_in.new.shelf) (g.H.Shelf.read_faults c.verify_task.new.shelf) (parts_of c.in_ok-task.task)
    c.in_ok-task.ensures.ok
    (c.in_ok-task.ensures.same c.args.proof.now) c.verify_task.result c.verify_task.ensures.ok c.verify_task.ensures.exit).0

pub returns-clause-exit : goal.returns-clause-exit
returns-clause-exit g c =
    (verified_by (g.H.Shelf.file c.args.shelf.now c.args.name.now) (g.H.Shelf.file c.args.shelf.now c.args.proof.now)
    (g.H.Shelf.file c.task_in.new.shelf c.args.proof.now) (g.H.Shelf.read_faults c.args.shelf.now)
    (g.H.Shelf.read_faults c.task_in.new.shelf) (g.H.Shelf.read_faults c.verify_task.new.shelf) (parts_of c.in_ok-task.task)
    c.in_ok-task.ensures.ok
    (c.in_ok-task.ensures.same c.args.proof.now) c.verify_task.result c.verify_task.ensures.ok c.verify_task.ensures.exit).1

pub returns-clause-read : goal.returns-clause-read
returns-clause-read g c =
    (verified_read c.args.name.now c.args.proof.now (g.H.Shelf.given c.args.shelf.now) (g.H.Shelf.given c.task_in.new.shelf)
    (g.H.Shelf.given c.verify_task.new.shelf) (parts_of c.in_ok-task.task) c.in_ok-task.ensures.read c.verify_task.result
    c.verify_task.ensures.read c.verify_task.ensures.exit_read).0

pub returns-clause-exit_read : goal.returns-clause-exit_read
returns-clause-exit_read g c =
    (verified_read c.args.name.now c.args.proof.now (g.H.Shelf.given c.args.shelf.now) (g.H.Shelf.given c.task_in.new.shelf)
    (g.H.Shelf.given c.verify_task.new.shelf) (parts_of c.in_ok-task.task) c.in_ok-task.ensures.read c.verify_task.result
    c.verify_task.ensures.read c.verify_task.ensures.exit_read).1

pub returns-in_err-task-clause-exit_read : goal.returns-in_err-task-clause-exit_read
returns-in_err-task-clause-exit_read g c =
    let none =
    none_verified c.args.name.now c.args.proof.now (g.H.Shelf.given c.args.shelf.now) (g.H.Shelf.given c.task_in.new.shelf)
    (g.H.Shelf.file c.args.shelf.now c.args.name.now) (g.H.Shelf.read_faults c.args.shelf.now)
    (g.H.Shelf.read_faults c.task_in.new.shelf) c.in_err-task.field-0.0 c.in_err-task.ensures.once
    c.in_err-task.ensures.exit in
    search rules
