use Rattle.sm_commands.proofs.Imports.{inr, rules, parts_of, cut_in, left_in, task_told}
use Rattle.sm_commands.proofs.ReadingsLemmas.{none_checked, read_still}
use Rattle.sm_commands.proofs.checking.check_in.Goals as goal

pub returns-clause-left : goal.returns-clause-left
returns-clause-left g c =
    let file = g.H.Shelf.file c.args.shelf.now c.args.name.now in
    let t = parts_of c.in_ok-read.read.task in
    left_in file (g.H.Shelf.file c.args.shelf.now c.args.proof.now) (g.H.Shelf.file c.spelled_in.new.shelf c.args.proof.now)
    (g.H.Shelf.file c.check_task.new.shelf c.args.proof.now) t c.in_ok-check_task.field-0.status
    (task_told file (g.H.Shelf.read_faults c.args.shelf.now) (g.H.Shelf.read_faults c.spelled_in.new.shelf) t c.in_ok-read.ensures.ok)
    (c.in_ok-read.ensures.same c.args.proof.now) c.in_ok-check_task.ensures.left

pub returns-in_err-check_task-clause-left : goal.returns-in_err-check_task-clause-left
returns-in_err-check_task-clause-left g c =
    let file = g.H.Shelf.file c.args.shelf.now c.args.name.now in
    let t = parts_of c.in_ok-read.read.task in
    let left =
    cut_in file (g.H.Shelf.file c.args.shelf.now c.args.proof.now) (g.H.Shelf.file c.spelled_in.new.shelf c.args.proof.now)
    (g.H.Shelf.file c.check_task.new.shelf c.args.proof.now) t
    (task_told file (g.H.Shelf.read_faults c.args.shelf.now) (g.H.Shelf.read_faults c.spelled_in.new.shelf) t c.in_ok-read.ensures.ok)
    (c.in_ok-read.ensures.same c.args.proof.now) c.in_err-check_task.ensures.front in
    search rules

pub returns-clause-read : goal.returns-clause-read
returns-clause-read g c =
    let t = parts_of c.in_ok-read.read.task in
    inr (
      t,
      read_still c.args.name.now (g.H.Shelf.given c.args.shelf.now) (g.H.Shelf.given c.spelled_in.new.shelf)
          (g.H.Shelf.given c.check_task.new.shelf) t c.in_ok-read.ensures.read c.in_ok-check_task.ensures.keeps,
      c.in_ok-check_task.ensures.answers,
    )

pub returns-in_err-read-clause-exit_read : goal.returns-in_err-read-clause-exit_read
returns-in_err-read-clause-exit_read g c =
    let none =
    none_checked c.args.name.now c.args.effort (g.H.Shelf.given c.args.shelf.now) (g.H.Shelf.given c.spelled_in.new.shelf)
    (g.H.Shelf.file c.args.shelf.now c.args.name.now) (g.H.Shelf.read_faults c.args.shelf.now)
    (g.H.Shelf.read_faults c.spelled_in.new.shelf) c.in_err-read.field-0.0 c.in_err-read.ensures.exit in
    search rules
