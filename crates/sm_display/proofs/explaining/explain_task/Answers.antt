use Rattle.sm_display.proofs.Imports.{inr, rules, parts_of, none_run, run_read}
use Rattle.sm_display.proofs.explaining.explain_task.Goals as goal

pub returns-clause-ok : goal.returns-clause-ok
returns-clause-ok g c = inr (record { store = c.in_ok-store.store; gives = c.in_ok-store.ensures.ok; answers = c.in_ok-explain.ensures })

pub returns-clause-read : goal.returns-clause-read
returns-clause-read g c =
    run_read (parts_of c.args.task.now) c.args.input.now c.args.turns (g.H.Shelf.given c.args.shelf.now)
    (g.H.Shelf.given c.input_in.new.shelf) c.in_ok-store.store _ _ c.in_ok-store.ensures.read c.in_ok-explain.ensures.answers

pub returns-in_err-store-clause-exit_read : goal.returns-in_err-store-clause-exit_read
returns-in_err-store-clause-exit_read g c =
    let none =
    none_run (parts_of c.args.task.now) c.args.input.now c.args.turns (g.H.Shelf.given c.args.shelf.now)
    (g.H.Shelf.given c.input_in.new.shelf) (g.H.Shelf.file c.args.shelf.now c.args.input.now)
    (g.H.Shelf.read_faults c.args.shelf.now) (g.H.Shelf.read_faults c.input_in.new.shelf) c.in_err-store.field-0.0 c.in_err-store.ensures.exit in
    search rules
