use Rattle.sm_replies.proofs.BatchGiven.{given_by}
use Rattle.sm_replies.proofs.gathering.gather_one.Goals as goal

pub returns-in_ok-put-in-Ok-clause-gives : goal.returns-in_ok-put-in-Ok-clause-gives
returns-in_ok-put-in-Ok-clause-gives g c = (
  c.in-Ok.task,
  c.in_ok-put-in-Ok.ensures,
  given_by (g.H.Shelf.file c.args.shelf.now) (g.H.Shelf.read_faults c.args.shelf.now) (g.H.Shelf.read_faults c.task_in.new.shelf)
      (g.H.Shelf.given c.args.shelf.now) (g.H.Shelf.given c.task_in.new.shelf) c.args.name.now c.in-Ok.task c.in-Ok.ensures.ok
      c.in-Ok.ensures.read,
  c.in-Ok.ensures.printable,
)
