-- The answer rests on the input that it shows.
use Rattle.sm_eval.specs.StoredValues.{meaning}
use Rattle.sm_task.specs.Tasks.{parts_of}
use Rattle.sm_replies.proofs.Statuses.{shown_status}
use Rattle.sm_replies.specs.Views.{verdict_at}
use Rattle.sm_replies.proofs.decided.violated.Goals as goal

pub returns-clause-ground : goal.returns-clause-ground
returns-clause-ground c =
    let r = c.in_ok-reply.reply in (
      shown_status (parts_of c.args.task.now) c.args.number (meaning c.args.input) (verdict_at c.args.at) r.status r.text.items
          c.in_ok-reply.ensures,
      c.requires.declared,
      (c.args.number, verdict_at c.args.at, c.in_ok-reply.ensures),
    )
