use Rattle.sm_replies.proofs.Imports.{subst, Store, ShowsFrom, verdict_at}
use Rattle.std.proofs.Common.{IfOk}
use Rattle.sm_task.specs.Tasks.{parts_of}
use Rattle.sm_replies.proofs.decided.shown.Goals as goal

pub returns-clause-shows : goal.returns-clause-shows
returns-clause-shows c =
    subst
    (λ (s : Store). IfOk c.violated.result (λ d. ShowsFrom (parts_of c.args.task.now) c.args.number s (verdict_at c.args.at) d.reply.status
    d.reply.text.items))
    c.in_ok-input.ensures.value c.violated.ensures.shows
