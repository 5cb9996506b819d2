use Rattle.sm_replies.proofs.Imports.{◌≡◌, rules, subst, first_line, AnswersCheck, Effort}
use Rattle.sm_task.specs.Tasks.{parts_of}
use Rattle.sm_replies.proofs.BatchTold.{alone_check, is_answered}
use Rattle.sm_replies.proofs.batch_worker.answered.Goals as goal

pub returns : goal.returns
returns g c =
    let t = parts_of c.args.task.now in
    let d = c.in_ok-decided.decided in
    let first : c.in_ok-from_slice.field-0.items ≡ first_line d.reply.text.items = search rules in
    is_answered t c.args.effort d.reply.status d.reply.text.items (record { reply = c.in_ok-from_slice.field-0; cert = d.proof })
    (alone_check t c.args.effort d.reply.status d.reply.text.items
    (subst (λ (e : Effort). AnswersCheck t e d.reply.status d.reply.text.items) c.alone.ensures c.in_ok-decided.ensures.answers))
    c.in_ok-decided.ensures.proof first
