use Rattle.sm_display.proofs.Imports.{meaning, parts_of}
use Rattle.sm_display.proofs.Explained.{explains_replay, joined_alike}
use Rattle.sm_display.proofs.showing.explain.Goals as goal

pub returns : goal.returns
returns c =
    let line = c.in_ok-reply.reply.text.items in
    let start = c.in_ok-start.start.items in
    let ends = c.in_ok-ends.ends.items in
    let text = c.in_ok-text.text.items in
    explains_replay (parts_of c.args.task.now) (meaning c.args.input.now) c.args.turns c.in_ok-reply.reply.status line start ends text
    c.in_ok-reply.ensures c.in_ok-start.ensures c.in_ok-ends.ensures
    (joined_alike line start ends c.deref.result.now c.deref-2.result.now c.deref-3.result.now text c.deref.ensures.value
    c.deref-2.ensures.value c.deref-3.ensures.value c.in_ok-text.ensures)
