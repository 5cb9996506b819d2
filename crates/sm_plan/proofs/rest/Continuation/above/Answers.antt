-- One slice more stands behind the last one.
use Rattle.sm_plan.proofs.Imports.{drop, sym, ap, ◌∙◌, take_all, End, code_before, frames_before}
use Rattle.sm_plan.proofs.RestsLemmas.{frames_push, next_frame}
use Rattle.sm_plan.proofs.rest.Continuation.above.Goals as goal

pub loop-frame-preserved : goal.loop-frame-preserved
loop-frame-preserved c =
    let i = c.loop-frame.frame-index in
    let fs = c.frames_from-frame-items.result.now in
    let f = c.frame-item.result in
    let k = code_before c.args.last.now End in
    ap (λ l. frames_before l End) c.in_ok-push-2.ensures.items
    ∙ frames_push c.loop-frame.frames.items f End
    ∙ ap (code_before f.now) c.loop-frame.invariant
    ∙ sym (next_frame fs i f k c.loop-frame-test.true c.frame-item.is)

pub returns : goal.returns
returns c =
    let fs = c.frames_from-frame-items.result.now in
    let k = code_before c.args.last.now End in
    c.loop-frame.invariant
    ∙ ap (λ l. frames_before l k) (take_all c.loop-frame.frame-index fs c.loop-frame-test.false ∙ c.frames_from-frame-items.ensures
    ∙ ap (drop c.args.place) c.deref.ensures.value)
