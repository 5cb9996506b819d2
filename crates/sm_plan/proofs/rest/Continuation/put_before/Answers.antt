-- The block's statements are the last slice.
use Rattle.sm_plan.proofs.Imports.{ap, ◌∙◌, End, append, code_of, block_then, code_before, frames_before, rest_code}
use Rattle.sm_plan.proofs.RestsLemmas.{frames_push}
use Rattle.sm_plan.proofs.rest.Continuation.put_before.Goals as goal

pub returns : goal.returns
returns c =
    let r = c.drop_front.new.self in
    let k = rest_code r in
    ap (λ l. frames_before l End) c.in_ok-push.ensures.items
    ∙ frames_push r.frames.items c.deref.result End
    ∙ ap (λ ss. code_before ss k) c.deref.ensures.value
    ∙ block_then c.args.block.now k
    ∙ ap (append (code_of c.args.block.now)) c.drop_front.ensures
