-- The lists stand behind the head.
use Rattle.sm_text.proofs.Imports.{refl, sym, err_from_is_err_and, head_parts, lists_of}
use Rattle.sm_text.specs.rules.Reading as spec
use Rattle.sm_text.proofs.Sound.Loops.{leaves, beside-reads, beside-fails, read-as}
use Rattle.sm_text.proofs.rules.sections.task.Goals as goal

pub returns-in_err-parts : goal.returns-in_err-parts
unfolding spec.task
returns-in_err-parts c =
    leaves _ c.from_residual-in_err-parts.result _
    (err_from_is_err_and c.from_residual-in_err-parts.result c.from_residual-in_err-parts.ensures.1) _ _
    (beside-fails lists_of c.four_lists.result _ _ c.four_lists.ensures c.in_err-parts.ensures.err)
    (λ f e. rw (c.in_ok-front.ensures, e) refl)

pub returns : goal.returns
unfolding spec.task
returns c =
    let front = read-as (λ x. head_parts x.0 x.1) _ _ _ _ c.in_ok-front.ensures (sym c.in_ok-parts.ensures.ok.0) in
    let lists = beside-reads lists_of c.four_lists.result _ _ _ c.four_lists.ensures c.in_ok-parts.ensures.ok.1 in
    rw (front, lists) refl
