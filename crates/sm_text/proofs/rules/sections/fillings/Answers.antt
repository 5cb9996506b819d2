use Rattle.sm_text.proofs.Imports.{sym, ap, ◌∙◌, map-append, err_from_is_err_and, Question, stands, entries_for}
use Rattle.sm_text.specs.rules.Reading as spec
use Rattle.sm_text.proofs.Sound.Gathered.{gather-turn, gather-end, gather-fault}
use Rattle.sm_text.proofs.Sound.Loops.{tested, leaves, filling-shorter}
use Rattle.sm_text.proofs.rules.sections.fillings.Goals as goal

pub returns-in_err-one : goal.returns-in_err-one
unfolding spec.more_fillings
returns-in_err-one c =
    leaves _ c.from_residual.result _ (err_from_is_err_and c.from_residual.result c.from_residual.ensures.1) _ _ c.in_err-one.ensures
    (λ f e. c.fillings.invariant ∙ gather-fault (stands Question) spec.hole_filling spec.with_filling _ _ f
    (tested (stands Question) c.first.ensures c.stands.ensures c.fillings-test.true) e)

pub fillings-smaller : goal.fillings-smaller
fillings-smaller c = filling-shorter _ _ _ c.in_ok-one.ensures

pub fillings-preserved : goal.fillings-preserved
unfolding spec.more_fillings
fillings-preserved c =
    c.fillings.invariant ∙ gather-turn (stands Question) spec.hole_filling spec.with_filling filling-shorter _ _ _ _
    (tested (stands Question) c.first.ensures c.stands.ensures c.fillings-test.true) c.in_ok-one.ensures
    ∙ ap (λ fs. spec.more_fillings fs c.in_ok-one.behind.now) (sym (ap entries_for c.in_ok-push.ensures.items ∙ map-append _ _ _))

pub returns : goal.returns
unfolding spec.more_fillings
returns c = c.fillings.invariant ∙ gather-end (stands Question) spec.hole_filling spec.with_filling _ _
    (tested (stands Question) c.first.ensures c.stands.ensures c.fillings-test.false)
