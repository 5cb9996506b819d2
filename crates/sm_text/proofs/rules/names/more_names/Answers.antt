use Rattle.sm_text.proofs.Imports.{sym, ap, ◌∙◌, map-append, err_from_is_err_and, Comma, stands, numbers_of}
use Rattle.sm_text.specs.rules.Reading as spec
use Rattle.sm_text.proofs.Sound.Gathered.{gather-turn, gather-end, gather-fault}
use Rattle.sm_text.proofs.Sound.Loops.{tested, leaves, next_name-shorter}
use Rattle.sm_text.proofs.rules.names.more_names.Goals as goal

pub returns-in_err-one : goal.returns-in_err-one
unfolding spec.more_names
returns-in_err-one c =
    leaves _ c.from_residual.result _ (err_from_is_err_and c.from_residual.result c.from_residual.ensures.1) _ _ c.in_err-one.ensures
    (λ f e. c.names.invariant
    ∙ gather-fault (stands Comma) spec.next_name spec.with_name _ _ f
    (tested (stands Comma) c.first.ensures c.stands.ensures c.names-test.true) e)

pub names-smaller : goal.names-smaller
names-smaller c = next_name-shorter _ _ _ c.in_ok-one.ensures

pub names-preserved : goal.names-preserved
unfolding spec.more_names
names-preserved c =
    c.names.invariant ∙ gather-turn (stands Comma) spec.next_name spec.with_name next_name-shorter _ _ _ _
    (tested (stands Comma) c.first.ensures c.stands.ensures c.names-test.true) c.in_ok-one.ensures
    ∙ ap (λ xs. spec.more_names xs c.in_ok-one.behind.now) (sym (ap numbers_of c.in_ok-push.ensures.items ∙ map-append _ _ _))

pub returns : goal.returns
unfolding spec.more_names
returns c = c.names.invariant
    ∙ gather-end (stands Comma) spec.next_name spec.with_name _ _
    (tested (stands Comma) c.first.ensures c.stands.ensures c.names-test.false)
