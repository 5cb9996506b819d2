-- The sign and the right side stand behind the left.
use Rattle.sm_text.proofs.Imports.{refl, sym, ap, ◌∙◌, err_from_is_err_and, expression_of}
use Rattle.sm_text.specs.rules.Reading as spec
use Rattle.sm_text.proofs.Sound.Loops.{leaves, beside-reads, beside-fails, read-as}
use Rattle.sm_text.proofs.rules.conditions.compared.Goals as goal

pub returns-in_err-front : goal.returns-in_err-front
unfolding spec.compared
returns-in_err-front c =
    leaves _ c.from_residual-in_err-front.result _
    (err_from_is_err_and c.from_residual-in_err-front.result c.from_residual-in_err-front.ensures.1) _ _
    (beside-fails (λ x. x) c.comparison.result _ _ c.comparison.ensures c.in_err-front.ensures.err)
    (λ f e. rw (c.in_ok-left.ensures, e) refl)

pub returns-in_err-sides : goal.returns-in_err-sides
unfolding spec.compared
returns-in_err-sides c =
    let sign = beside-reads (λ x. x) c.comparison.result _ _ _ c.comparison.ensures c.in_ok-front.ensures.ok.1 in
    leaves _ c.from_residual-in_err-sides.result _
    (err_from_is_err_and c.from_residual-in_err-sides.result c.from_residual-in_err-sides.ensures.1) _ _
    (beside-fails expression_of c.expression-2.result _ _ c.expression-2.ensures c.in_err-sides.ensures.err)
    (λ f e. rw (c.in_ok-left.ensures, sign, e) refl)

pub returns : goal.returns
unfolding spec.compared
returns c =
    let same = c.in_ok-sides.ensures.ok.0 in
    let left = read-as expression_of _ _ _ _ c.in_ok-left.ensures (sym (ap (λ p. p.0) same ∙ c.in_ok-front.ensures.ok.0)) in
    let sign = read-as (λ x. x) _ _ _ _ (beside-reads (λ x. x) c.comparison.result _ _ _ c.comparison.ensures c.in_ok-front.ensures.ok.1)
    (sym (ap (λ p. p.1) same)) in
    let right = beside-reads expression_of c.expression-2.result _ _ _ c.expression-2.ensures c.in_ok-sides.ensures.ok.1 in
    rw (left, sign, right) refl
