-- The value stands behind the place.
use Rattle.sm_text.proofs.Imports.{Ok, refl, sym, ap, ◌∙◌, fun_ext, err_from_is_err_and, Code, expression_of, statement_of-Store}
use Rattle.sm_text.specs.rules.Reading as spec
use Rattle.sm_text.proofs.Sound.Loops.{leaves, beside-reads, beside-fails, read-as}
use Rattle.sm_text.proofs.rules.statements.write_element.Goals as goal

pub returns-in_err-left : goal.returns-in_err-left
unfolding spec.write
returns-in_err-left c =
    leaves _ c.from_residual-in_err-left.result _
    (err_from_is_err_and c.from_residual-in_err-left.result c.from_residual-in_err-left.ensures.1) _ _
    c.in_err-left.ensures.err (λ f e. rw (c.in_ok-place.ensures, e) refl)

pub returns-in_err-sides : goal.returns-in_err-sides
unfolding spec.write
returns-in_err-sides c =
    leaves _ c.from_residual-in_err-sides.result _
    (err_from_is_err_and c.from_residual-in_err-sides.result c.from_residual-in_err-sides.ensures.1) _ _
    (beside-fails expression_of c.expression.result _ _ c.expression.ensures c.in_err-sides.ensures.err)
    (λ f e. rw (c.in_ok-place.ensures, c.in_ok-left.ensures.ok.1, e) refl)

pub returns-in_err-written : goal.returns-in_err-written
unfolding spec.write
returns-in_err-written c =
    let value = beside-reads expression_of c.expression.result _ _ _ c.expression.ensures c.in_ok-sides.ensures.ok.1 in
    leaves _ c.from_residual-in_err-written.result _
    (err_from_is_err_and c.from_residual-in_err-written.result c.from_residual-in_err-written.ensures.1) _ _
    c.in_err-written.ensures.err (λ f e. rw (c.in_ok-place.ensures, c.in_ok-left.ensures.ok.1, value, e) refl)

pub returns : goal.returns
unfolding spec.write
returns c =
    let same = c.in_ok-written.ensures.ok.0 in
    let place = read-as expression_of _ _ _ _ c.in_ok-place.ensures
    (sym (ap (λ p. p.0) same ∙ c.in_ok-sides.ensures.ok.0 ∙ c.in_ok-left.ensures.ok.0)) in
    let value = read-as expression_of _ _ _ _
    (beside-reads expression_of c.expression.result _ _ _ c.expression.ensures c.in_ok-sides.ensures.ok.1) (sym (ap (λ p. p.1) same)) in
    rw (place, c.in_ok-left.ensures.ok.1, value, c.in_ok-written.ensures.ok.1)
    (ap (λ (s : Code → Code). Ok (s, c.in_ok-written.after.now))
    (sym (fun_ext (statement_of-Store c.args.name c.in_ok-written.written.0 c.in_ok-written.written.1))))
