-- The semicolon stands behind the value.
use Rattle.sm_text.proofs.Imports.{Ok, refl, sym, ap, fun_ext, err_from_is_err_and, Code, expression_of, statement_of-Assign}
use Rattle.sm_text.specs.rules.Reading as spec
use Rattle.sm_text.proofs.Sound.Loops.{leaves, read-as}
use Rattle.sm_text.proofs.rules.statements.assignment.Goals as goal

pub returns-in_err-written : goal.returns-in_err-written
unfolding spec.assignment
returns-in_err-written c =
    leaves _ c.from_residual-in_err-written.result _
    (err_from_is_err_and c.from_residual-in_err-written.result c.from_residual-in_err-written.ensures.1) _ _
    c.in_err-written.ensures.err (λ f e. rw (c.in_ok-after.ensures, c.in_ok-value.ensures, e) refl)

pub returns : goal.returns
unfolding spec.assignment
returns c =
    let value = read-as expression_of _ _ _ _ c.in_ok-value.ensures (sym c.in_ok-written.ensures.ok.0) in
    rw (c.in_ok-after.ensures, value, c.in_ok-written.ensures.ok.1)
    (ap (λ (s : Code → Code). Ok (s, c.in_ok-written.after.now)) (sym (fun_ext (statement_of-Assign c.args.name c.in_ok-written.written))))
