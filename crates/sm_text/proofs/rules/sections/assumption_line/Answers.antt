-- The semicolon stands behind the condition.
use Rattle.sm_text.proofs.Imports.{refl, sym, err_from_is_err_and, condition_of}
use Rattle.sm_text.specs.rules.Reading as spec
use Rattle.sm_text.proofs.Sound.Loops.{leaves, read-as}
use Rattle.sm_text.proofs.rules.sections.assumption_line.Goals as goal

pub returns-in_err-assumed : goal.returns-in_err-assumed
unfolding spec.assumption_line spec.group_limit
returns-in_err-assumed c =
    leaves _ c.from_residual-in_err-assumed.result _
    (err_from_is_err_and c.from_residual-in_err-assumed.result c.from_residual-in_err-assumed.ensures.1) _ _
    c.in_err-assumed.ensures.err (λ f e. rw (c.in_ok-test.ensures, e) refl)

pub returns : goal.returns
unfolding spec.assumption_line spec.group_limit
returns c =
    let test = read-as condition_of _ _ _ _ c.in_ok-test.ensures (sym c.in_ok-assumed.ensures.ok.0) in
    rw (test, c.in_ok-assumed.ensures.ok.1) refl
