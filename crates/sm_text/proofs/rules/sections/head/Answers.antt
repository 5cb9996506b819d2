-- Each part stands behind those before it.
use Rattle.sm_text.proofs.Imports.{refl, sym, ap, ◌∙◌, err_from_is_err_and, declared_of, outputs_of, condition_of, code_of}
use Rattle.std.proofs.Common.{option_map}
use Rattle.sm_text.specs.rules.Reading as spec
use Rattle.sm_text.proofs.Sound.Loops.{leaves, beside-reads, beside-fails, read-as}
use Rattle.sm_text.proofs.rules.sections.head.Goals as goal

pub returns-in_err-declared : goal.returns-in_err-declared
unfolding spec.head
returns-in_err-declared c =
    leaves _ c.from_residual.result _ (err_from_is_err_and c.from_residual.result c.from_residual.ensures.1) _ _
    (beside-fails declared_of c.declarations.result _ _ c.declarations.ensures c.in_err-declared.ensures.err) (λ f e. rw e refl)

pub returns-in_err-named : goal.returns-in_err-named
unfolding spec.head
returns-in_err-named c =
    let decls = beside-reads declared_of c.declarations.result _ _ _ c.declarations.ensures c.in_ok-declared.ensures.ok.1 in
    leaves _ c.from_residual-in_err-named.result _
    (err_from_is_err_and c.from_residual-in_err-named.result c.from_residual-in_err-named.ensures.1) _ _
    (beside-fails outputs_of c.outputs.result _ _ c.outputs.ensures c.in_err-named.ensures.err) (λ f e. rw (decls, e) refl)

pub returns-in_err-front : goal.returns-in_err-front
unfolding spec.head
returns-in_err-front c =
    let decls = beside-reads declared_of c.declarations.result _ _ _ c.declarations.ensures c.in_ok-declared.ensures.ok.1 in
    let outputs = beside-reads outputs_of c.outputs.result _ _ _ c.outputs.ensures c.in_ok-named.ensures.ok.1 in
    leaves _ c.from_residual-in_err-front.result _
    (err_from_is_err_and c.from_residual-in_err-front.result c.from_residual-in_err-front.ensures.1) _ _
    (beside-fails (option_map condition_of) c.assumed.result _ _ c.assumed.ensures c.in_err-front.ensures.err)
    (λ f e. rw (decls, outputs, e) refl)

pub returns-in_err-parts : goal.returns-in_err-parts
unfolding spec.head
returns-in_err-parts c =
    let decls = beside-reads declared_of c.declarations.result _ _ _ c.declarations.ensures c.in_ok-declared.ensures.ok.1 in
    let outputs = beside-reads outputs_of c.outputs.result _ _ _ c.outputs.ensures c.in_ok-named.ensures.ok.1 in
    let assumed = beside-reads (option_map condition_of) c.assumed.result _ _ _ c.assumed.ensures c.in_ok-front.ensures.ok.1 in
    leaves _ c.from_residual-in_err-parts.result _
    (err_from_is_err_and c.from_residual-in_err-parts.result c.from_residual-in_err-parts.ensures.1) _ _
    (beside-fails code_of c.shared.result _ _ c.shared.ensures c.in_err-parts.ensures.err)
    (λ f e. rw (decls, outputs, assumed, e) refl)

pub returns : goal.returns
unfolding spec.head
returns c =
    let front = c.in_ok-parts.ensures.ok.0 in
    let named = ap (λ p. p.0) front ∙ c.in_ok-front.ensures.ok.0 in
    let declared = ap (λ p. p.0) named ∙ c.in_ok-named.ensures.ok.0 in
    let names = ap (λ p. p.0) declared ∙ c.in_ok-declared.ensures.ok.0 in
    let decls = read-as declared_of _ _ _ _ (beside-reads declared_of c.declarations.result _ _ _ c.declarations.ensures c.in_ok-declared.ensures.ok.1)
    (sym (ap (λ p. p.1) declared)) in
    let outputs = read-as outputs_of _ _ _ _ (beside-reads outputs_of c.outputs.result _ _ _ c.outputs.ensures c.in_ok-named.ensures.ok.1)
    (sym (ap (λ p. p.1) named)) in
    let assumed = read-as (option_map condition_of) _ _ _ _
    (beside-reads (option_map condition_of) c.assumed.result _ _ _ c.assumed.ensures c.in_ok-front.ensures.ok.1)
    (sym (ap (λ p. p.1) front)) in
    let body = beside-reads code_of c.shared.result _ _ _ c.shared.ensures c.in_ok-parts.ensures.ok.1 in
    rw (decls, outputs, assumed, body, names) refl
