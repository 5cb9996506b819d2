use Rattle.sm_proof.proofs.Imports.{◌≡◌, ◌∷◌, [], ◌∙◌, Err, rules, behind, fault_word, any, taking}
use Rattle.sm_proof.proofs.TakingLemmas.{filled_next, filled_none, line_fault, taking_full, taking_other, told_fault}
use Rattle.sm_proof.proofs.fields.five_numbers.Goals as goal

pub returns-in_err-words : goal.returns-in_err-words
returns-in_err-words c made =
    let e = c.in_err-words.field-0.0 in
    let other = taking_other (any ∷ any ∷ any ∷ any ∷ any ∷ []) made (behind c.args.rest.now) c.in_err-words.ensures.0 in
    told_fault _ c.from_residual.result (λ p. made p.0 p.1 p.2 p.3 p.4) e (line_fault e _ other c.in_err-words.ensures.1) (search rules)

pub returns-in_err-k0 : goal.returns-in_err-k0
returns-in_err-k0 c made =
    let e = c.in_err-k0.field-0.0 in
    let is : taking (any ∷ any ∷ any ∷ any ∷ any ∷ []) made (behind c.args.rest.now) ≡ Err (fault_word e) =
    taking_full (any ∷ any ∷ any ∷ any ∷ any ∷ []) made (behind c.args.rest.now) c.in_ok-words.ensures
    ∙ filled_none any (any ∷ any ∷ any ∷ any ∷ []) made c.args.rest.now e c.in_err-k0.ensures.found in
    told_fault _ c.from_residual-in_err-k0.result (λ p. made p.0 p.1 p.2 p.3 p.4) e is (search rules)

pub returns-in_err-k1 : goal.returns-in_err-k1
returns-in_err-k1 c made =
    let e = c.in_err-k1.field-0.0 in
    let is : taking (any ∷ any ∷ any ∷ any ∷ any ∷ []) made (behind c.args.rest.now) ≡ Err (fault_word e) =
    taking_full (any ∷ any ∷ any ∷ any ∷ any ∷ []) made (behind c.args.rest.now) c.in_ok-words.ensures
    ∙ filled_next any (any ∷ any ∷ any ∷ any ∷ []) made c.args.rest.now c.in_ok-k0.k0 (behind c.in_ok-k0.rest.now) c.in_ok-k0.ensures.found
    ∙ filled_none any (any ∷ any ∷ any ∷ []) (made c.in_ok-k0.k0) c.in_ok-k0.rest.now e c.in_err-k1.ensures.found in
    told_fault _ c.from_residual-in_err-k1.result (λ p. made p.0 p.1 p.2 p.3 p.4) e is (search rules)

pub returns-in_err-k2 : goal.returns-in_err-k2
returns-in_err-k2 c made =
    let e = c.in_err-k2.field-0.0 in
    let is : taking (any ∷ any ∷ any ∷ any ∷ any ∷ []) made (behind c.args.rest.now) ≡ Err (fault_word e) =
    taking_full (any ∷ any ∷ any ∷ any ∷ any ∷ []) made (behind c.args.rest.now) c.in_ok-words.ensures
    ∙ filled_next any (any ∷ any ∷ any ∷ any ∷ []) made c.args.rest.now c.in_ok-k0.k0 (behind c.in_ok-k0.rest.now) c.in_ok-k0.ensures.found
    ∙ filled_next any (any ∷ any ∷ any ∷ []) (made c.in_ok-k0.k0) c.in_ok-k0.rest.now c.in_ok-k1.k1
    (behind c.in_ok-k1.rest.now) c.in_ok-k1.ensures.found
    ∙ filled_none any (any ∷ any ∷ []) (made c.in_ok-k0.k0 c.in_ok-k1.k1) c.in_ok-k1.rest.now e c.in_err-k2.ensures.found in
    told_fault _ c.from_residual-in_err-k2.result (λ p. made p.0 p.1 p.2 p.3 p.4) e is (search rules)

pub returns-in_err-k3 : goal.returns-in_err-k3
returns-in_err-k3 c made =
    let e = c.in_err-k3.field-0.0 in
    let is : taking (any ∷ any ∷ any ∷ any ∷ any ∷ []) made (behind c.args.rest.now) ≡ Err (fault_word e) =
    taking_full (any ∷ any ∷ any ∷ any ∷ any ∷ []) made (behind c.args.rest.now) c.in_ok-words.ensures
    ∙ filled_next any (any ∷ any ∷ any ∷ any ∷ []) made c.args.rest.now c.in_ok-k0.k0 (behind c.in_ok-k0.rest.now) c.in_ok-k0.ensures.found
    ∙ filled_next any (any ∷ any ∷ any ∷ []) (made c.in_ok-k0.k0) c.in_ok-k0.rest.now c.in_ok-k1.k1
    (behind c.in_ok-k1.rest.now) c.in_ok-k1.ensures.found
    ∙ filled_next any (any ∷ any ∷ []) (made c.in_ok-k0.k0 c.in_ok-k1.k1) c.in_ok-k1.rest.now c.in_ok-k2.k2
    (behind c.in_ok-k2.rest.now) c.in_ok-k2.ensures.found
    ∙ filled_none any (any ∷ []) (made c.in_ok-k0.k0 c.in_ok-k1.k1 c.in_ok-k2.k2) c.in_ok-k2.rest.now e c.in_err-k3.ensures.found in
    told_fault _ c.from_residual-in_err-k3.result (λ p. made p.0 p.1 p.2 p.3 p.4) e is (search rules)

pub returns-in_err-keep : goal.returns-in_err-keep
returns-in_err-keep c made =
    let e = c.in_err-keep.field-0.0 in
    let is : taking (any ∷ any ∷ any ∷ any ∷ any ∷ []) made (behind c.args.rest.now) ≡ Err (fault_word e) =
    taking_full (any ∷ any ∷ any ∷ any ∷ any ∷ []) made (behind c.args.rest.now) c.in_ok-words.ensures
    ∙ filled_next any (any ∷ any ∷ any ∷ any ∷ []) made c.args.rest.now c.in_ok-k0.k0 (behind c.in_ok-k0.rest.now) c.in_ok-k0.ensures.found
    ∙ filled_next any (any ∷ any ∷ any ∷ []) (made c.in_ok-k0.k0) c.in_ok-k0.rest.now c.in_ok-k1.k1
    (behind c.in_ok-k1.rest.now) c.in_ok-k1.ensures.found
    ∙ filled_next any (any ∷ any ∷ []) (made c.in_ok-k0.k0 c.in_ok-k1.k1) c.in_ok-k1.rest.now c.in_ok-k2.k2
    (behind c.in_ok-k2.rest.now) c.in_ok-k2.ensures.found
    ∙ filled_next any (any ∷ []) (made c.in_ok-k0.k0 c.in_ok-k1.k1 c.in_ok-k2.k2) c.in_ok-k2.rest.now c.in_ok-k3.k3
    (behind c.in_ok-k3.rest.now) c.in_ok-k3.ensures.found
    ∙ filled_none any [] (made c.in_ok-k0.k0 c.in_ok-k1.k1 c.in_ok-k2.k2 c.in_ok-k3.k3) c.in_ok-k3.rest.now e c.in_err-keep.ensures.found in
    told_fault _ c.from_residual-in_err-keep.result (λ p. made p.0 p.1 p.2 p.3 p.4) e is (search rules)

pub returns : goal.returns
returns c made =
    taking_full (any ∷ any ∷ any ∷ any ∷ any ∷ []) made (behind c.args.rest.now) c.in_ok-words.ensures
    ∙ filled_next any (any ∷ any ∷ any ∷ any ∷ []) made c.args.rest.now c.in_ok-k0.k0 (behind c.in_ok-k0.rest.now) c.in_ok-k0.ensures.found
    ∙ filled_next any (any ∷ any ∷ any ∷ []) (made c.in_ok-k0.k0) c.in_ok-k0.rest.now c.in_ok-k1.k1
    (behind c.in_ok-k1.rest.now) c.in_ok-k1.ensures.found
    ∙ filled_next any (any ∷ any ∷ []) (made c.in_ok-k0.k0 c.in_ok-k1.k1) c.in_ok-k1.rest.now c.in_ok-k2.k2
    (behind c.in_ok-k2.rest.now) c.in_ok-k2.ensures.found
    ∙ filled_next any (any ∷ []) (made c.in_ok-k0.k0 c.in_ok-k1.k1 c.in_ok-k2.k2) c.in_ok-k2.rest.now c.in_ok-k3.k3
    (behind c.in_ok-k3.rest.now) c.in_ok-k3.ensures.found
    ∙ filled_next any [] (made c.in_ok-k0.k0 c.in_ok-k1.k1 c.in_ok-k2.k2 c.in_ok-k3.k3) c.in_ok-k3.rest.now c.in_ok-keep.keep
    (behind c.in_ok-keep.field-0-1.now) c.in_ok-keep.ensures.found
