use Rattle.sm_proof.proofs.Imports.{◌≡◌, ◌∷◌, [], ◌∙◌, Err, rules, behind, fault_word, any, taking}
use Rattle.sm_proof.proofs.TakingLemmas.{filled_next, filled_none, line_fault, taking_full, taking_other, told_fault}
use Rattle.sm_proof.proofs.fields.three_numbers.Goals as goal

pub returns-in_err-words : goal.returns-in_err-words
returns-in_err-words c made =
    let e = c.in_err-words.field-0.0 in
    let other = taking_other (any ∷ any ∷ any ∷ []) made (behind c.args.rest.now) c.in_err-words.ensures.0 in
    told_fault _ c.from_residual.result (λ p. made p.0 p.1 p.2) e (line_fault e _ other c.in_err-words.ensures.1) (search rules)

pub returns-in_err-k : goal.returns-in_err-k
returns-in_err-k c made =
    let e = c.in_err-k.field-0.0 in
    let is : taking (any ∷ any ∷ any ∷ []) made (behind c.args.rest.now) ≡ Err (fault_word e) =
    taking_full (any ∷ any ∷ any ∷ []) made (behind c.args.rest.now) c.in_ok-words.ensures
    ∙ filled_none any (any ∷ any ∷ []) made c.args.rest.now e c.in_err-k.ensures.found in
    told_fault _ c.from_residual-in_err-k.result (λ p. made p.0 p.1 p.2) e is (search rules)

pub returns-in_err-m : goal.returns-in_err-m
returns-in_err-m c made =
    let e = c.in_err-m.field-0.0 in
    let is : taking (any ∷ any ∷ any ∷ []) made (behind c.args.rest.now) ≡ Err (fault_word e) =
    taking_full (any ∷ any ∷ any ∷ []) made (behind c.args.rest.now) c.in_ok-words.ensures
    ∙ filled_next any (any ∷ any ∷ []) made c.args.rest.now c.in_ok-k.k (behind c.in_ok-k.rest.now) c.in_ok-k.ensures.found
    ∙ filled_none any (any ∷ []) (made c.in_ok-k.k) c.in_ok-k.rest.now e c.in_err-m.ensures.found in
    told_fault _ c.from_residual-in_err-m.result (λ p. made p.0 p.1 p.2) e is (search rules)

pub returns-in_err-n : goal.returns-in_err-n
returns-in_err-n c made =
    let e = c.in_err-n.field-0.0 in
    let is : taking (any ∷ any ∷ any ∷ []) made (behind c.args.rest.now) ≡ Err (fault_word e) =
    taking_full (any ∷ any ∷ any ∷ []) made (behind c.args.rest.now) c.in_ok-words.ensures
    ∙ filled_next any (any ∷ any ∷ []) made c.args.rest.now c.in_ok-k.k (behind c.in_ok-k.rest.now) c.in_ok-k.ensures.found
    ∙ filled_next any (any ∷ []) (made c.in_ok-k.k) c.in_ok-k.rest.now c.in_ok-m.m (behind c.in_ok-m.rest.now) c.in_ok-m.ensures.found
    ∙ filled_none any [] (made c.in_ok-k.k c.in_ok-m.m) c.in_ok-m.rest.now e c.in_err-n.ensures.found in
    told_fault _ c.from_residual-in_err-n.result (λ p. made p.0 p.1 p.2) e is (search rules)

pub returns : goal.returns
returns c made =
    taking_full (any ∷ any ∷ any ∷ []) made (behind c.args.rest.now) c.in_ok-words.ensures
    ∙ filled_next any (any ∷ any ∷ []) made c.args.rest.now c.in_ok-k.k (behind c.in_ok-k.rest.now) c.in_ok-k.ensures.found
    ∙ filled_next any (any ∷ []) (made c.in_ok-k.k) c.in_ok-k.rest.now c.in_ok-m.m (behind c.in_ok-m.rest.now) c.in_ok-m.ensures.found
    ∙ filled_next any [] (made c.in_ok-k.k c.in_ok-m.m) c.in_ok-m.rest.now c.in_ok-n.n
    (behind c.in_ok-n.field-0-1.now) c.in_ok-n.ensures.found
