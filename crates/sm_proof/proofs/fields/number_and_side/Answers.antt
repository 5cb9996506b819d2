use Rattle.sm_proof.proofs.Imports.{◌≡◌, ◌∷◌, [], ◌∙◌, Err, rules, behind, fault_word, any, side, taking}
use Rattle.sm_proof.proofs.TakingLemmas.{filled_next, filled_none, line_fault, taking_full, taking_other, told_fault}
use Rattle.sm_proof.proofs.fields.number_and_side.Goals as goal

pub returns-in_err-words : goal.returns-in_err-words
returns-in_err-words c made =
    let e = c.in_err-words.field-0.0 in
    let other = taking_other (any ∷ side ∷ []) made (behind c.args.rest.now) c.in_err-words.ensures.0 in
    told_fault _ c.from_residual.result (λ p. made p.0 p.1) e (line_fault e _ other c.in_err-words.ensures.1) (search rules)

pub returns-in_err-n : goal.returns-in_err-n
returns-in_err-n c made =
    let e = c.in_err-n.field-0.0 in
    let is : taking (any ∷ side ∷ []) made (behind c.args.rest.now) ≡ Err (fault_word e) =
    taking_full (any ∷ side ∷ []) made (behind c.args.rest.now) c.in_ok-words.ensures
    ∙ filled_none any (side ∷ []) made c.args.rest.now e c.in_err-n.ensures.found in
    told_fault _ c.from_residual-in_err-n.result (λ p. made p.0 p.1) e is (search rules)

pub returns-in_err-s : goal.returns-in_err-s
returns-in_err-s c made =
    let e = c.in_err-s.field-0.0 in
    let is : taking (any ∷ side ∷ []) made (behind c.args.rest.now) ≡ Err (fault_word e) =
    taking_full (any ∷ side ∷ []) made (behind c.args.rest.now) c.in_ok-words.ensures
    ∙ filled_next any (side ∷ []) made c.args.rest.now c.in_ok-n.n (behind c.in_ok-n.rest.now) c.in_ok-n.ensures.found
    ∙ filled_none side [] (made c.in_ok-n.n) c.in_ok-n.rest.now e c.in_err-s.ensures.found in
    told_fault _ c.from_residual-in_err-s.result (λ p. made p.0 p.1) e is (search rules)

pub returns : goal.returns
returns c made =
    taking_full (any ∷ side ∷ []) made (behind c.args.rest.now) c.in_ok-words.ensures
    ∙ filled_next any (side ∷ []) made c.args.rest.now c.in_ok-n.n (behind c.in_ok-n.rest.now) c.in_ok-n.ensures.found
    ∙ filled_next side [] (made c.in_ok-n.n) c.in_ok-n.rest.now c.in_ok-s.s (behind c.in_ok-s.field-0-1.now) c.in_ok-s.ensures.found
