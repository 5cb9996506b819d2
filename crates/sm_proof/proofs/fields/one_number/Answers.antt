use Rattle.sm_proof.proofs.Imports.{◌≡◌, ◌∷◌, [], ◌∙◌, Err, rules, behind, fault_word, any, taking}
use Rattle.sm_proof.proofs.TakingLemmas.{filled_next, filled_none, line_fault, taking_full, taking_other, told_fault}
use Rattle.sm_proof.proofs.fields.one_number.Goals as goal

pub returns-in_err-words : goal.returns-in_err-words
returns-in_err-words c made =
    let e = c.in_err-words.field-0.0 in
    let other = taking_other (any ∷ []) made (behind c.args.rest.now) c.in_err-words.ensures.0 in
    told_fault _ c.from_residual.result made e (line_fault e _ other c.in_err-words.ensures.1) (search rules)

pub returns-in_err-n : goal.returns-in_err-n
returns-in_err-n c made =
    let e = c.in_err-n.field-0.0 in
    let is : taking (any ∷ []) made (behind c.args.rest.now) ≡ Err (fault_word e) =
    taking_full (any ∷ []) made (behind c.args.rest.now) c.in_ok-words.ensures
    ∙ filled_none any [] made c.args.rest.now e c.in_err-n.ensures.found in
    told_fault _ c.from_residual-in_err-n.result made e is (search rules)

pub returns : goal.returns
returns c made =
    taking_full (any ∷ []) made (behind c.args.rest.now) c.in_ok-words.ensures
    ∙ filled_next any [] made c.args.rest.now c.in_ok-n.n (behind c.in_ok-n.field-0-1.now) c.in_ok-n.ensures.found
