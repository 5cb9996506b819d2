use Rattle.sm_proof.proofs.Imports.{◌∙◌, Some, None, Ok, ap, sym, rules, behind, Term}
use Rattle.sm_proof.specs.Lines.{Lit}
use Rattle.sm_proof.proofs.TakingLemmas.{line_fault, literal_other, literal_read, same_literal, some_behind, told_fault}
use Rattle.sm_proof.proofs.WordLemmas.{behind_from}
use Rattle.sm_proof.proofs.fields.literal.Goals as goal

pub returns-in_err-words : goal.returns-in_err-words
returns-in_err-words c =
    let e = c.in_err-words.field-0.0 in
    let other = literal_other (behind c.args.rest.now) c.in_err-words.ensures.0 in
    told_fault _ c.from_residual.result (λ z. Term (Lit z)) e (line_fault e _ other c.in_err-words.ensures.1) (search rules)

pub returns-in-Some : goal.returns-in-Some
returns-in-Some c =
    let some = some_behind c.args.rest.now c.in_ok-words.ensures in
    literal_read (behind c.args.rest.now) c.split_word.result.0.now (behind c.split_word.result.1.now)
    (Some c.in-Some.z) c.in_ok-words.ensures
    (behind_from c.args.rest.now some ∙ c.split_word.ensures.words) c.in-Some.ensures
    ∙ ap (λ y. Ok (Term (Lit y))) (sym (same_literal c.split_word.result.0.now c.in-Some.z c.in-Some.ensures))

pub returns-in-None : goal.returns-in-None
returns-in-None c =
    let some = some_behind c.args.rest.now c.in_ok-words.ensures in
    literal_read (behind c.args.rest.now) c.split_word.result.0.now (behind c.split_word.result.1.now) None c.in_ok-words.ensures
    (behind_from c.args.rest.now some ∙ c.split_word.ensures.words) c.in-None.ensures
