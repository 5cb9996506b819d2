use Rattle.sm_proof.proofs.Imports.{◌<◌, ◌∙◌, Some, None, length, rules, behind, form_kind_of, read_form}
use Rattle.sm_proof.proofs.TakingLemmas.{no_word, second_none, second_word}
use Rattle.sm_proof.proofs.WordLemmas.{behind_from}
use Rattle.sm_proof.proofs.lines.second_form.Goals as goal

pub returns-then-is_empty : goal.returns-then-is_empty
returns-then-is_empty c =
    second_none form_kind_of read_form (behind c.args.rest.now) (no_word c.args.rest.now (search rules))

pub returns-in-Some : goal.returns-in-Some
returns-in-Some c =
    let some : 0 < length c.args.rest.now = search rules in
    second_word form_kind_of read_form (behind c.args.rest.now) c.split_word.result.0.now (behind c.split_word.result.1.now)
    (Some c.in-Some.kind)
    (behind_from c.args.rest.now some ∙ c.split_word.ensures.words) c.in-Some.ensures
    ∙ c.form_line.ensures

pub returns-in-None : goal.returns-in-None
returns-in-None c =
    let some : 0 < length c.args.rest.now = search rules in
    second_word form_kind_of read_form (behind c.args.rest.now) c.split_word.result.0.now (behind c.split_word.result.1.now) None
    (behind_from c.args.rest.now some ∙ c.split_word.ensures.words) c.in-None.ensures
