use Rattle.sm_proof.proofs.Imports.{◌≡◌, ◌≢◌, ◌∙◌, Some, None, Err, rules, behind, fault_word, version_word, line_of, words_of, read_version}
use Rattle.sm_proof.proofs.ReadLemmas.{fault_answer, same_answer, words_headed, words_version}
use Rattle.sm_proof.proofs.read.line_by_words.Goals as goal

pub returns-in_err-version : goal.returns-in_err-version
returns-in_err-version c =
    let e = c.in_err-version.field-0.0 in
    let same : c.split_word.result.0.now ≡ version_word = search rules in
    let is = words_version (words_of c.args.bytes.now) c.split_word.result.0.now
    (behind c.split_word.result.1.now) c.split_word.ensures.words same in
    let told : read_version (behind c.split_word.result.1.now) ≡ Err (fault_word e) = search rules in
    fault_answer _ c.from_residual.result line_of e (is ∙ told) (search rules)

pub returns-then-eq : goal.returns-then-eq
returns-then-eq c =
    let same : c.split_word.result.0.now ≡ version_word = search rules in
    words_version (words_of c.args.bytes.now) c.split_word.result.0.now (behind c.split_word.result.1.now) c.split_word.ensures.words same
    ∙ c.in_ok-version.ensures

pub returns-in-Some : goal.returns-in-Some
returns-in-Some c =
    let other : c.split_word.result.0.now ≢ version_word = search rules in
    same_answer _ _ c.line_by_head.result line_of
    (words_headed (words_of c.args.bytes.now) c.split_word.result.0.now (behind c.split_word.result.1.now) (Some c.in-Some.head)
    c.split_word.ensures.words other c.in-Some.ensures)
    c.line_by_head.ensures

pub returns-in-None : goal.returns-in-None
returns-in-None c =
    let other : c.split_word.result.0.now ≢ version_word = search rules in
    words_headed (words_of c.args.bytes.now) c.split_word.result.0.now (behind c.split_word.result.1.now) None
    c.split_word.ensures.words other c.in-None.ensures
