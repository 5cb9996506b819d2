use Rattle.sm_proof.proofs.Imports.{◌≡◌, ◌≢◌, ◌∙◌, rules, codes, behind, Header}
use Rattle.sm_proof.proofs.TakingLemmas.{line_fault, some_behind, told_fault, version_known, version_other, version_read, version_unknown}
use Rattle.sm_proof.proofs.WordLemmas.{behind_from}
use Rattle.sm_proof.proofs.fields.version.Goals as goal

pub returns-in_err-words : goal.returns-in_err-words
returns-in_err-words c =
    let e = c.in_err-words.field-0.0 in
    let other = version_other (behind c.args.rest.now) c.in_err-words.ensures.0 in
    told_fault _ c.from_residual.result (λ v. Header v) e (line_fault e _ other c.in_err-words.ensures.1) (search rules)

pub returns-then-eq : goal.returns-then-eq
returns-then-eq c =
    let some = some_behind c.args.rest.now c.in_ok-words.ensures in
    let word = c.split_word.result.0.now in
    let text : word ≡ codes "1" = search rules in
    version_read (behind c.args.rest.now) word (behind c.split_word.result.1.now) _ c.in_ok-words.ensures
    (behind_from c.args.rest.now some ∙ c.split_word.ensures.words)
    ((version_known word).0 text)

pub returns-then-eq-2 : goal.returns-then-eq-2
returns-then-eq-2 c =
    let some = some_behind c.args.rest.now c.in_ok-words.ensures in
    let word = c.split_word.result.0.now in
    let text : word ≡ codes "2" = search rules in
    version_read (behind c.args.rest.now) word (behind c.split_word.result.1.now) _ c.in_ok-words.ensures
    (behind_from c.args.rest.now some ∙ c.split_word.ensures.words)
    ((version_known word).1 text)

pub returns-then-eq-3 : goal.returns-then-eq-3
returns-then-eq-3 c =
    let some = some_behind c.args.rest.now c.in_ok-words.ensures in
    let word = c.split_word.result.0.now in
    let text : word ≡ codes "3" = search rules in
    version_read (behind c.args.rest.now) word (behind c.split_word.result.1.now) _ c.in_ok-words.ensures
    (behind_from c.args.rest.now some ∙ c.split_word.ensures.words)
    ((version_known word).2 text)

pub returns-else-eq-3 : goal.returns-else-eq-3
returns-else-eq-3 c =
    let some = some_behind c.args.rest.now c.in_ok-words.ensures in
    let word = c.split_word.result.0.now in
    let no_1 : word ≢ codes "1" = search rules in
    let no_2 : word ≢ codes "2" = search rules in
    let no_3 : word ≢ codes "3" = search rules in
    version_read (behind c.args.rest.now) word (behind c.split_word.result.1.now) _ c.in_ok-words.ensures
    (behind_from c.args.rest.now some ∙ c.split_word.ensures.words)
    (version_unknown word no_1 no_2 no_3)
