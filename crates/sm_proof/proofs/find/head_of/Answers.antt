use Rattle.sm_proof.proofs.Imports.{◌≡◌, ◌≢◌, ◌∙◌, Some, None, rules, head_word, head_of, likely_head}
use Rattle.sm_proof.proofs.KindLemmas.{head_is, head_found}
use Rattle.sm_proof.proofs.LikelyLemmas.{none_likely, likely_is, other_likely, head_likely}
use Rattle.sm_proof.proofs.find.head_of.Goals as goal

pub returns-in_err-head : goal.returns-in_err-head
returns-in_err-head c =
    let none : c.from_residual.result ≡ None = search rules in
    let unlikely : None ≡ likely_head c.args.word.now = search rules in
    none ∙ none_likely head_word head_of likely_head head_is head_found head_likely c.args.word.now unlikely

pub returns-then-eq : goal.returns-then-eq
returns-then-eq c =
    let same : head_word c.in_ok-head.head ≡ c.args.word.now = search rules in
    likely_is head_word head_of likely_head head_is head_found head_likely c.args.word.now c.in_ok-head.head same

pub returns-else-eq : goal.returns-else-eq
returns-else-eq c =
    let likely : Some c.in_ok-head.head ≡ likely_head c.args.word.now = search rules in
    let other : head_word c.in_ok-head.head ≢ c.args.word.now = search rules in
    other_likely head_word head_of likely_head head_is head_found head_likely c.args.word.now c.in_ok-head.head likely other
