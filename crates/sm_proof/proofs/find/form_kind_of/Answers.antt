use Rattle.sm_proof.proofs.Imports.{◌≡◌, ◌≢◌, ◌∙◌, Some, None, rules, form_word, form_kind_of, likely_form}
use Rattle.sm_proof.proofs.KindLemmas.{form_kind_is, form_kind_found}
use Rattle.sm_proof.proofs.LikelyLemmas.{none_likely, likely_is, other_likely, form_likely}
use Rattle.sm_proof.proofs.find.form_kind_of.Goals as goal

pub returns-in_err-kind : goal.returns-in_err-kind
returns-in_err-kind c =
    let none : c.from_residual.result ≡ None = search rules in
    let unlikely : None ≡ likely_form c.args.word.now = search rules in
    none ∙ none_likely form_word form_kind_of likely_form form_kind_is form_kind_found form_likely c.args.word.now unlikely

pub returns-then-eq : goal.returns-then-eq
returns-then-eq c =
    let same : form_word c.in_ok-kind.kind ≡ c.args.word.now = search rules in
    likely_is form_word form_kind_of likely_form form_kind_is form_kind_found form_likely c.args.word.now c.in_ok-kind.kind same

pub returns-else-eq : goal.returns-else-eq
returns-else-eq c =
    let likely : Some c.in_ok-kind.kind ≡ likely_form c.args.word.now = search rules in
    let other : form_word c.in_ok-kind.kind ≢ c.args.word.now = search rules in
    other_likely form_word form_kind_of likely_form form_kind_is form_kind_found form_likely c.args.word.now c.in_ok-kind.kind likely other
