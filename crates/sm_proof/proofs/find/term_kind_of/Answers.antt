use Rattle.sm_proof.proofs.Imports.{◌≡◌, ◌≢◌, ◌∙◌, Some, None, rules, term_word, term_kind_of, likely_term}
use Rattle.sm_proof.proofs.KindLemmas.{term_kind_is, term_kind_found}
use Rattle.sm_proof.proofs.LikelyLemmas.{none_likely, likely_is, other_likely, term_likely}
use Rattle.sm_proof.proofs.find.term_kind_of.Goals as goal

pub returns-in_err-kind : goal.returns-in_err-kind
returns-in_err-kind c =
    let none : c.from_residual.result ≡ None = search rules in
    let unlikely : None ≡ likely_term c.args.word.now = search rules in
    none ∙ none_likely term_word term_kind_of likely_term term_kind_is term_kind_found term_likely c.args.word.now unlikely

pub returns-then-eq : goal.returns-then-eq
returns-then-eq c =
    let same : term_word c.in_ok-kind.kind ≡ c.args.word.now = search rules in
    likely_is term_word term_kind_of likely_term term_kind_is term_kind_found term_likely c.args.word.now c.in_ok-kind.kind same

pub returns-else-eq : goal.returns-else-eq
returns-else-eq c =
    let likely : Some c.in_ok-kind.kind ≡ likely_term c.args.word.now = search rules in
    let other : term_word c.in_ok-kind.kind ≢ c.args.word.now = search rules in
    other_likely term_word term_kind_of likely_term term_kind_is term_kind_found term_likely c.args.word.now c.in_ok-kind.kind likely other
