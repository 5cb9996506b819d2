-- The version line has one word and a number.
use Rattle.sm_write.proofs.Imports.{◌≡◌, ℕ, List, [], ◌∷◌, ◌++◌, ap, subst, ◌∙◌, OnOk, version_word, Header, one_word, line_text, version_where}
use Rattle.sm_write.proofs.BytesLemmas.{version_line}
use Rattle.sm_write.proofs.text.put_version.Goals as goal

pub returns : goal.returns
returns c =
    let n = version_where c.args.has_exact c.args.assumes in
    let line : one_word version_word (c.version_where-version.result ∷ []) ≡ line_text (Header n) =
    ap (λ (m : ℕ). one_word version_word (m ∷ [])) c.version_where-version.ensures ∙ version_line n in
    subst (λ (b : List ℕ). OnOk c.put_line.result (c.put_line.new.text.items ≡ c.args.text.now.items ++ b)) line c.put_line.ensures
