-- By the kind of the line.
use Rattle.sm_write.proofs.Imports.{◌≡◌, ℕ, List, [], ◌∷◌, ◌++◌, sym, subst, OnOk, Line, line_text}
use Rattle.sm_proof.specs.Lines.{line_of}
use Rattle.sm_write.proofs.BytesLemmas.{version_line}
use Rattle.sm_write.proofs.spelling.put_any.Goals as goal

pub returns-in-Header : goal.returns-in-Header
returns-in-Header c =
    let old = c.args.text.now.items in
    let new = c.put_line.new.text.items in
    subst (λ (l : Line). OnOk c.put_line.result (new ≡ old ++ line_text (line_of l))) (sym c.in-Header.is)
    (subst (λ (b : List ℕ). OnOk c.put_line.result (new ≡ old ++ b)) (version_line c.in-Header.version) c.put_line.ensures)
