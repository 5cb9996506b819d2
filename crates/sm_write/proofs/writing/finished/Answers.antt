-- The lines stand behind the version line.
use Rattle.sm_write.proofs.Imports.{ℕ, ◌++◌, List, ap, ◌∙◌, Header, line_text, version_where}
use Rattle.sm_write.proofs.writing.finished.Goals as goal

pub returns : goal.returns
returns c =
    let first = line_text (Header (version_where c.args.exact c.args.assumes)) in
    c.in_ok-extend_from_slice.ensures.items
    ∙ (λ i. c.in_ok-put_version.ensures i ++ c.args.lines.now)
    ∙ ap (λ (t : List ℕ). (t ++ first) ++ c.args.lines.now) c.new-text.ensures.items
