-- The line has the numbers of its terms.
use Rattle.sm_write.proofs.Imports.{◌≡◌, ℕ, ◌++◌, ap, ◌∙◌, subst, OnOk, NumberedLine, Cert, line_text, first_term, line_with, number_or}
use Rattle.sm_proof.specs.Lines.{numbered_line}
use Rattle.sm_write.proofs.LinesWith.{numbered_with}
use Rattle.sm_write.proofs.spelling.put_numbered.Goals as goal

pub returns : goal.returns
returns c =
    let l = c.args.line.now in
    let t = c.number_or_zero-t.ensures ∙ ap number_or c.first_term.ensures in
    let u = c.number_or_zero-u.ensures ∙ ap number_or c.second_term.ensures in
    let is : line_with l c.number_or_zero-t.result c.number_or_zero-u.result ≡ numbered_line l =
    ap (λ (x : ℕ). line_with l x c.number_or_zero-u.result) t ∙ (ap (line_with l (number_or (first_term l))) u ∙ numbered_with l) in
    subst
    (λ (n : NumberedLine). OnOk c.put_line_with.result (c.put_line_with.new.text.items ≡ c.args.text.now.items ++ line_text (Cert n)))
    is c.put_line_with.ensures
