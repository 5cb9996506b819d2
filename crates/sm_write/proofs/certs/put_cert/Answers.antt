-- The line has the numbers that its terms have in the file.
use Rattle.sm_write.proofs.Imports.{◌≡◌, ℕ, ◌++◌, ap, ◌∙◌, subst, nat_eq, OnOk, get, NumberedLine, Cert, line_text, first_term, line_with, number_in, written}
use Rattle.sm_write.proofs.LinesWith.{written_with}
use Rattle.sm_write.proofs.certs.put_cert.Goals as goal

pub returns : goal.returns
returns c =
    let names = get nat_eq c.args.names.now in
    let l = c.args.line.now in
    let t = c.number_in-t.ensures ∙ ap (number_in names) c.first_term.ensures in
    let u = c.number_in-u.ensures ∙ ap (number_in names) c.second_term.ensures in
    let is : line_with l c.number_in-t.result c.number_in-u.result ≡ written names l =
    ap (λ (x : ℕ). line_with l x c.number_in-u.result) t ∙ (ap (line_with l (number_in names (first_term l))) u ∙ written_with names l) in
    subst
    (λ (n : NumberedLine). OnOk c.put_line_with.result (c.put_line_with.new.text.items ≡ c.args.text.now.items ++ line_text (Cert n)))
    is c.put_line_with.ensures
