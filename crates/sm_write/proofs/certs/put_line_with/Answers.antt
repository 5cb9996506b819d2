-- The first word is that of the line.
use Rattle.sm_write.proofs.Imports.{◌≡◌, List, ℕ, ◌++◌, refl, ap, sym, subst, ◌∙◌, OnOk, numbers_of, head_word, NumberedLine, Cert, line_head, Head, one_word, line_with}
use Rattle.sm_write.proofs.BytesLemmas.{one_word_line}
use Rattle.sm_write.proofs.LinesWith.{head_with}
use Rattle.sm_write.proofs.certs.put_line_with.Goals as goal

pub returns : goal.returns
returns c =
    let l : NumberedLine = line_with c.args.line.now c.args.t c.args.u in
    let head = c.line_head.ensures ∙ sym (head_with c.args.line.now c.args.t c.args.u) in
    subst (λ (b : List ℕ). OnOk c.put_behind.result (c.put_behind.new.text.items ≡ c.args.text.now.items ++ b))
    (ap (λ (h : Head). one_word (head_word h) (numbers_of l)) head
    ∙ one_word_line (Cert l) (head_word (line_head l)) (numbers_of l) refl) c.put_behind.ensures
