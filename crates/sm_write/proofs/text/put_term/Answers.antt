-- By the kind of the line.
use Rattle.sm_write.proofs.Imports.{◌≡◌, ℕ, List, [], ◌∷◌, ◌++◌, refl, sym, subst, OnOk, head_word, term_word, TermLine, line_text}
use Rattle.sm_proof.specs.declared.line.TermLine.TheVariants as v
use Rattle.sm_proof.specs.declared.kind.TermKind.TheVariants as kind
use Rattle.sm_proof.specs.declared.word.Head.TheVariants as head
use Rattle.sm_proof.specs.Lines.{Term}
use Rattle.sm_write.proofs.BytesLemmas.{two_words_line}
use Rattle.sm_write.proofs.text.put_term.Goals as goal

pub returns-in-Start : goal.returns-in-Start
returns-in-Start c =
    let old = c.args.text.now.items in
    let new = c.put_kind.new.text.items in
    subst (λ (l : TermLine). OnOk c.put_kind.result (new ≡ old ++ line_text (Term l))) (sym c.in-Start.is)
    (subst (λ (b : List ℕ). OnOk c.put_kind.result (new ≡ old ++ b))
    (two_words_line (Term (v.Start c.in-Start.x)) (head_word head.T) (term_word kind.Start) (c.in-Start.x ∷ []) refl) c.put_kind.ensures)

pub returns-in-Cell : goal.returns-in-Cell
returns-in-Cell c =
    let old = c.args.text.now.items in
    let new = c.put_kind-in-Cell.new.text.items in
    subst (λ (l : TermLine). OnOk c.put_kind-in-Cell.result (new ≡ old ++ line_text (Term l))) (sym c.in-Cell.is)
    (subst (λ (b : List ℕ). OnOk c.put_kind-in-Cell.result (new ≡ old ++ b))
    (two_words_line (Term v.Cell) (head_word head.T) (term_word kind.Cell) ([]) refl) c.put_kind-in-Cell.ensures)

pub returns-in-Slot : goal.returns-in-Slot
returns-in-Slot c =
    let old = c.args.text.now.items in
    let new = c.put_kind-in-Slot.new.text.items in
    subst (λ (l : TermLine). OnOk c.put_kind-in-Slot.result (new ≡ old ++ line_text (Term l))) (sym c.in-Slot.is)
    (subst (λ (b : List ℕ). OnOk c.put_kind-in-Slot.result (new ≡ old ++ b))
    (two_words_line (Term (v.Slot c.in-Slot.copy c.in-Slot.name)) (head_word head.T) (term_word kind.Slot)
    (c.in-Slot.copy ∷ c.in-Slot.name ∷ []) refl) c.put_kind-in-Slot.ensures)

pub returns-in-Cur : goal.returns-in-Cur
returns-in-Cur c =
    let old = c.args.text.now.items in
    let new = c.put_kind-in-Cur.new.text.items in
    subst (λ (l : TermLine). OnOk c.put_kind-in-Cur.result (new ≡ old ++ line_text (Term l))) (sym c.in-Cur.is)
    (subst (λ (b : List ℕ). OnOk c.put_kind-in-Cur.result (new ≡ old ++ b))
    (two_words_line (Term (v.Cur c.in-Cur.copy c.in-Cur.name)) (head_word head.T) (term_word kind.Cur)
    (c.in-Cur.copy ∷ c.in-Cur.name ∷ []) refl) c.put_kind-in-Cur.ensures)

pub returns-in-Of : goal.returns-in-Of
returns-in-Of c =
    let old = c.args.text.now.items in
    let new = c.put_kind-in-Of.new.text.items in
    subst (λ (l : TermLine). OnOk c.put_kind-in-Of.result (new ≡ old ++ line_text (Term l))) (sym c.in-Of.is)
    (subst (λ (b : List ℕ). OnOk c.put_kind-in-Of.result (new ≡ old ++ b))
    (two_words_line (Term (v.Of c.in-Of.fact c.in-Of.side)) (head_word head.T) (term_word kind.Of)
    (c.in-Of.fact ∷ c.in-Of.side ∷ []) refl) c.put_kind-in-Of.ensures)

pub returns-in-Arg : goal.returns-in-Arg
returns-in-Arg c =
    let old = c.args.text.now.items in
    let new = c.put_kind-in-Arg.new.text.items in
    subst (λ (l : TermLine). OnOk c.put_kind-in-Arg.result (new ≡ old ++ line_text (Term l))) (sym c.in-Arg.is)
    (subst (λ (b : List ℕ). OnOk c.put_kind-in-Arg.result (new ≡ old ++ b))
    (two_words_line (Term (v.Arg c.in-Arg.term c.in-Arg.place)) (head_word head.T) (term_word kind.Arg)
    (c.in-Arg.term ∷ c.in-Arg.place ∷ []) refl) c.put_kind-in-Arg.ensures)

pub returns-in-Read : goal.returns-in-Read
returns-in-Read c =
    let old = c.args.text.now.items in
    let new = c.put_kind-in-Read.new.text.items in
    subst (λ (l : TermLine). OnOk c.put_kind-in-Read.result (new ≡ old ++ line_text (Term l))) (sym c.in-Read.is)
    (subst (λ (b : List ℕ). OnOk c.put_kind-in-Read.result (new ≡ old ++ b))
    (two_words_line (Term (v.Read c.in-Read.t c.in-Read.u)) (head_word head.T) (term_word kind.Read)
    (c.in-Read.t ∷ c.in-Read.u ∷ []) refl) c.put_kind-in-Read.ensures)

pub returns-in-Write : goal.returns-in-Write
returns-in-Write c =
    let old = c.args.text.now.items in
    let new = c.put_kind-in-Write.new.text.items in
    subst (λ (l : TermLine). OnOk c.put_kind-in-Write.result (new ≡ old ++ line_text (Term l))) (sym c.in-Write.is)
    (subst (λ (b : List ℕ). OnOk c.put_kind-in-Write.result (new ≡ old ++ b))
    (two_words_line (Term (v.Write c.in-Write.t c.in-Write.u c.in-Write.v)) (head_word head.T) (term_word kind.Write)
    (c.in-Write.t ∷ c.in-Write.u ∷ c.in-Write.v ∷ []) refl) c.put_kind-in-Write.ensures)

pub returns-in-Neg : goal.returns-in-Neg
returns-in-Neg c =
    let old = c.args.text.now.items in
    let new = c.put_kind-in-Neg.new.text.items in
    subst (λ (l : TermLine). OnOk c.put_kind-in-Neg.result (new ≡ old ++ line_text (Term l))) (sym c.in-Neg.is)
    (subst (λ (b : List ℕ). OnOk c.put_kind-in-Neg.result (new ≡ old ++ b))
    (two_words_line (Term (v.Neg c.in-Neg.t)) (head_word head.T) (term_word kind.Neg) (c.in-Neg.t ∷ []) refl) c.put_kind-in-Neg.ensures)

pub returns-in-Add : goal.returns-in-Add
returns-in-Add c =
    let old = c.args.text.now.items in
    let new = c.put_kind-in-Add.new.text.items in
    subst (λ (l : TermLine). OnOk c.put_kind-in-Add.result (new ≡ old ++ line_text (Term l))) (sym c.in-Add.is)
    (subst (λ (b : List ℕ). OnOk c.put_kind-in-Add.result (new ≡ old ++ b))
    (two_words_line (Term (v.Add c.in-Add.t c.in-Add.u)) (head_word head.T) (term_word kind.Add)
    (c.in-Add.t ∷ c.in-Add.u ∷ []) refl) c.put_kind-in-Add.ensures)

pub returns-in-Sub : goal.returns-in-Sub
returns-in-Sub c =
    let old = c.args.text.now.items in
    let new = c.put_kind-in-Sub.new.text.items in
    subst (λ (l : TermLine). OnOk c.put_kind-in-Sub.result (new ≡ old ++ line_text (Term l))) (sym c.in-Sub.is)
    (subst (λ (b : List ℕ). OnOk c.put_kind-in-Sub.result (new ≡ old ++ b))
    (two_words_line (Term (v.Sub c.in-Sub.t c.in-Sub.u)) (head_word head.T) (term_word kind.Sub)
    (c.in-Sub.t ∷ c.in-Sub.u ∷ []) refl) c.put_kind-in-Sub.ensures)

pub returns-in-Mul : goal.returns-in-Mul
returns-in-Mul c =
    let old = c.args.text.now.items in
    let new = c.put_kind-in-Mul.new.text.items in
    subst (λ (l : TermLine). OnOk c.put_kind-in-Mul.result (new ≡ old ++ line_text (Term l))) (sym c.in-Mul.is)
    (subst (λ (b : List ℕ). OnOk c.put_kind-in-Mul.result (new ≡ old ++ b))
    (two_words_line (Term (v.Mul c.in-Mul.t c.in-Mul.u)) (head_word head.T) (term_word kind.Mul)
    (c.in-Mul.t ∷ c.in-Mul.u ∷ []) refl) c.put_kind-in-Mul.ensures)
