-- By the kind of the line.
use Rattle.sm_write.proofs.Imports.{◌≡◌, ℕ, List, [], ◌∷◌, ◌++◌, refl, sym, subst, OnOk, head_word, form_word, Form, FormLine, line_text}
use Rattle.sm_proof.specs.declared.line.FormLine.TheVariants as v
use Rattle.sm_proof.specs.declared.kind.FormKind.TheVariants as kind
use Rattle.sm_proof.specs.declared.word.Head.TheVariants as head
use Rattle.sm_write.proofs.BytesLemmas.{two_words_line}
use Rattle.sm_write.proofs.text.put_form.Goals as goal

pub returns-in-Yes : goal.returns-in-Yes
returns-in-Yes c =
    let old = c.args.text.now.items in
    let new = c.put_form_kind.new.text.items in
    subst (λ (l : FormLine). OnOk c.put_form_kind.result (new ≡ old ++ line_text (Form l))) (sym c.in-Yes.is)
    (subst (λ (b : List ℕ). OnOk c.put_form_kind.result (new ≡ old ++ b))
    (two_words_line (Form v.Yes) (head_word head.P) (form_word kind.Yes) ([]) refl) c.put_form_kind.ensures)

pub returns-in-No : goal.returns-in-No
returns-in-No c =
    let old = c.args.text.now.items in
    let new = c.put_form_kind-in-No.new.text.items in
    subst (λ (l : FormLine). OnOk c.put_form_kind-in-No.result (new ≡ old ++ line_text (Form l))) (sym c.in-No.is)
    (subst (λ (b : List ℕ). OnOk c.put_form_kind-in-No.result (new ≡ old ++ b))
    (two_words_line (Form v.No) (head_word head.P) (form_word kind.No) ([]) refl) c.put_form_kind-in-No.ensures)

pub returns-in-Eq : goal.returns-in-Eq
returns-in-Eq c =
    let old = c.args.text.now.items in
    let new = c.put_form_kind-in-Eq.new.text.items in
    subst (λ (l : FormLine). OnOk c.put_form_kind-in-Eq.result (new ≡ old ++ line_text (Form l))) (sym c.in-Eq.is)
    (subst (λ (b : List ℕ). OnOk c.put_form_kind-in-Eq.result (new ≡ old ++ b))
    (two_words_line (Form (v.Eq c.in-Eq.t c.in-Eq.u)) (head_word head.P) (form_word kind.Eq)
    (c.in-Eq.t ∷ c.in-Eq.u ∷ []) refl) c.put_form_kind-in-Eq.ensures)

pub returns-in-Ne : goal.returns-in-Ne
returns-in-Ne c =
    let old = c.args.text.now.items in
    let new = c.put_form_kind-in-Ne.new.text.items in
    subst (λ (l : FormLine). OnOk c.put_form_kind-in-Ne.result (new ≡ old ++ line_text (Form l))) (sym c.in-Ne.is)
    (subst (λ (b : List ℕ). OnOk c.put_form_kind-in-Ne.result (new ≡ old ++ b))
    (two_words_line (Form (v.Ne c.in-Ne.t c.in-Ne.u)) (head_word head.P) (form_word kind.Ne)
    (c.in-Ne.t ∷ c.in-Ne.u ∷ []) refl) c.put_form_kind-in-Ne.ensures)

pub returns-in-Le : goal.returns-in-Le
returns-in-Le c =
    let old = c.args.text.now.items in
    let new = c.put_form_kind-in-Le.new.text.items in
    subst (λ (l : FormLine). OnOk c.put_form_kind-in-Le.result (new ≡ old ++ line_text (Form l))) (sym c.in-Le.is)
    (subst (λ (b : List ℕ). OnOk c.put_form_kind-in-Le.result (new ≡ old ++ b))
    (two_words_line (Form (v.Le c.in-Le.t c.in-Le.u)) (head_word head.P) (form_word kind.Le)
    (c.in-Le.t ∷ c.in-Le.u ∷ []) refl) c.put_form_kind-in-Le.ensures)

pub returns-in-Lt : goal.returns-in-Lt
returns-in-Lt c =
    let old = c.args.text.now.items in
    let new = c.put_form_kind-in-Lt.new.text.items in
    subst (λ (l : FormLine). OnOk c.put_form_kind-in-Lt.result (new ≡ old ++ line_text (Form l))) (sym c.in-Lt.is)
    (subst (λ (b : List ℕ). OnOk c.put_form_kind-in-Lt.result (new ≡ old ++ b))
    (two_words_line (Form (v.Lt c.in-Lt.t c.in-Lt.u)) (head_word head.P) (form_word kind.Lt)
    (c.in-Lt.t ∷ c.in-Lt.u ∷ []) refl) c.put_form_kind-in-Lt.ensures)

pub returns-in-And : goal.returns-in-And
returns-in-And c =
    let old = c.args.text.now.items in
    let new = c.put_form_kind-in-And.new.text.items in
    subst (λ (l : FormLine). OnOk c.put_form_kind-in-And.result (new ≡ old ++ line_text (Form l))) (sym c.in-And.is)
    (subst (λ (b : List ℕ). OnOk c.put_form_kind-in-And.result (new ≡ old ++ b))
    (two_words_line (Form (v.And c.in-And.p c.in-And.q)) (head_word head.P) (form_word kind.And)
    (c.in-And.p ∷ c.in-And.q ∷ []) refl) c.put_form_kind-in-And.ensures)

pub returns-in-Or : goal.returns-in-Or
returns-in-Or c =
    let old = c.args.text.now.items in
    let new = c.put_form_kind-in-Or.new.text.items in
    subst (λ (l : FormLine). OnOk c.put_form_kind-in-Or.result (new ≡ old ++ line_text (Form l))) (sym c.in-Or.is)
    (subst (λ (b : List ℕ). OnOk c.put_form_kind-in-Or.result (new ≡ old ++ b))
    (two_words_line (Form (v.Or c.in-Or.p c.in-Or.q)) (head_word head.P) (form_word kind.Or)
    (c.in-Or.p ∷ c.in-Or.q ∷ []) refl) c.put_form_kind-in-Or.ensures)
