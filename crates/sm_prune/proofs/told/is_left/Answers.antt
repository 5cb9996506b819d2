-- The last mark is that of what the line makes.
use Rattle.sm_prune.proofs.Imports.{◌≡◌, ℕ, Bool, List, sym, subst, ProofLine, line_of, Line, forms_after, is_left, left_passes, terms_after, names_form, names_term, AreMarked}
use Rattle.sm_prune.proofs.told.is_left.Goals as goal

pub returns-in-Term : goal.returns-in-Term
returns-in-Term c =
    let r = c.take_mark.result in
    let new = c.take_mark.new.marks.items in
    let terms = c.args.terms.now.items in
    let forms = c.args.forms.now.items in
    subst
    (λ (l : Line). (at at_forms : ℕ) (bs : List Bool) (lines : List ProofLine) →
    AreMarked (terms_after at (line_of l)) (forms_after at_forms (line_of l)) terms forms bs lines →
    (r ≡ is_left at at_forms (line_of l) bs lines) × AreMarked at at_forms new forms bs lines)
    (sym c.in-Term.is)
    (λ at at_forms bs lines marked.
    let t = c.take_mark.ensures at (λ n. left_passes (names_term n) bs lines) marked.0 in (t.0, (t.1, marked.1)))

pub returns-in-Form : goal.returns-in-Form
returns-in-Form c =
    let r = c.take_mark-in-Form.result in
    let new = c.take_mark-in-Form.new.marks.items in
    let terms = c.args.terms.now.items in
    let forms = c.args.forms.now.items in
    subst
    (λ (l : Line). (at at_forms : ℕ) (bs : List Bool) (lines : List ProofLine) →
    AreMarked (terms_after at (line_of l)) (forms_after at_forms (line_of l)) terms forms bs lines →
    (r ≡ is_left at at_forms (line_of l) bs lines) × AreMarked at at_forms terms new bs lines)
    (sym c.in-Form.is)
    (λ at at_forms bs lines marked.
    let t = c.take_mark-in-Form.ensures at_forms (λ n. left_passes (names_form n) bs lines) marked.1 in (t.0, (marked.0, t.1)))
