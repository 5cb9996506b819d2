-- The next form is known, too.
use Rattle.sm_fm.proofs.Imports.{◌||◌, ◌∷◌, ◌++◌, [], ℕ, Bool, take, sym, ap, ◌∙◌, list_any, take_more, list_any-append, Linear, same_form, knows}
use Rattle.sm_fm.proofs.KnowingLemmas.{or_turns, same_form-sym}
use Rattle.sm_fm.proofs.known.know_all.Goals as goal

pub loop-form-preserved : goal.loop-form-preserved
loop-form-preserved c = λ h.
    let forms = c.args.forms.now in
    let i = c.loop-form.form-index in
    let f = c.form-item.result in
    let before = take i forms in
    c.in_ok-learn.ensures.ok h
    ∙ ap (λ (g : Linear ℕ). same_form g h || knows c.loop-form.known.keys h) c.in_ok-copy.ensures
    ∙ ap (λ (b : Bool). same_form f h || b) (c.loop-form.invariant h)
    ∙ or_turns (same_form f h) (same_form h f) (list_any (same_form h) before) (same_form-sym f h)
    ∙ sym (list_any-append (same_form h) before (f ∷ []))
    ∙ ap (λ (g : Linear ℕ). list_any (same_form h) (before ++ g ∷ [])) c.form-item.is
    ∙ ap (list_any (same_form h)) (sym (take_more forms i f c.loop-form-test.true))
