-- The form has a part, and a form that lacks the earlier atoms is known only if it stands.
use Rattle.sm_fm.proofs.Imports.{◌≡◌, ◌<◌, ◌&&◌, Bool, false, not, length, sym, ap, ◌∙◌, arith, tests, list_any, has_no_part, Placed, same_form, standing}
use Rattle.sm_fm.proofs.PlaceLemmas.{some_part}
use Rattle.sm_fm.proofs.StandingLemmas.{stands_or_new}
use Rattle.sm_fm.proofs.state.State.is_new.Goals as goal

pub returns-then-not-is_empty : goal.returns-then-not-is_empty
returns-then-not-is_empty c =
    let s = c.args.self.now in
    let h = c.args.sum.now.form in
    let some : 0 < length c.parts.result.now = grind (arith, tests) in
    let none : has_no_part h.parts ≡ false = ap has_no_part (sym c.parts.ensures.parts) ∙ some_part c.parts.result.now some in
    ap not
    (c.contains.ensures ∙ c.requires.sound.known h
    ∙ sym (stands_or_new s.forms.items s.atom h (λ a below. c.requires.lacks a (omega arith))))
    ∙ ap (λ (b : Bool). not b && not (list_any (λ (f : Placed). same_form h f.form) (standing s.forms.items s.atom))) (sym none)
