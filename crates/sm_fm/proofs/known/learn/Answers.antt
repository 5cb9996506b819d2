-- The set says of each form whether it has it.
use Rattle.sm_fm.proofs.Imports.{◌≡◌, ◌||◌, Bool, true, false, cond, refl, ◌∙◌, same_form, knows}
use Rattle.sm_fm.proofs.known.learn.Goals as goal

chosen : (a b : Bool) → cond a true b ≡ (a || b)
chosen true b = refl
chosen false b = refl

pub returns-clause-ok : goal.returns-clause-ok
returns-clause-ok c = λ h.
    c.in_ok-insert.ensures.updates.0 (record { form = h }) ∙ chosen (same_form c.args.form.form h) (knows c.args.known.now.keys h)
