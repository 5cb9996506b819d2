-- An array that gets its elements gets its value.
use Rattle.sm_replay.proofs.Imports.{Some, sym, ap, subst, ◌∙◌, on_ok_weaker, Sorts, Sort, meaning, zero_of, GivesValue, Overrides, elements_below, value_in_trial}
use Rattle.sm_replay.proofs.UpdatesSound.{array_of, overrides_give}
use Rattle.sm_replay.proofs.trials.give_sorted.Goals as goal

pub returns-in-Arr-clause-value : goal.returns-in-Arr-clause-value
returns-in-Arr-clause-value c =
    on_ok_weaker c.give_elements.result
    (λ (o : Overrides (elements_below 8 c.args.j c.args.x.0) c.args.x.0 (meaning c.args.s.now) (meaning c.give_elements.new.s)).
    subst (λ (sort : Sort).
    GivesValue (zero_of (Some sort)) (value_in_trial c.args.j c.args.x.0 (Some sort)) c.args.x.0 (meaning c.args.s.now)
    (meaning c.give_elements.new.s)) (sym c.in-Arr.is)
    (overrides_give (elements_below 8 c.args.j c.args.x.0) c.args.x.0 (meaning c.args.s.now) (meaning c.give_elements.new.s) o
    (array_of c.give_elements.new.s c.args.x.0
    (ap (λ (f : Sorts). f c.args.x.0) c.give_elements.ensures.sorts ∙ c.requires ∙ ap Some c.in-Arr.is))))
    c.give_elements.ensures.value
