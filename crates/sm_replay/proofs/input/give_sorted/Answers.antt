-- An array that gets its elements gets its value.
use Rattle.sm_replay.proofs.Imports.{Option, Some, option_map, Bor, sym, ap, subst, ◌∙◌, on_ok_weaker, view, Sorts, Sort, meaning, zero_of, GivesValue, Overrides, elements, given}
use Rattle.serde_json.specs.declared.value.Value.{Value}
use Rattle.sm_replay.proofs.UpdatesSound.{array_of, overrides_give}
use Rattle.sm_replay.proofs.input.give_sorted.Goals as goal

pub returns-in-Some-clause-value : goal.returns-in-Some-clause-value
returns-in-Some-clause-value c =
    on_ok_weaker c.give_array.result
    (λ (o : Overrides (elements (view c.in-Some.array.now)) c.args.x.0 (meaning c.args.s.now) (meaning c.give_array.new.s)).
    subst (λ (m : Option (Bor Value)).
    GivesValue (zero_of (Some c.args.sort)) (given (Some c.args.sort) (option_map (λ (v : Bor Value). view v.now) m)) c.args.x.0
    (meaning c.args.s.now) (meaning c.give_array.new.s)) (sym c.in-Some.is)
    (subst (λ (sort : Sort).
    GivesValue (zero_of (Some sort)) (given (Some sort) (Some (view c.in-Some.array.now))) c.args.x.0 (meaning c.args.s.now)
    (meaning c.give_array.new.s)) (sym c.in-Arr.is)
    (overrides_give (elements (view c.in-Some.array.now)) c.args.x.0 (meaning c.args.s.now) (meaning c.give_array.new.s) o
    (array_of c.give_array.new.s c.args.x.0
    (ap (λ (f : Sorts). f c.args.x.0) c.give_array.ensures.sorts ∙ c.requires ∙ ap Some c.in-Arr.is)))))
    c.give_array.ensures.value
