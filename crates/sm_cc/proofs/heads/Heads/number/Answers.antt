-- A term's head stands at its number.
use Rattle.sm_cc.proofs.Imports.{Some, Option, sym, ap, ◌∙◌, subst, Contents, contents_of, IsHeadAt, heads_met}
use Rattle.std.specs.Option.{option_map}
use Rattle.sm_cc.proofs.heads.Heads.number.Goals as goal

pub returns-in_ok-number-in-Some-clause-head : goal.returns-in_ok-number-in-Some-clause-head
returns-in_ok-number-in-Some-clause-head c =
    let held = sym (ap (option_map contents_of) c.in-Some.is) ∙ c.in_ok-head.ensures in
    subst (λ (o : Option Contents). IsHeadAt (heads_met c.place.new.self) o (Some c.in_ok-number-in-Some.number)) held c.in_ok-number-in-Some.ensures.head
