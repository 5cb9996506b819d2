-- The place is met for its key, or it has none.
use Rattle.sm_cc.proofs.Imports.{◌∙◌, ap, met_at, key_told}
use Rattle.sm_cc.proofs.FirstsLemmas.{firsts_none}
use Rattle.sm_cc.proofs.RegroundingLemmas.{meets_first}
use Rattle.sm_cc.proofs.regrounding.meet.Goals as goal

pub returns-in_ok-first_place-in-Some : goal.returns-in_ok-first_place-in-Some
returns-in_ok-first_place-in-Some c = λ key_of equal bound meet inside has.
    meets_first key_of equal bound (met_at c.args.met.now) (met_at c.first_place.new.met) c.args.i c.in_ok-first_place-in-Some.field-0
    c.in-Some.key meet inside (has ∙ ap key_told c.in-Some.is) c.in_ok-first_place-in-Some.ensures.met
    c.in_ok-first_place-in-Some.ensures.first

pub returns-in-None : goal.returns-in-None
returns-in-None c = λ key_of equal bound meet inside has.
    firsts_none key_of equal (met_at c.args.met.now) c.args.i (has ∙ ap key_told c.in-None.is)
