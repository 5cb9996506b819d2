-- A form with the variable is counted, another stays.
use Rattle.sm_exact.proofs.Imports.{if◌then◌else◌, Bool, sym, ap, ◌∙◌, eliminated, Stay, Count, eliminated_item}
use Rattle.sm_exact.proofs.EntryLemmas.{item_is, form_stays}
use Rattle.sm_exact.proofs.equation.eliminate.Goals as goal

pub returns-then-has : goal.returns-then-has
returns-then-has c =
    let o = eliminated c.args.f c.args.e.now c.args.t in
    item_is c.args.steps c.args.count c.args.out.items (eliminated_item c.args.e.now c.args.t c.args.f) (Count o) c.enter_eliminated.result
    (ap (λ (b : Bool). if b then Count o else Stay c.args.f) (sym c.has.ensures ∙ c.if-has.true)) c.enter_eliminated.ensures

pub returns : goal.returns
returns c =
    let o = eliminated c.args.f c.args.e.now c.args.t in
    form_stays c.args.steps c.args.count c.args.out.items (eliminated_item c.args.e.now c.args.t c.args.f) c.args.f c.stay.result
    (ap (λ (b : Bool). if b then Count o else Stay c.args.f) (sym c.has.ensures ∙ c.if-has.false)) c.stay.ensures
