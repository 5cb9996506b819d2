-- A form with the variable is counted, another stays.
use Rattle.sm_exact.proofs.Imports.{if◌then◌else◌, Bool, pos, sym, ap, ◌∙◌, combined, Stay, Count, at, modular_item}
use Rattle.sm_exact.proofs.EntryLemmas.{item_is, form_stays}
use Rattle.sm_exact.proofs.equation.reduce.Goals as goal

pub returns-then-has : goal.returns-then-has
returns-then-has c =
    let f = c.args.f in
    let o = combined f (pos 1) c.args.d.now (at c.args.t f) f.kind in
    item_is c.args.steps c.args.count c.args.out.items (modular_item c.args.d.now c.args.t f) (Count o) c.enter_reduced.result
    (ap (λ (b : Bool). if b then Count o else Stay f) (sym c.has.ensures ∙ c.if-has.true)) c.enter_reduced.ensures

pub returns : goal.returns
returns c =
    let f = c.args.f in
    let o = combined f (pos 1) c.args.d.now (at c.args.t f) f.kind in
    form_stays c.args.steps c.args.count c.args.out.items (modular_item c.args.d.now c.args.t f) f c.stay.result
    (ap (λ (b : Bool). if b then Count o else Stay f) (sym c.has.ensures ∙ c.if-has.false)) c.stay.ensures
