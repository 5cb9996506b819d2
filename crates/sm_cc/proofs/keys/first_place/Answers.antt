-- A key that was met has its place, another gets this one.
use Rattle.sm_cc.proofs.Imports.{sym, ◌∙◌, ap, met_at}
use Rattle.sm_cc.proofs.FirstsLemmas.{met_already, met_now}
use Rattle.sm_cc.proofs.keys.first_place.Goals as goal

pub returns-in-Some-clause-met : goal.returns-in-Some-clause-met
returns-in-Some-clause-met c = λ v.
    met_already (met_at c.args.met.now) c.args.key.items v.items c.args.place c.in-Some.first.now (sym c.in-Some.ensures.value)

pub returns-in_ok-insert-in-None-clause-met : goal.returns-in_ok-insert-in-None-clause-met
returns-in_ok-insert-in-None-clause-met c = λ v.
    let old = met_at c.args.met.now in
    met_now (old v.items) (met_at c.insert.new.self v.items) c.args.key.items v.items c.args.place
    (λ same. sym (ap old same) ∙ sym c.in-None.ensures.value) (c.in_ok-insert-in-None.ensures.updates.0 v)
