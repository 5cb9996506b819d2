-- The fact is a form.
use Rattle.sm_lia.proofs.Imports.{Option, Some, IfOk, Linear, Fits, Tree, trees_in, sorts_in, BranchFact, Sum, form_at, StandsIf, tightened_stands, one_place}
use Rattle.sm_num.specs.Tightening.{tightened}
use Rattle.sm_lia.proofs.ComputingLemmas.{followed_form, returned_for}
use Rattle.sm_lia.proofs.cancelling.tight.Goals as goal

pub returns-in-Some : goal.returns-in-Some
returns-in-Some c = λ facts all.
    let trees = trees_in c.args.table.now in
    let sorts = sorts_in c.args.table.now in
    let f = c.in-Some.f.now in
    let distinct = one_place trees c.len-count.ensures.apart in
    followed_form trees f (form_at facts c.args.n) (λ (g : Linear Tree). Some (Sum (tightened g)))
    (λ (k : Option BranchFact). IfOk c.fact_of.result (λ o. StandsIf sorts trees o k))
    (c.in-Some.ensures sorts trees facts all)
    (λ g keeps. c.fact_of.ensures sorts trees (Fits (tightened g))
    (returned_for trees (Fits (tightened f)) (Fits (tightened g)) c.tighten.result
    (tightened_stands trees distinct f g keeps) c.tighten.ensures))
