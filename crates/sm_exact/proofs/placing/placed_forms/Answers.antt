-- The form of one more fact is there, or the fact has an atom without a place.
use Rattle.sm_exact.proofs.Imports.{List, take, subst, Fact, ArePlacedForms, SomeLacksPlace}
use Rattle.sm_exact.proofs.PlacingLemmas.{facts_more, fact_lacks}
use Rattle.sm_exact.proofs.placing.placed_forms.Goals as goal

pub loop-fact-preserved : goal.loop-fact-preserved
loop-fact-preserved c =
    let numbers = c.args.terms.now in
    let items = c.deref-fact-items.result.now in
    let i = c.loop-fact.fact-index in
    subst (λ (fs : List Fact). ArePlacedForms numbers fs c.place_fact.new.forms.items)
    (facts_more items i c.fact-item.result c.loop-fact-test.true c.fact-item.is)
    (c.in_ok-place_fact.ensures.placed c.if-not-branch.false (take i items) c.loop-fact.invariant)

pub returns-then-not-branch-clause-none : goal.returns-then-not-branch-clause-none
returns-then-not-branch-clause-none c =
    let items = c.deref-fact-items.result.now in
    subst (SomeLacksPlace c.args.terms.now) c.deref-fact-items.ensures.value
    (fact_lacks c.args.terms.now items c.loop-fact.fact-index c.fact-item.result c.loop-fact-test.true c.fact-item.is
    (c.in_ok-place_fact.ensures.lacks c.if-not-branch.true))
