use Rattle.sm_cert.proofs.Imports.{◌++◌, ◌+◌, List, drop, get_or, sym, subst, BranchFact, FactStands, AllStand, Fact}
use Rattle.sm_cert.proofs.WaysLemmas.{copied_more}
use Rattle.sm_cert.proofs.copies.copy_branch.Goals as goal

pub loop-fact-preserved : goal.loop-fact-preserved
loop-fact-preserved c = λ sorts trees facts all.
    let path = c.deref-fact-items.result.now in
    let i = c.loop-fact.fact-index in
    let item = c.fact-item.result in
    let copy = c.in_ok-copy_fact.field-0 in
    subst (λ (fs : List Fact). AllStand sorts trees (fs ++ drop (i + 1) path) facts) (sym c.in_ok-push.ensures.items)
    (copied_more sorts trees path i c.loop-fact.list.items copy facts item c.loop-fact-test.true
    (c.loop-fact.invariant sorts trees facts all)
    (λ (k : BranchFact) (stands : FactStands sorts trees (get_or path i item) k). c.in_ok-copy_fact.ensures sorts trees k
    (subst (λ (f : Fact). FactStands sorts trees f k) (sym c.fact-item.is) stands)))
