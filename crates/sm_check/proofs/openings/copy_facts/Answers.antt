-- One fact more.
use Rattle.sm_check.proofs.Imports.{◌++◌, ◌+◌, List, drop, get_or, sym, subst, BranchFact, FactStands, AllStand, Fact, copied_more}
use Rattle.sm_check.proofs.openings.copy_facts.Goals as goal

pub loop-fact-preserved : goal.loop-fact-preserved
loop-fact-preserved c = λ sorts trees ks all.
    let path = c.args.facts.now in
    let i = c.loop-fact.fact-index in
    let item = c.fact-item.result in
    let copy = c.in_ok-copy_fact.field-0 in
    subst (λ (fs : List Fact). AllStand sorts trees (fs ++ drop (i + 1) path) ks) (sym c.in_ok-push.ensures.items)
    (copied_more sorts trees path i c.loop-fact.list.items copy ks item c.loop-fact-test.true (c.loop-fact.invariant sorts trees ks all)
    (λ (k : BranchFact) (stands : FactStands sorts trees (get_or path i item) k). c.in_ok-copy_fact.ensures sorts trees k
    (subst (λ (f : Fact). FactStands sorts trees f k) (sym c.fact-item.is) stands)))
