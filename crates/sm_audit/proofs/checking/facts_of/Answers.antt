-- A fact more.
use Rattle.sm_audit.proofs.Imports.{◌≤◌, List, length, sym, ◌∙◌, subst, arith, take_all, Formula, as_facts, AllStand, AreFormsReady, forms_in}
use Rattle.sm_audit.proofs.BranchLemmas.{fact_put}
use Rattle.sm_audit.proofs.checking.facts_of.Goals as goal

pub loop-f-preserved : goal.loop-f-preserved
loop-f-preserved c = λ sorts trees ready.
    fact_put sorts trees c.deref-f-items.result.now c.loop-f.f-index c.f-item.result c.in_ok-copy_formula.field-0 c.loop-f.list.items
    c.push.new.self.items ready c.loop-f-test.true c.f-item.is c.in_ok-copy_formula.ensures c.in_ok-push.ensures.items
    (c.loop-f.invariant sorts trees ready)

pub returns : goal.returns
returns c = λ sorts trees ready.
    let fs = c.deref-f-items.result.now in
    let all : length fs ≤ c.loop-f.f-index = omega (arith, c.loop-f-test.false) in
    subst (λ (gs : List Formula). AllStand sorts trees c.loop-f.list.items (as_facts (forms_in sorts trees gs)))
    (take_all c.loop-f.f-index fs all ∙ c.deref-f-items.ensures.value)
    (c.loop-f.invariant sorts trees (subst (AreFormsReady sorts trees) (sym c.deref-f-items.ensures.value) ready))
