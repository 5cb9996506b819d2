-- The parts of the assumption's formula.
use Rattle.sm_plan.proofs.Imports.{subst, IsWellSortedCondition, condition_of, store_in, trees_in, sorts_in}
use Rattle.std.specs.Option.{IfSome}
use Rattle.sm_plan.proofs.ForksOpened.{fact_ready}
use Rattle.sm_plan.proofs.SortedTerms.{form_sorted}
use Rattle.sm_plan.proofs.TablesWiden.{widens_grown}
use Rattle.sm_plan.proofs.start.start_facts.Goals as goal

pub returns-in_ok-facts-in-Some-clause-ready : goal.returns-in_ok-facts-in-Some-clause-ready
returns-in_ok-facts-in-Some-clause-ready c =
    let v = c.args.table.now in
    let w = c.form_of.new.table in
    let s = c.args.store.now in
    let b = condition_of c.in-Some.b.now in
    let well = subst (λ o. IfSome o (λ b. IsWellSortedCondition (sorts_in v) (condition_of b.now))) c.in-Some.is c.requires.assumed in
    let sorted = form_sorted (sorts_in v) b (store_in (trees_in v) s) well c.requires.ready.1 in
    c.in_ok-facts-in-Some.ensures.ready (sorts_in w) (trees_in w)
    (fact_ready v w (widens_grown v w c.form_of.ensures.grows) s b c.in_ok-fact-in-Some.fact c.in_ok-fact-in-Some.ensures.made
    c.in_ok-fact-in-Some.ensures.within sorted)
