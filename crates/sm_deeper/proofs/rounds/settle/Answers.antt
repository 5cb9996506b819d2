-- What is asked stays ready while it is judged.
use Rattle.sm_deeper.proofs.Imports.{Option, sym, subst, ◌∙◌, trees_in, sorts_in, AreDuesReady, dues_ready, Asked}
use Rattle.std.proofs.Common.{IfSome}
use Rattle.sm_deeper.proofs.rounds.settle.Goals as goal

pub judged_by-requires-after_bounds : goal.judged_by-requires-after_bounds
judged_by-requires-after_bounds g c κs within =
    let w = c.asked_within.new.table in
    subst (AreDuesReady (sorts_in w) (trees_in w)) (sym c.deref.ensures.value)
    (subst (λ (o : Option Asked). IfSome o (λ a. AreDuesReady (sorts_in w) (trees_in w) a.dues.items)) c.in-Some.is c.in_ok-asked.ensures.ready)

pub returns-in-Closed-clause-ready : goal.returns-in-Closed-clause-ready
returns-in-Closed-clause-ready g c =
    let w = c.asked_within.new.table in
    dues_ready w c.judged_by.new.table c.in_ok-judged_by.ensures c.in-Some.asked.dues.items
    (subst (λ (o : Option Asked). IfSome o (λ a. AreDuesReady (sorts_in w) (trees_in w) a.dues.items)) c.in-Some.is c.in_ok-asked.ensures.ready)

pub returns-in-Closed-clause-declared : goal.returns-in-Closed-clause-declared
returns-in-Closed-clause-declared g c =
    c.in_ok-judged_by.ensures.sorts ∙ c.in_ok-asked.ensures.widens.sorts ∙ c.loop.invariant

pub loop-preserved : goal.loop-preserved
loop-preserved g c = c.in_ok-judged_by.ensures.sorts ∙ c.in_ok-asked.ensures.widens.sorts ∙ c.loop.invariant
