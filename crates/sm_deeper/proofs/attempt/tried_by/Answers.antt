-- The obligations are ready, and the table is of the declarations to the end.
use Rattle.sm_deeper.proofs.Imports.{Option, sym, subst, ◌∙◌, trees_in, sorts_in, AreDuesReady, Asked}
use Rattle.std.proofs.Common.{IfSome}
use Rattle.sm_deeper.proofs.attempt.tried_by.Goals as goal

pub end_of-requires-after_bounds : goal.end_of-requires-after_bounds
end_of-requires-after_bounds g c κs within =
    let w = c.settled_by.new.table in
    subst (AreDuesReady (sorts_in w) (trees_in w)) (sym c.deref.ensures.value)
    (subst (λ (o : Option Asked). IfSome o (λ a. AreDuesReady (sorts_in w) (trees_in w) a.dues.items)) c.in-Some.is c.in_ok-found.ensures.ready)

pub returns : goal.returns
returns g c = c.in_ok-end.ensures.sorts ∙ c.in_ok-found.ensures.declared
