-- What is left of each copy is well sorted at loops, too.
use Rattle.sm_candidates.proofs.Imports.{Option, IfSome, subst, sorts_in}
use Rattle.sm_observed.specs.LoopStates.{IsLoopSorted}
use Rattle.sm_observed.specs.declared.states.LoopState.{LoopState}
use Rattle.sm_candidates.proofs.candidates.put_site.Goals as goal

pub formulas_at-requires-clause-sorted : goal.formulas_at-requires-clause-sorted
formulas_at-requires-clause-sorted c =
    let sorts = sorts_in c.args.table.now in
    subst (λ (o : Option LoopState). IfSome o (IsLoopSorted sorts)) c.in-Some.is (c.in_ok-state.ensures sorts c.requires.state.rests)
