-- The one state is ready.
use Rattle.sm_plan.proofs.Imports.{◌≡◌, [], ◌∷◌, sym, subst, ◌∙◌, AreSuccessorsReady, Successor}
use Rattle.sm_plan.proofs.successors.follows_one.Goals as goal

pub returns-clause-ready : goal.returns-clause-ready
returns-clause-ready c = λ sorts trees h g.
    let one : Successor = c.in_ok-one.one in
    let items : c.followed.result.states.items ≡ one ∷ [] = c.followed.ensures.states ∙ c.in_ok-states.ensures.items in
    subst (AreSuccessorsReady sorts trees) (sym items) (c.in_ok-one.ensures.ready sorts trees h g, tt)
