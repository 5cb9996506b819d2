-- Both states are ready.
use Rattle.sm_plan.proofs.Imports.{◌≡◌, [], ◌∷◌, sym, ap, subst, ◌∙◌, AreSuccessorsReady, Successor}
use Rattle.sm_plan.proofs.successors.follows_two.Goals as goal

pub returns-clause-ready : goal.returns-clause-ready
returns-clause-ready c = λ sorts trees h g i j.
    let one : Successor = c.in_ok-one.one in
    let two : Successor = c.in_ok-two.two in
    let items : c.followed.result.states.items ≡ one ∷ two ∷ [] = c.followed.ensures.states ∙ c.in_ok-states.ensures.items in
    subst (AreSuccessorsReady sorts trees) (sym items)
    (c.in_ok-one.ensures.ready sorts trees h g, (c.in_ok-two.ensures.ready sorts trees i j, tt))
