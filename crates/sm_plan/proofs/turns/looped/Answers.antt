-- What comes after the loops stands behind the turns.
use Rattle.sm_plan.proofs.Imports.{List, [], ◌∷◌, ◌++◌, map, sym, ap, ◌∙◌, subst, map-append, AreSuccessorsReady, Successor, State, successor_in}
use Rattle.sm_plan.proofs.TurnsMade.{successors_push}
use Rattle.sm_plan.proofs.turns.looped.Goals as goal

pub returns-clause-states : goal.returns-clause-states
returns-clause-states c = λ sorts trees facts.
    let turns : List Successor = c.args.made.turns.items in
    let after : Successor = c.in_ok-after.after in
    let succ = successor_in sorts trees facts in
    ap (map succ) c.in_ok-push.ensures.items ∙ map-append succ turns (after ∷ [])
    ∙ ap (λ (s : State). map succ turns ++ s ∷ []) (c.in_ok-after.ensures.made sorts trees facts)

pub returns-clause-ready : goal.returns-clause-ready
returns-clause-ready c = λ sorts trees well head target good.
    let turns : List Successor = c.args.made.turns.items in
    let after : Successor = c.in_ok-after.after in
    subst (AreSuccessorsReady sorts trees) (sym c.in_ok-push.ensures.items)
    (successors_push sorts trees turns after good (c.in_ok-after.ensures.ready sorts trees well head target))
