-- The plan that was tested waits with the state.
use Rattle.sm_candidates.proofs.Imports.{[], ◌∷◌, ◌++◌, List, sym, ap, ◌∙◌, subst, trees_in, sorts_in, IsPlanReady, Waiting, AreWaitingReady}
use Rattle.std.proofs.lemmas.Bool.{OnTrue_at}
use Rattle.sm_candidates.proofs.candidates.first_waiting.Goals as goal

pub returns-then-not-is_plan_ready : goal.returns-then-not-is_plan_ready
returns-then-not-is_plan_ready c = subst (AreWaitingReady c.args.table.now) (sym c.new-waiting.ensures.items) tt

pub returns : goal.returns
returns c =
    let v = c.args.table.now in
    let x : Waiting = record { state = c.args.state; cursor = c.start_of-cursor.result } in
    let plan = OnTrue_at c.if-not-is_plan_ready.false c.is_plan_ready.ensures in
    let place = subst (IsPlanReady (sorts_in v) (trees_in v)) (sym c.start_of-cursor.ensures) plan in
    subst (AreWaitingReady v) (sym (c.in_ok-push.ensures.items ∙ ap (λ (l : List Waiting). l ++ x ∷ []) c.new-waiting.ensures.items))
    (record { state = c.requires; place = place }, tt)
