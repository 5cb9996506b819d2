-- One formula more is ready.
use Rattle.sm_plan.proofs.Imports.{◌≡◌, Option, List, sym, subst, Sorts, Formula, Tree, IsFormReady, AreFormsReady}
use Rattle.std.proofs.Common.{IfSome}
use Rattle.sm_plan.proofs.TurnedLemmas.{ready_push}
use Rattle.sm_plan.proofs.heads.put_turned.Goals as goal

pub returns-in_ok-push-clause-ready : goal.returns-in_ok-push-clause-ready
returns-in_ok-push-clause-ready c = λ (sorts : Sorts) (trees : List Tree) some ready.
    subst (AreFormsReady sorts trees) (sym c.in_ok-push.ensures.items)
    (ready_push sorts trees c.args.list.now.items c.in_ok-fact.field-0 ready
    (c.in_ok-fact.ensures.ready sorts trees (subst (λ (o : Option Formula). IfSome o (IsFormReady sorts trees)) c.in-Some.is some)))
