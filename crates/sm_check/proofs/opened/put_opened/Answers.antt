-- Goals stand before states.
use Rattle.sm_check.proofs.Imports.{sym, subst, AreStoresReady}
use Rattle.sm_check.proofs.opened.put_opened.Goals as goal

pub returns-in_err-put_states-clause-ready : goal.returns-in_err-put_states-clause-ready
returns-in_err-put_states-clause-ready c = λ sorts trees stores states waiting. c.put_states.ensures.ready sorts trees states waiting

pub returns-in_err-stores-clause-ready : goal.returns-in_err-stores-clause-ready
returns-in_err-stores-clause-ready c = λ sorts trees stores states waiting. c.put_states.ensures.ready sorts trees states waiting

pub returns-clause-ready : goal.returns-clause-ready
returns-clause-ready c = λ sorts trees stores states waiting.
    c.put_goals.ensures.ready sorts trees (subst (AreStoresReady sorts trees) (sym c.in_ok-stores.ensures.ok) stores)
    (c.put_states.ensures.ready sorts trees states waiting)
