-- A copy of ready formulas is ready.
use Rattle.sm_expand.proofs.Imports.{sym, subst, AreFormsReady}
use Rattle.sm_expand.proofs.due.copy_forms.Goals as goal

pub returns-clause-ready : goal.returns-clause-ready
returns-clause-ready c = λ sorts trees all.
    c.in_ok-add_forms.ensures.ready sorts trees (subst (AreFormsReady sorts trees) (sym c.new.ensures.items) tt) all
