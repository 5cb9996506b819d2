-- Each guard that is there is ready.
use Rattle.sm_plan.proofs.Imports.{◌≡◌, List, [], sym, subst, O, A, B, M, Sorts, Tree, AreFormsReady}
use Rattle.sm_plan.proofs.heads.turned_guards.Goals as goal

pub returns-clause-ready : goal.returns-clause-ready
returns-clause-ready c = λ (sorts : Sorts) (trees : List Tree) ready.
    let none = subst (AreFormsReady sorts trees) (sym c.new-list.ensures.items) tt in
    let one = c.in_ok-put_turned.ensures.ready sorts trees (ready O) none in
    let two = c.in_ok-put_turned-2.ensures.ready sorts trees (ready A) one in
    let three = c.in_ok-put_turned-3.ensures.ready sorts trees (ready B) two in
    c.in_ok-put_turned-4.ensures.ready sorts trees (ready M) three
