-- One formula more.
use Rattle.sm_check.proofs.Imports.{List, ◌++◌, ◌+◌, take, sym, subst, as_facts, AllStand, Fact, forms_in}
use Rattle.sm_check.proofs.PendingLemmas.{form_added}
use Rattle.sm_check.proofs.due.add_forms.Goals as goal

pub loop-f-preserved : goal.loop-f-preserved
loop-f-preserved c sorts trees facts all ready =
    let fs = c.deref-f-items.result.now in
    let i = c.loop-f.f-index in
    subst (λ (l : List Fact). AllStand sorts trees l (facts ++ as_facts (forms_in sorts trees (take (i + 1) fs)))) (sym c.in_ok-push.ensures.items)
    (form_added sorts trees c.loop-f.path.list.items facts fs i c.f-item.result c.in_ok-copy_formula.field-0 c.loop-f-test.true c.f-item.is
    ready c.in_ok-copy_formula.ensures (c.loop-f.invariant sorts trees facts all ready))
