-- One formula more.
use Rattle.sm_expand.proofs.Imports.{sym, subst, AreFormsReady, forms_in}
use Rattle.sm_expand.proofs.FormsLemmas.{form_added, ready_added}
use Rattle.sm_expand.proofs.due.add_forms.Goals as goal

pub loop-f-preserved : goal.loop-f-preserved
loop-f-preserved c =
    let fs = c.deref-f-items.result.now in
    let i = c.loop-f.f-index in
    let path = c.loop-f.path.list.items in
    let f = c.f-item.result in
    let copy = c.in_ok-copy_formula.field-0 in
    record {
      added = λ sorts trees.
          form_added sorts trees path c.push.new.self.items fs i f copy (forms_in sorts trees c.args.path.now.list.items)
          c.in_ok-push.ensures.items c.in_ok-copy_formula.ensures c.loop-f-test.true c.f-item.is (c.loop-f.invariant.added sorts trees);
      ready = λ sorts trees before all.
          ready_added sorts trees path c.push.new.self.items fs i f copy c.in_ok-push.ensures.items c.in_ok-copy_formula.ensures
          c.loop-f-test.true c.f-item.is all (c.loop-f.invariant.ready sorts trees before all);
    }

pub returns-clause-ready : goal.returns-clause-ready
returns-clause-ready c = λ sorts trees before all.
    c.loop-f.invariant.ready sorts trees before (subst (AreFormsReady sorts trees) (sym c.deref-f-items.ensures.value) all)
