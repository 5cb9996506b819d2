-- A formula more.
use Rattle.sm_check.proofs.Imports.{Ok, Err, List, length, sym, subst, trees_in, sorts_in, TermId, Form, taken, form_made, AreRowsReady, IsRowReady, RowsStand, RowStands, Tells, WalkValue, Walks, terms_in}
use Rattle.sm_check.specs.FormRows.{FormRow}
use Rattle.sm_check.proofs.WalksGo.{form_goes, form_stops, rows_ready}
use Rattle.sm_check.proofs.walk.Walk.form_line.Goals as goal

pub invariant_of-self-in-Ok : goal.invariant_of-self-in-Ok
invariant_of-self-in-Ok c =
    let i = c.self.inside in
    let sorts = sorts_in i.table in
    let trees = trees_in i.table in
    let base = c.self.invariant in
    record {
      numbered = base.numbered;
      named = base.named;
      rows =
          subst (AreRowsReady sorts trees) (sym c.in_ok-push-in-Ok.ensures.items)
          (rows_ready sorts trees i.forms.items c.in-Ok.row base.rows
          (subst (λ (rs : List FormRow). IsRowReady sorts trees (length rs) c.in-Ok.row.made) c.deref-2.ensures.value c.in-Ok.ensures.ready));
      first = base.first;
      later = base.later;
    }

pub returns-in_ok-push-in-Ok-clause-tells : goal.returns-in_ok-push-in-Ok-clause-tells
returns-in_ok-push-in-Ok-clause-tells c p walks =
    let i = c.self.inside in
    let w : WalkValue = record {
      table = i.table;
      declared = i.declared;
      nodes = i.nodes;
      terms = i.terms.items;
      forms = i.forms.items;
      path = i.path.list.items;
      due = i.due;
      waiting = i.waiting.items;
    } in
    let rows = c.push.new.self.items in
    let line = c.args.line.now in
    let is = sym c.self.view_is in
    let sorts = sorts_in i.table in
    let trees = trees_in i.table in
    let here = subst (λ (v : WalkValue). Walks v p) is walks in
    let stand = subst (λ (rs : List FormRow). RowsStand sorts trees rs p.forms) (sym c.deref-2.ensures.value) here.forms in
    let tells =
    subst (λ (ts : List TermId). Tells (RowStands sorts trees p.forms) (Ok c.in-Ok.row) (form_made sorts (terms_in trees ts) p.forms line)) c.deref.ensures.value
    (c.in-Ok.ensures.tells p.forms stand) in
    subst (λ (v : WalkValue). Tells {S = Unit {0}} (λ x q. Walks (record w { forms = rows }) q) (Ok tt) (taken (sorts_in v.table) p (Form line)))
    (sym is)
    (form_goes w p c.in-Some.due c.in-Some.is here rows c.in-Ok.row line c.in_ok-push-in-Ok.ensures.items tells)

pub returns-in-Err-clause-tells : goal.returns-in-Err-clause-tells
returns-in-Err-clause-tells c p walks =
    let i = c.self.inside in
    let w : WalkValue = record {
      table = i.table;
      declared = i.declared;
      nodes = i.nodes;
      terms = i.terms.items;
      forms = i.forms.items;
      path = i.path.list.items;
      due = i.due;
      waiting = i.waiting.items;
    } in
    let line = c.args.line.now in
    let is = sym c.self.view_is in
    let sorts = sorts_in i.table in
    let trees = trees_in i.table in
    let here = subst (λ (v : WalkValue). Walks v p) is walks in
    let stand = subst (λ (rs : List FormRow). RowsStand sorts trees rs p.forms) (sym c.deref-2.ensures.value) here.forms in
    let tells =
    subst (λ (ts : List TermId). Tells (RowStands sorts trees p.forms) (Err c.in-Err.fault) (form_made sorts (terms_in trees ts) p.forms line)) c.deref.ensures.value
    (c.in-Err.ensures.tells p.forms stand) in
    subst (λ (v : WalkValue). Tells {S = Unit {0}} (λ x q. Walks w q) (Err c.in-Err.fault) (taken (sorts_in v.table) p (Form line))) (sym is)
    (form_stops w p c.in-Some.due c.in-Some.is here w c.in-Err.fault line tells)
