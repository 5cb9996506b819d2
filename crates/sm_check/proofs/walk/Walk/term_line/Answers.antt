-- A term more, over a wider table.
use Rattle.sm_check.proofs.Imports.{Ok, Err, List, length, sym, subst, trees_in, sorts_in, AreBefore, TermId, taken, term_made, IsTerm, Tells, WalkValue, Walks, terms_in}
use Rattle.sm_plan.proofs.TablesWiden.{widens_grown}
use Rattle.sm_proof.specs.Lines.{Term}
use Rattle.sm_check.proofs.WalkWidens.{walk_ready}
use Rattle.sm_check.proofs.WalksGo.{term_goes, term_stops, before_more}
use Rattle.sm_check.proofs.walk.Walk.term_line.Goals as goal

pub invariant_of-self-in-Ok : goal.invariant_of-self-in-Ok
invariant_of-self-in-Ok c =
    let i = c.self.inside in
    let table = c.made_term-made.new.table in
    let n = length (trees_in table) in
    let base =
    walk_ready i.table table (widens_grown i.table table c.made_term-made.ensures.grows) i.declared i.terms.items i.forms.items
    i.due i.waiting.items c.self.invariant in
    record {
      numbered = base.numbered;
      named = subst (AreBefore n) (sym c.in_ok-push-in-Ok.ensures.items) (before_more n i.terms.items c.in-Ok.id base.named c.in-Ok.ensures.within);
      rows = base.rows;
      first = base.first;
      later = base.later;
    }

pub invariant_of-self-in-Err : goal.invariant_of-self-in-Err
invariant_of-self-in-Err c =
    let i = c.self.inside in
    let table = c.made_term-made.new.table in
    walk_ready i.table table (widens_grown i.table table c.made_term-made.ensures.grows) i.declared i.terms.items i.forms.items
    i.due i.waiting.items c.self.invariant

pub returns-in_ok-push-in-Ok-clause-tells : goal.returns-in_ok-push-in-Ok-clause-tells
returns-in_ok-push-in-Ok-clause-tells c p walks =
    let i = c.self.inside in
    let w : WalkValue = record {
      table = i.table;
      declared = i.declared;
      nodes = i.nodes;
      terms = i.terms.items;
      forms = i.forms.items;
      path = i.path.list.items;
      due = i.due;
      waiting = i.waiting.items;
    } in
    let table = c.made_term-made.new.table in
    let terms = c.push.new.self.items in
    let line = c.args.line.now in
    let wider = widens_grown i.table table c.made_term-made.ensures.grows in
    let is = sym c.self.view_is in
    let terms_are = c.deref.ensures.value in
    let sorts = sorts_in i.table in
    let trees = trees_in i.table in
    subst (λ (v : WalkValue). Tells {S = Unit {0}} (λ x q. Walks (record w { table = table; terms = terms }) q) (Ok tt)
    (taken (sorts_in v.table) p (Term line))) (sym is)
    (term_goes w p c.in-Some.due c.in-Some.is (subst (λ (v : WalkValue). Walks v p) is walks) table terms c.in-Ok.id line wider
    c.len.ensures.apart c.self.invariant c.in_ok-push-in-Ok.ensures.items
    (λ facts first all stand.
    subst (λ (ts : List TermId). Tells (IsTerm (trees_in table)) (Ok c.in-Ok.id) (term_made sorts (terms_in trees ts) first line)) terms_are
    (c.in-Ok.ensures.tells facts first all stand)))

pub returns-in-Err-clause-tells : goal.returns-in-Err-clause-tells
returns-in-Err-clause-tells c p walks =
    let i = c.self.inside in
    let w : WalkValue = record {
      table = i.table;
      declared = i.declared;
      nodes = i.nodes;
      terms = i.terms.items;
      forms = i.forms.items;
      path = i.path.list.items;
      due = i.due;
      waiting = i.waiting.items;
    } in
    let table = c.made_term-made.new.table in
    let line = c.args.line.now in
    let is = sym c.self.view_is in
    let terms_are = c.deref.ensures.value in
    let sorts = sorts_in i.table in
    let trees = trees_in i.table in
    let after = record w { table = table } in
    subst (λ (v : WalkValue). Tells {S = Unit {0}} (λ x q. Walks after q) (Err c.in-Err.fault) (taken (sorts_in v.table) p (Term line))) (sym is)
    (term_stops w p c.in-Some.due c.in-Some.is (subst (λ (v : WalkValue). Walks v p) is walks) after table c.in-Err.fault line
    (λ facts first all stand.
    subst (λ (ts : List TermId). Tells (IsTerm (trees_in table)) (Err c.in-Err.fault) (term_made sorts (terms_in trees ts) first line)) terms_are
    (c.in-Err.ensures.tells facts first all stand)))

pub invariant_of-self : goal.invariant_of-self
invariant_of-self c =
    let i = c.self.inside in
    let table = c.made_term-made.new.table in
    let base =
    walk_ready i.table table (widens_grown i.table table c.made_term-made.ensures.grows) i.declared i.terms.items i.forms.items
    i.due i.waiting.items c.self.invariant in
    record {
      numbered = base.numbered;
      named = subst (AreBefore (length (trees_in table))) (sym c.in_err-push-in-Ok.ensures.items) base.named;
      rows = base.rows;
      first = base.first;
      later = base.later;
    }
