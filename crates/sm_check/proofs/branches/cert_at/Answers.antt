-- What is pending after the line, over the rest of the proof.
use Rattle.sm_check.proofs.Imports.{Result, Ok, Err, Option, List, length, refl, sym, subst, trees_in, sorts_in, TermId, Tree, AreStoresReady, stores_in, numbered_line, found_or, named_line, Word, BadNumber, Pending, Progress, after_line, pending_after, WalksIn, PendingStands, Tells, WalkValue, Walks, terms_in}
use Rattle.sm_check.specs.Pending.{Due}
use Rattle.sm_check.proofs.CertTaken.{goes, cert_after_is, tells_then, walks_on}
use Rattle.sm_check.proofs.NodeTaken.{tells_on}
use Rattle.sm_check.proofs.branches.cert_at.Goals as goal

pub invariant_of-walk : goal.invariant_of-walk
invariant_of-walk c =
    let i = c.walk.inside in
    let branch = c.args.branch in
    let base = c.walk.invariant in
    let stores =
    subst (λ (v : WalkValue). AreStoresReady (sorts_in v.table) (trees_in v.table) branch.stores.value) (sym c.walk.view_is) c.requires in
    record {
      numbered = base.numbered;
      named = base.named;
      rows = base.rows;
      first = c.in-Ok.ensures.ready stores base.later;
      later = c.line_at.ensures.later stores base.later;
    }

pub returns-in-Ok-clause-tells : goal.returns-in-Ok-clause-tells
returns-in-Ok-clause-tells c = λ p own rest at.
    let i = c.walk.inside in
    let branch = c.args.branch in
    let w : WalkValue = record {
      table = i.table;
      declared = i.declared;
      nodes = i.nodes;
      terms = i.terms.items;
      forms = i.forms.items;
      path = i.path.list.items;
      due = i.due;
      waiting = i.waiting.items;
    } in
    let x : WalkValue = record w {
      path = c.line_at.new.path.list.items;
      due = c.in-Ok.due;
      waiting = c.line_at.new.waiting.items;
    } in
    let here : WalksIn w p own rest = subst (λ (v : WalkValue). WalksIn v p own rest) (sym c.walk.view_is) at in
    let sorts = sorts_in i.table in
    let trees = trees_in i.table in
    let held = stores_in trees branch.stores.value in
    let l = numbered_line c.args.line.now in
    let P : Option Due → List Pending → Type 0 = λ d ps. PendingStands sorts trees x.path d x.waiting ps in
    let Q : Unit {0} → Progress → Type 0 = λ (_ : Unit {0}) (q : Progress). Walks x q in
    let after : List Tree → Result (List Pending) Word = λ terms. pending_after sorts terms held own branch.splits rest l in
    let tells =
    subst (λ (terms : List Tree). Tells P (Ok c.in-Ok.due) (after terms)) here.terms
    (subst (λ (ts : List TermId). Tells P (Ok c.in-Ok.due) (after (terms_in trees ts))) c.deref.ensures.value
    (c.in-Ok.ensures.tells own rest here.stand here.sorted here.later)) in
    subst (λ (v : WalkValue). Tells Q (Ok tt) (found_or (named_line p.terms (length own) l) BadNumber
    (after_line (sorts_in v.table) p (stores_in (trees_in v.table) branch.stores.value) own branch.splits rest l))) c.walk.view_is
    (subst (Tells Q (Ok tt)) (sym (cert_after_is sorts p held own branch.splits rest l))
    (tells_then P Q c.in-Ok.due tt (after p.terms) (λ (ps : List Pending). record p { pending = ps })
    (λ (ps : List Pending) (stands : P c.in-Ok.due ps). walks_on w x p own rest ps here refl refl refl refl stands) tells))

pub returns-in-Err-clause-tells : goal.returns-in-Err-clause-tells
returns-in-Err-clause-tells c = λ p own rest at.
    let i = c.walk.inside in
    let branch = c.args.branch in
    let w : WalkValue = record {
      table = i.table;
      declared = i.declared;
      nodes = i.nodes;
      terms = i.terms.items;
      forms = i.forms.items;
      path = i.path.list.items;
      due = i.due;
      waiting = i.waiting.items;
    } in
    let here : WalksIn w p own rest = subst (λ (v : WalkValue). WalksIn v p own rest) (sym c.walk.view_is) at in
    let sorts = sorts_in i.table in
    let trees = trees_in i.table in
    let held = stores_in trees branch.stores.value in
    let l = numbered_line c.args.line.now in
    let e = c.in-Err.fault in
    let path = c.line_at.new.path.list.items in
    let waiting = c.line_at.new.waiting.items in
    let P : Option Due → List Pending → Type 0 = λ d ps. PendingStands sorts trees path d waiting ps in
    let Q : Unit {0} → Progress → Type 0 = λ (_ : Unit {0}) (q : Progress). Unit {0} in
    let after : List Tree → Result (List Pending) Word = λ terms. pending_after sorts terms held own branch.splits rest l in
    let tells =
    subst (λ (terms : List Tree). Tells P (Err e) (after terms)) here.terms
    (subst (λ (ts : List TermId). Tells P (Err e) (after (terms_in trees ts))) c.deref.ensures.value
    (c.in-Err.ensures.tells own rest here.stand here.sorted here.later)) in
    subst (λ (v : WalkValue). Tells Q (Err e) (found_or (named_line p.terms (length own) l) BadNumber
    (after_line (sorts_in v.table) p (stores_in (trees_in v.table) branch.stores.value) own branch.splits rest l))) c.walk.view_is
    (subst (Tells Q (Err e)) (sym (cert_after_is sorts p held own branch.splits rest l))
    (tells_on P Q e (after p.terms) (goes p) tells))
