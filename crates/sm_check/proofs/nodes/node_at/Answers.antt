-- What a line opens is put before what waits, and the first of that is due.
use Rattle.sm_check.proofs.Imports.{Ok, List, sym, subst, ◌∙◌, err_from_is_err_and, TableValue, trees_in, sorts_in, found_or, named_node, BadNumber, Progress, after_node, RowsStand, WalksAt, Tells, WalkValue, Walks}
use Rattle.sm_check.specs.FormRows.{FormRow}
use Rattle.sm_check.specs.NodesTaken.{OpensAs}
use Rattle.sm_check.proofs.NodeTaken.{node_taken, node_refused}
use Rattle.sm_check.proofs.WalkWidens.{walk_ready, ready_later}
use Rattle.sm_check.proofs.nodes.node_at.Goals as goal

pub invariant_of-walk : goal.invariant_of-walk
invariant_of-walk c =
    let i = c.walk.inside in
    walk_ready i.table c.open_node.new.table c.open_node.ensures.widens i.declared i.terms.items i.forms.items i.due i.waiting.items c.walk.invariant

pub invariant_of-walk-in-None : goal.invariant_of-walk-in-None
invariant_of-walk-in-None c =
    let i = c.walk.inside in
    walk_ready i.table c.open_node.new.table c.open_node.ensures.widens i.declared i.terms.items i.forms.items i.due i.waiting.items c.walk.invariant

pub invariant_of-walk-in_err-put_opened : goal.invariant_of-walk-in_err-put_opened
invariant_of-walk-in_err-put_opened c =
    let i = c.walk.inside in
    let table = c.open_node.new.table in
    let base = walk_ready i.table table c.open_node.ensures.widens i.declared i.terms.items i.forms.items i.due i.waiting.items c.walk.invariant in
    let opened = c.in_ok-opened.ensures.ready in
    ready_later table i.declared i.terms.items i.forms.items i.due i.waiting.items c.put_opened.new.waiting.items base
    (c.put_opened.ensures.ready (sorts_in table) (trees_in table) opened.stores opened.states base.later)

pub invariant_of-walk-2 : goal.invariant_of-walk-2
invariant_of-walk-2 c =
    let i = c.walk.inside in
    let table = c.open_node.new.table in
    let base = walk_ready i.table table c.open_node.ensures.widens i.declared i.terms.items i.forms.items i.due i.waiting.items c.walk.invariant in
    let opened = c.in_ok-opened.ensures.ready in
    ready_later table i.declared i.terms.items i.forms.items i.due i.waiting.items c.put_opened.new.waiting.items base
    (c.put_opened.ensures.ready (sorts_in table) (trees_in table) opened.stores opened.states base.later)

pub returns-in_err-opened-clause-tells : goal.returns-in_err-opened-clause-tells
returns-in_err-opened-clause-tells c = λ p st rest at.
    let i = c.walk.inside in
    let w : WalkValue = record {
      table = i.table;
      declared = i.declared;
      nodes = i.nodes;
      terms = i.terms.items;
      forms = i.forms.items;
      path = i.path.list.items;
      due = i.due;
      waiting = i.waiting.items;
    } in
    let here : WalksAt w c.args.state p st rest =
    subst (λ (v : WalkValue). WalksAt v c.args.state p st rest) (sym c.walk.view_is) at in
    let table = c.open_node.new.table in
    let rows = subst (λ (l : List FormRow). RowsStand (sorts_in i.table) (trees_in i.table) l p.forms) (sym c.deref.ensures.value) here.forms in
    let r = err_from_is_err_and c.from_residual.result c.from_residual.ensures.1 in
    rw (r.1, r.2)
    (node_refused w c.args.state p st rest here (OpensAs (sorts_in table) (trees_in table) st.facts)
    (λ (_ : Unit {0}) (q : Progress). Unit {0}) c.in_err-opened.field-0.0 c.args.above c.args.line.now
    (c.in_err-opened.ensures.tells p.forms st.facts rows))

pub returns-clause-tells : goal.returns-clause-tells
returns-clause-tells c = λ p st rest at.
    let i = c.walk.inside in
    let w : WalkValue = record {
      table = i.table;
      declared = i.declared;
      nodes = i.nodes;
      terms = i.terms.items;
      forms = i.forms.items;
      path = i.path.list.items;
      due = i.due;
      waiting = i.waiting.items;
    } in
    let here : WalksAt w c.args.state p st rest =
    subst (λ (v : WalkValue). WalksAt v c.args.state p st rest) (sym c.walk.view_is) at in
    let table = c.open_node.new.table in
    let rows = subst (λ (l : List FormRow). RowsStand (sorts_in i.table) (trees_in i.table) l p.forms) (sym c.deref.ensures.value) here.forms in
    let x : WalkValue = c.make_due.new.walk in
    let y : WalkValue = record x { table = table } in
    let line = c.args.line.now in
    let put = c.in_ok-put_opened.ensures.put in
    subst
    (λ (t : TableValue). Tells (λ (_ : Unit {0}) (q : Progress). Walks (record x { table = t }) q) (Ok tt)
    (found_or (named_node p.forms line) BadNumber (after_node p st c.args.above rest line)))
    (sym c.in_ok-make_due.ensures.table)
    (node_taken w y c.args.state p st rest here c.open_node.ensures.widens c.in_ok-opened.ensures.apart c.args.above line c.in_ok-opened.opened
    c.in_ok-opened.over c.count_of-shared.result put.0 c.put_opened.new.waiting.items c.walk.invariant.named c.walk.invariant.rows
    c.walk.invariant.later (c.in_ok-opened.ensures.tells p.forms st.facts rows) c.in_ok-opened.ensures.stores c.in_ok-opened.ensures.ready
    c.count_of-shared.ensures put.1 put.2 (c.in_ok-make_due.ensures.nodes ∙ c.in-Some.ensures) c.in_ok-make_due.ensures.terms
    c.in_ok-make_due.ensures.forms c.in_ok-make_due.ensures.pending)
