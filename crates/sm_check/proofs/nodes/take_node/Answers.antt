-- A node where a state is due.
use Rattle.sm_check.proofs.Imports.{◌≡◌, Some, List, sym, subst, ap, sorts_in, Node, Pending, Progress, taken_at, Tells, WalkValue, Walks}
use Rattle.sm_check.specs.declared.pending.Due.TheVariants as due
use Rattle.sm_check.proofs.NodeTaken.{at_state}
use Rattle.sm_check.proofs.nodes.take_node.Goals as goal

pub returns-in-Some-State-clause-tells : goal.returns-in-Some-State-clause-tells
returns-in-Some-State-clause-tells c = λ p walks.
    let i = c.walk.inside in
    let w : WalkValue = record {
      table = i.table;
      declared = i.declared;
      nodes = i.nodes;
      terms = i.terms.items;
      forms = i.forms.items;
      path = i.path.list.items;
      due = i.due;
      waiting = i.waiting.items;
    } in
    let s = c.in-Some-State in
    let here : Walks w p = subst (λ (v : WalkValue). Walks v p) (sym c.walk.view_is) walks in
    let is : i.due ≡ Some (due.State s.state s.above) = cc (c.take.ensures.value, s.is, s.field-0-is) in
    let a = at_state w p here c.take.new.self s.state s.above is in
    subst (Tells (λ (_ : Unit {0}) (q : Progress). Walks c.node_at.new.walk q) c.node_at.result)
    (sym (ap (λ (ps : List Pending). taken_at (sorts_in c.args.walk.now.table) p ps (Node c.args.line.now)) a.2))
    (c.node_at.ensures.tells p a.0 a.1 a.3)
