-- A loop and a block keep the formula that was written.
use Rattle.sm_write.proofs.Imports.{sym, subst, IfOk-weaker, numbered, trees_in, sorts_in, IsNodeReady, NodeRow, WritesKeep, value_of}
use Rattle.std.proofs.Common.{IfOk}
use Rattle.sm_plan.specs.declared.node.NodeRow.TheVariants as row
use Rattle.sm_write.proofs.NodesNamed.{keep_form}
use Rattle.sm_write.proofs.nodes.write_keep.Goals as goal

pub returns-in-Loop : goal.returns-in-Loop
returns-in-Loop c =
    let v = c.args.table.now in
    let old = value_of c.args.w.now in
    let new = value_of c.write_form.new.w in
    let r = row.Loop c.in-Loop.set c.in-Loop.keep in
    let f = numbered c.in-Loop.keep.now in
    let ready = subst (IsNodeReady (sorts_in v) (trees_in v)) c.in-Loop.is c.requires in
    subst (λ (q : NodeRow). IfOk c.write_form.result (WritesKeep v old new q)) (sym c.in-Loop.is)
    (IfOk-weaker c.write_form.result _ _ (λ n h. keep_form v old new r f n ready.1 (λ P e. e) (λ forms e. e) h) c.write_form.ensures)

pub returns-in-Block : goal.returns-in-Block
returns-in-Block c =
    let v = c.args.table.now in
    let old = value_of c.args.w.now in
    let new = value_of c.write_form-in-Block.new.w in
    let r = row.Block c.in-Block.counts c.in-Block.keep in
    let f = numbered c.in-Block.keep.now in
    let ready = subst (IsNodeReady (sorts_in v) (trees_in v)) c.in-Block.is c.requires in
    subst (λ (q : NodeRow). IfOk c.write_form-in-Block.result (WritesKeep v old new q)) (sym c.in-Block.is)
    (IfOk-weaker c.write_form-in-Block.result _ _ (λ n h. keep_form v old new r f n ready.1 (λ P e. e) (λ forms e. e) h)
    c.write_form-in-Block.ensures)
