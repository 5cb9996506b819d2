-- Output by output.
use Rattle.sm_explain.proofs.Imports.{◌+◌, take, sym, subst, Name, sorts_of, end_in, AreRows}
use Rattle.sm_explain.proofs.TableOutputs.{sorted, outputs_more, outputs_all}
use Rattle.sm_explain.proofs.tables.table_of.Goals as goal

pub loop-x-preserved : goal.loop-x-preserved
loop-x-preserved c =
    let none : Name = record { 0 = 0 } in
    let sorts = sorts_of c.args.ends.now.base in
    let more = c.in_ok-put_output.ensures in
    subst (AreRows c.args.names.now (end_in c.args.ends.now) (sorted sorts (take (c.loop-x.x-index + 1) c.args.outputs.now))) (sym more.2)
    (outputs_more c.args.names.now (end_in c.args.ends.now) sorts c.args.outputs.now c.loop-x.x-index none
    c.loop-x.text.items more.0 c.loop-x-test.true c.loop-x.invariant more.1)

pub returns : goal.returns
returns c =
    outputs_all c.args.names.now (end_in c.args.ends.now) (sorts_of c.args.ends.now.base) c.args.outputs.now c.loop-x.x-index
    c.loop-x.text.items c.loop-x-test.false c.loop-x.invariant
