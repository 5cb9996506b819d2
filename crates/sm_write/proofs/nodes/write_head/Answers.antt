-- The state's terms, the kept formula, and then the node.
use Rattle.sm_write.specs.Values.{value_of}
use Rattle.sm_write.proofs.NodesNamed.{node_written}
use Rattle.sm_write.proofs.nodes.write_head.Goals as goal

pub returns : goal.returns
returns c =
    node_written c.args.table.now (value_of c.args.w.now) (value_of c.name_state.new.w) (value_of c.write_keep.new.w)
    (value_of c.add_node.new.w) c.args.stores.now c.args.row.now c.in_ok-keep.keep c.node_line-line.result c.in_ok-name_state.ensures
    c.in_ok-keep.ensures c.node_line-line.ensures.line c.node_line-line.ensures.within c.in_ok-add_node.ensures.stands
    c.in_ok-add_node.ensures.names
