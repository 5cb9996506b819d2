-- What a block opens is what its node opens.
use Rattle.sm_plan.proofs.Imports.{◌≡◌, option_map, sym, subst, IfOk-weaker, trees_in, sorts_in, state_in, node_in, opened_in, NodeRow}
use Rattle.std.proofs.Common.{IfOk}
use Rattle.sm_plan.specs.Nodes as plan
use Rattle.sm_plan.proofs.opening.open_node.Goals as goal

pub returns-in-Block-clause-opened : goal.returns-in-Block-clause-opened
returns-in-Block-clause-opened c = λ facts.
    let v = c.args.table.now in
    let w = c.open_block.new.table in
    let st = state_in (sorts_in v) (trees_in v) facts c.args.state in
    subst
    (λ (n : NodeRow). IfOk c.open_block.result
    (λ o. option_map (opened_in (sorts_in w) (trees_in w) facts) o
    ≡ plan.opened_by c.args.number st (node_in (sorts_in v) (trees_in v) n)))
    (sym c.in-Block.is)
    (IfOk-weaker c.open_block.result _ _ (λ o h. h.opened facts) c.open_block.ensures.opening)
