-- Each formula has a node.
use Rattle.sm_plan.proofs.Imports.{numbered, nodes_in, depth_in}
use Rattle.sm_plan.proofs.KeptLemmas.{some_nodes, some_depth, none_left}
use Rattle.sm_plan.proofs.kept.+count.Goals as goal

pub nodes_left-returns-then-depth-eq0 : goal.nodes_left-returns-then-depth-eq0
nodes_left-returns-then-depth-eq0 t c =
    none_left c.args.nodes (nodes_in (numbered c.args.f.now)) c.args.depth (depth_in (numbered c.args.f.now))
    (some_nodes (numbered c.args.f.now))
    (some_depth (numbered c.args.f.now)) c.then-depth-eq0.either
