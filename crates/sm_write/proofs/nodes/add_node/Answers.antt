-- The line is taken, and there is one node more.
use Rattle.sm_write.proofs.Imports.{suc, refl, ap, sym, ◌∙◌, value_of}
use Rattle.sm_write.proofs.NodeSteps.{node_stands}
use Rattle.sm_write.proofs.nodes.add_node.Goals as goal

pub returns-clause-stands : goal.returns-clause-stands
returns-clause-stands c s trees p st above rest it q at is within named few opens =
    node_stands s trees (value_of c.args.w.now) _ p st above rest c.args.line it q at is within named few opens
    c.in_ok-put_node.ensures refl refl refl refl (ap suc at.nodes ∙ sym c.in_ok-next.ensures)
