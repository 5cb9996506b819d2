-- One line, and the last.
use Rattle.std.proofs.Common.{◌∙◌}
use Rattle.sm_sided.proofs.TreesMade.{one_line}
use Rattle.sm_sided.proofs.part_trees.part_tree.Goals as goal

pub returns : goal.returns
returns c = λ trees.
    c.closed_by.ensures trees ∙ one_line trees _ _ _ _ c.new-lines.ensures.items c.in_ok-push.ensures.items
