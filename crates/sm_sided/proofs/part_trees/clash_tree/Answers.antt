-- Two lines, and the last.
use Rattle.std.proofs.Common.{◌∙◌}
use Rattle.sm_sided.proofs.TreesMade.{two_lines}
use Rattle.sm_sided.proofs.part_trees.clash_tree.Goals as goal

pub returns : goal.returns
returns c = λ trees.
    c.closed_by.ensures trees
    ∙ two_lines trees _ _ _ _ _ _ c.new-lines.ensures.items c.in_ok-push.ensures.items c.in_ok-push-2.ensures.items
