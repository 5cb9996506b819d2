-- Each side of a certificate has fewer lines.
use Rattle.sm_write.proofs.Imports.{length, lines_of}
use Rattle.sm_write.proofs.trees.+tree.Given as goal

abbrev pub decreases-write_tree : goal.decreases-write_tree
decreases-write_tree l = length (lines_of l.tree.now)
