-- The certificates so far stand for those that were passed.
use Rattle.sm_houdini.proofs.Imports.{◌≡◌, List, length, take, Tree, certificate_in, AreTermsOf, AreTreesWithin}
use Rattle.std.proofs.Common.{map}
use Rattle.sm_houdini.proofs.end_jobs.renumbered_trees.Given as goal

abbrev pub invariant-loop-tree : goal.invariant-loop-tree
invariant-loop-tree l = record {
  same : (trees others : List Tree) → AreTermsOf others l.numbers trees → AreTreesWithin (length trees) l.certificates →
      map (certificate_in others) l.list.items ≡ map (certificate_in trees) (take l.tree-index l.certificates);
  within : (trees others : List Tree) → AreTermsOf others l.numbers trees → AreTreesWithin (length trees) l.certificates →
      AreTreesWithin (length others) l.list.items;
}
