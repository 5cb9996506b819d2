-- The owners and the templates of the sketches so far.
use Rattle.sm_houdini.proofs.Imports.{List, take, Sorts, Tree, sketch_in, PutsAll}
use Rattle.std.proofs.Common.{map}
use Rattle.sm_houdini.proofs.sites.+sites.Given as goal

abbrev pub invariant-add_all-loop-sketch : goal.invariant-add_all-loop-sketch
invariant-add_all-loop-sketch l =
    (sorts : Sorts) (trees : List Tree) →
    PutsAll l.initial.sites l.sites l.target (map (sketch_in sorts trees) (take l.sketch-index l.sketch-items))
