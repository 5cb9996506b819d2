-- The copies so far stand for the sketches so far.
use Rattle.sm_sketch.proofs.Imports.{◌≡◌, map, take, numbered_sketch}
use Rattle.sm_sketch.proofs.copying.+copied.Given as goal

abbrev pub invariant-copied_sketches-loop-sketch : goal.invariant-copied_sketches-loop-sketch
invariant-copied_sketches-loop-sketch l =
    map numbered_sketch l.list.items ≡ map numbered_sketch (take l.sketch-index l.sketch-items)
