-- The extent of the sketches so far and the one after them.
use Rattle.sm_sketch.proofs.Imports.{◌≡◌, ◌+◌, max, take, total_nodes, most_branches}
use Rattle.sm_sketch.proofs.extent.all_beside.Given as goal

abbrev pub invariant-loop-sketch : goal.invariant-loop-sketch
invariant-loop-sketch l =
    (l.all.nodes ≡ total_nodes (take l.sketch-index l.sketches) + l.fn.after.nodes)
    × (l.all.branches ≡ max (most_branches (take l.sketch-index l.sketches)) l.fn.after.branches)
