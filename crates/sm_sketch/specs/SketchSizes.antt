-- Cited by public clauses: how many nodes a sketch has, how deep it branches, and when it is too
-- large.
use Rattle.std.specs.Prelude.{ℕ, suc, ◌+◌, ◌<◌, ◌≤◌, ◌⊎◌, max, Bool, true, if◌then◌else◌}
use Rattle.sm_plan.specs.Nodes.{is_branching}
use Rattle.sm_sketch.specs.Sketches.{SketchNode, Plain, LoopSite, BlockSite, Sketch, Draw, Sketches, Over, More}

-- whether a node opens more than one state
abbrev pub is_branching_node : SketchNode → Bool
is_branching_node (Plain node) = is_branching node
is_branching_node (LoopSite set templates) = true
is_branching_node (BlockSite counts templates) = true

abbrev mutual
  -- how many nodes a sketch has
  pub sketch_size : Sketch → ℕ
  sketch_size (Draw node ps) = suc (sizes_below ps)

  -- how many nodes sketches have together
  pub sizes_below : Sketches → ℕ
  sizes_below Over = 0
  sizes_below (More p ps) = sketch_size p + sizes_below ps

abbrev mutual
  -- the most branching nodes on a path of a sketch, from its first node down
  pub sketch_depth : Sketch → ℕ
  sketch_depth (Draw node ps) =
      if is_branching_node node then suc (deepest_below ps) else deepest_below ps

  -- the most branching nodes on a path of any of these sketches, from its first node down
  pub deepest_below : Sketches → ℕ
  deepest_below Over = 0
  deepest_below (More p ps) = max (sketch_depth p) (deepest_below ps)

-- more than 200,000 nodes, or more than 1,000 branching nodes one under another: no plan of it is
-- within the limits
abbrev pub IsTooLarge : Sketch → Type 0
IsTooLarge p = (200000 < sketch_size p) ⊎ (1000 < sketch_depth p)

-- at most so many of both: a sketch that isn't too large
abbrev pub IsFit : Sketch → Type 0
IsFit p = (sketch_size p ≤ 200000) × (sketch_depth p ≤ 1000)
