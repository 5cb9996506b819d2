-- Cited by public clauses: the sketches that the program's own stand for.
use Rattle.std.specs.Prelude.{◌≡◌, List, [], ◌∷◌}
use Rattle.sm_syntax.specs.text.Parts.{by_copy}
use Rattle.sm_syntax.specs.text.Sorts.{Sorts}
use Rattle.sm_term.specs.Terms.{Tree}
use Rattle.sm_expand.specs.NumberedPlans.{Fork, Ends}
use Rattle.sm_expand.specs.Views.{simple_node}
use Rattle.sm_expand.specs.declared.plan.Simple.{Simple}
use Rattle.sm_sketch.specs.declared.sketch.Sketch.{Sketch-F, fold-Sketch}
pub use Rattle.sm_sketch.specs.declared.sketch.Sketch.{Sketch, fold_out-Sketch}
use Rattle.sm_sketch.specs.declared.sketch.SketchEnd.{SketchEnd, SketchEnd-F, fold-SketchEnd}
use Rattle.sm_sketch.specs.declared.sketch.SketchEnd.TheOpen as layer
use Rattle.sm_sketch.specs.declared.sketch.Sketches.{Sketches, Sketches-F, fold-Sketches}
use Rattle.sm_sketch.specs.NumberedSketches.{Plain, LoopSite, BlockSite, NumberedSketch, Draw, Over, More, sketches_before, sketch_over, AreNodesReady}
use Rattle.sm_sketch.specs.Sketches as tree
use Rattle.sm_sketch.specs.SketchSizes.{sketch_size, sketch_depth}

-- simple nodes one under another, the last one first, and a sketch under them
abbrev pub stacked : List Simple → NumberedSketch → NumberedSketch
stacked [] p = p
stacked (s ∷ rest) p = stacked rest (Draw (Plain (simple_node s)) (More p Over))

-- how a sketch ends, where the sketches below it are told
abbrev pub end_layer : SketchEnd-F NumberedSketch NumberedSketch (List NumberedSketch) →
    NumberedSketch
end_layer (layer.Fork copy one other) =
    Draw (Plain (Fork copy)) (More one.value (More other.value Over))
end_layer (layer.Loop set templates turns after) =
    Draw (LoopSite set templates.value.list.items)
    (sketches_before turns (More after.value Over))
end_layer (layer.Block k0 k1 k2 k3 templates inner after) =
    Draw (BlockSite (by_copy k0 k1 k2 k3) templates.value.list.items)
    (More inner.value (More after.value Over))
end_layer layer.End = Draw (Plain Ends) Over

-- a sketch, where that of its end is told
abbrev pub sketch_layer : Sketch-F NumberedSketch NumberedSketch (List NumberedSketch) →
    NumberedSketch
sketch_layer s = stacked s.straight.list.items s.last

-- sketches, where each is told
abbrev pub sketches_layer : Sketches-F NumberedSketch NumberedSketch (List NumberedSketch) →
    List NumberedSketch
sketches_layer ps = ps.list.items

-- the sketch that one of the program stands for, over numbers of terms
abbrev pub numbered_sketch : Sketch → NumberedSketch
numbered_sketch =
    fold-Sketch NumberedSketch NumberedSketch (List NumberedSketch) end_layer sketch_layer
    sketches_layer

-- the sketch that an end of one of the program stands for, over numbers of terms
abbrev pub numbered_end : SketchEnd → NumberedSketch
numbered_end =
    fold-SketchEnd NumberedSketch NumberedSketch (List NumberedSketch) end_layer sketch_layer
    sketches_layer

-- the sketches that those of the program stand for, over numbers of terms
abbrev pub numbered_sketches : Sketches → List NumberedSketch
numbered_sketches =
    fold-Sketches NumberedSketch NumberedSketch (List NumberedSketch) end_layer sketch_layer
    sketches_layer

-- the sketch over the trees of a table
abbrev pub sketch_in : Sorts → List Tree → Sketch → tree.Sketch
sketch_in sorts trees s = sketch_over sorts trees (numbered_sketch s)

-- a sketch tells its size, and its templates are in a table, each part with the sort that it is
-- used with
pub record IsSketchReady (sorts : Sorts) (trees : List Tree) (s : Sketch) : Type 0 where
  pub nodes : s.extent.nodes ≡ sketch_size (sketch_in sorts trees s)
  pub branches : s.extent.branches ≡ sketch_depth (sketch_in sorts trees s)
  pub formulas : AreNodesReady sorts trees (numbered_sketch s)

-- each sketch of a list tells its size, and its templates are in a table
abbrev pub AreSketchesReady : Sorts → List Tree → List Sketch → Type 0
AreSketchesReady sorts trees [] = Unit {0}
AreSketchesReady sorts trees (s ∷ rest) =
    IsSketchReady sorts trees s × AreSketchesReady sorts trees rest
