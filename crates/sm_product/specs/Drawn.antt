-- Private: what drawing a sketch gives.
use Rattle.std.specs.Prelude.{◌≡◌, Result, Ok, Err}
use Rattle.sm_term.specs.Tables.{TableValue, trees_in, sorts_in}
use Rattle.sm_sketch.specs.Errors.{TellsSketch}
use Rattle.sm_sketch.specs.declared.error.ProductError.{ProductError}
use Rattle.sm_sketch.specs.SketchViews.{sketch_in, IsSketchReady}
use Rattle.sm_sketch.specs.declared.sketch.Sketch.{Sketch}
use Rattle.sm_sketch.specs.Sketches as plain

-- a call gives a sketch that stands for this one over a table, or tells that this one is too large
abbrev pub IsDrawn : TableValue → plain.Sketch → Result Sketch ProductError → Type 0
IsDrawn table p (Ok s) =
    (sketch_in (sorts_in table) (trees_in table) s ≡ p)
    × IsSketchReady (sorts_in table) (trees_in table) s
IsDrawn table p (Err e) = TellsSketch e p
