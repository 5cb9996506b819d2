-- Cited by public clauses: what the errors of this crate tell.
pub use Rattle.sm_sketch.specs.declared.error.ProductError.{ProductError}
use Rattle.sm_sketch.specs.declared.error.ProductError.TheVariants as error
use Rattle.sm_sketch.specs.Sketches.{Sketch}
use Rattle.sm_sketch.specs.SketchSizes.{IsTooLarge}

-- an error tells that a sketch is too large; want of memory tells nothing
abbrev pub TellsSketch : ProductError → Sketch → Type 0
TellsSketch error.TooMany p = IsTooLarge p
TellsSketch error.Memory p = Unit {0}
