-- Cited by public clauses: what the errors of this crate tell.
use Rattle.std.specs.Prelude.{◌≡◌, false}
use Rattle.sm_syntax.specs.text.Parts.{Parts}
use Rattle.sm_sketch.specs.declared.error.ProductError.{ProductError}
use Rattle.sm_sketch.specs.declared.error.ProductError.TheVariants as error
use Rattle.sm_product.specs.Sizes.{is_small}

-- an error tells that the plan of all templates of a task isn't within the limits; want of memory
-- tells nothing
abbrev pub TellsTask : ProductError → Parts → Type 0
TellsTask error.TooMany t = is_small t ≡ false
TellsTask error.Memory t = Unit {0}
