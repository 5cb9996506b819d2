-- Private: how large what is drawn may still get.
use Rattle.std.specs.Prelude.{◌≡◌, ◌+◌, ◌<◌, ◌≤◌, ◌⊎◌, List, [], ◌∷◌}
use Rattle.sm_sketch.specs.declared.error.ProductError.{ProductError}
use Rattle.sm_sketch.specs.declared.error.ProductError.TheVariants as error
use Rattle.sm_sketch.specs.Sketches.{Sketch, Sketches, Over, More}
use Rattle.sm_sketch.specs.SketchSizes.{sketch_size, sizes_below, sketch_depth, deepest_below}
use Rattle.sm_product.specs.declared.rooms.Room.{Room}

-- no more than any sketch may have
abbrev pub IsRoom : Room → Type 0
IsRoom room = (room.nodes ≤ 200000) × (room.branches ≤ 1000)

-- an error tells that a sketch has more nodes, or branches deeper, than there is room for; want of
-- memory tells nothing
abbrev pub TellsBeyond : Room → ProductError → Sketch → Type 0
TellsBeyond room error.TooMany p = (room.nodes < sketch_size p) ⊎ (room.branches < sketch_depth p)
TellsBeyond room error.Memory p = Unit {0}

-- sketches one after the other
abbrev pub all_below : List Sketch → Sketches
all_below [] = Over
all_below (p ∷ rest) = More p (all_below rest)

-- an error tells that sketches together have more nodes, or branches deeper, than there is room for
abbrev pub TellAllBeyond : Room → ProductError → List Sketch → Type 0
TellAllBeyond room error.TooMany ps =
    (room.nodes < sizes_below (all_below ps)) ⊎ (room.branches < deepest_below (all_below ps))
TellAllBeyond room error.Memory ps = Unit {0}

-- room has been taken by sketches
pub record IsTaken (old new : Room) (ps : List Sketch) : Type 0 where
  pub nodes : new.nodes + sizes_below (all_below ps) ≡ old.nodes
  pub branches : new.branches ≡ old.branches
