-- Cited by public clauses: the extents of sketches, and how nodes are put before sketches.
use Rattle.std.specs.Prelude.{ℕ, ◌+◌, ◌<◌, ◌⊎◌, max, Bool, if◌then◌else◌, List, [], ◌∷◌, map}
use Rattle.sm_syntax.specs.claim.ConflictFree.{Copy}
use Rattle.sm_plan.specs.Nodes as plan
use Rattle.sm_plan.specs.Nodes.{Node}
use Rattle.sm_sketch.specs.declared.drawing.Way.{Way}
use Rattle.sm_sketch.specs.declared.drawing.Way.TheVariants as way
use Rattle.sm_sketch.specs.declared.error.ProductError.{ProductError}
use Rattle.sm_sketch.specs.declared.error.ProductError.TheVariants as error
use Rattle.sm_sketch.specs.declared.sketch.Sketch.{Sketch}
use Rattle.sm_sketch.specs.Sketches as tree
use Rattle.sm_sketch.specs.Sketches.{then_draw}

-- an error tells that so many nodes, or so many branching ones one under another, are too many
abbrev pub TellsExtent : ProductError → ℕ → ℕ → Type 0
TellsExtent error.TooMany nodes branches = (200000 < nodes) ⊎ (1000 < branches)
TellsExtent error.Memory nodes branches = Unit {0}

-- numbers added
abbrev pub added : List ℕ → ℕ
added [] = 0
added (n ∷ rest) = n + added rest

-- the greatest of numbers
abbrev pub greatest : List ℕ → ℕ
greatest [] = 0
greatest (n ∷ rest) = max n (greatest rest)

-- how many nodes sketches have, as they tell
abbrev pub total_nodes : List Sketch → ℕ
total_nodes ss = added (map (λ (s : Sketch). s.extent.nodes) ss)

-- the most branching nodes one under another in one of them, as they tell
abbrev pub most_branches : List Sketch → ℕ
most_branches ss = greatest (map (λ (s : Sketch). s.extent.branches) ss)

-- the node of a copy that does one statement
abbrev pub node_by : Way → Copy → Node
node_by way.Statement = plan.Step
node_by way.Summary = λ (c : Copy). plan.Abs c 1

-- a node before a sketch, where it is wanted
abbrev pub drawn_where : Bool → Node → tree.Sketch → tree.Sketch
drawn_where b node p = if b then then_draw node p else p
