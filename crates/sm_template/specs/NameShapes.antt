-- Private: the kinds of templates that a name has, in order.
use Rattle.std.specs.Prelude.{◌≡◌, ℕ, ℤ, List, [], ◌∷◌, ◌++◌, map, flat_map}
use Rattle.sm_syntax.specs.declared.copies.CopyName.{CopyName}
use Rattle.sm_syntax.specs.declared.copies.CopyName.TheVariants as copy
use Rattle.sm_syntax.specs.declared.tree.Sort.{Sort}
use Rattle.sm_syntax.specs.declared.tree.Sort.TheVariants.{Num, Arr}
use Rattle.sm_syntax.specs.claim.ConflictFree.{Copy, O, A, B, M}
use Rattle.sm_syntax.specs.trees.Copies.{copy_named}
use Rattle.sm_term.specs.Terms.{Tree, Lit, Start, Slot, Add}
use Rattle.sm_term.specs.Assertions.{Assertion, Eq, Ne, Or}
use Rattle.sm_plan.specs.States.{place}
use Rattle.sm_template.specs.declared.shapes.Shape.{Shape}
use Rattle.sm_template.specs.declared.shapes.Shape.TheVariants as shape
use Rattle.sm_template.specs.declared.shapes.Side.{Side}
use Rattle.sm_template.specs.declared.shapes.Side.TheVariants as side
use Rattle.sm_template.specs.Templates.{equal_cells}

-- the term of a side of an equation about a name
abbrev pub side_tree : ℕ → Side → Tree
side_tree x (side.Slot c) = Slot (copy_named c) x
side_tree x side.Start = Start x
side_tree x (side.Above c v) = Add (Slot (copy_named c) x) (Lit v)

-- a variant's change of a name is kept
abbrev pub keeps_change : (Copy → Tree) → Copy → Assertion
keeps_change at c = Or (Eq Num (at O) (at c)) (Eq Num (at M) (at c))

-- nothing is changed that no variant changed
abbrev pub adds_nothing : (Copy → Tree) → Assertion
adds_nothing at = Or (Ne Num (at O) (at A)) (Or (Ne Num (at A) (at B)) (Eq Num (at M) (at O)))

-- the template of a kind that a name has
abbrev pub shape_form : ℕ × Sort → Shape → Assertion
shape_form name (shape.Equal a b) = Eq name.1 (side_tree name.0 a) (side_tree name.0 b)
shape_form name (shape.Cells a b) = equal_cells (side_tree name.0 a) (side_tree name.0 b)
shape_form name (shape.Keeps c) = keeps_change (place name) (copy_named c)
shape_form name shape.AddsNothing = adds_nothing (place name)

-- a number is added to numbers alone
abbrev pub FitsSide : Sort → Side → Type 0
FitsSide sort (side.Slot c) = Unit {0}
FitsSide sort side.Start = Unit {0}
FitsSide sort (side.Above c v) = sort ≡ Num

-- only an array has cells
abbrev pub FitsShape : Sort → Shape → Type 0
FitsShape sort (shape.Equal a b) = FitsSide sort a × FitsSide sort b
FitsShape sort (shape.Cells a b) = (sort ≡ Arr) × FitsSide sort a × FitsSide sort b
FitsShape sort (shape.Keeps c) = Unit {0}
FitsShape sort shape.AddsNothing = Unit {0}

-- each kind of a list is one that a name of this sort may have
abbrev pub AreShapesFit : Sort → List Shape → Type 0
AreShapesFit sort [] = Unit {0}
AreShapesFit sort (s ∷ rest) = FitsShape sort s × AreShapesFit sort rest

-- two copies, the lesser one first, in order
abbrev pub named_pairs : List (CopyName × CopyName)
named_pairs =
    (copy.O, copy.A) ∷ (copy.O, copy.B) ∷ (copy.O, copy.M)
    ∷ (copy.A, copy.B) ∷ (copy.A, copy.M) ∷ (copy.B, copy.M) ∷ []

-- the copies, ascending
abbrev pub named_copies : List CopyName
named_copies = copy.O ∷ copy.A ∷ copy.B ∷ copy.M ∷ []

-- two copies have equal values, or equal cells
abbrev pub of_pairs : (Side → Side → Shape) → List Shape
of_pairs form =
    map (λ (p : CopyName × CopyName). form (side.Slot p.0) (side.Slot p.1)) named_pairs

-- the goals
abbrev pub of_goals : List Shape
of_goals = shape.Keeps copy.A ∷ shape.Keeps copy.B ∷ shape.AddsNothing ∷ []

-- a number's value in a copy is that at the start
abbrev pub number_at_start : CopyName → List Shape
number_at_start c = shape.Equal (side.Slot c) side.Start ∷ []

-- an array's value in a copy is that at the start, and its cell is
abbrev pub array_at_start : CopyName → List Shape
array_at_start c =
    shape.Equal (side.Slot c) side.Start ∷ shape.Cells (side.Slot c) side.Start ∷ []

-- a literal is between the values of two copies
abbrev pub above_by : CopyName × CopyName → ℤ → List Shape
above_by p v =
    shape.Equal (side.Slot p.1) (side.Above p.0 v)
    ∷ shape.Equal (side.Slot p.0) (side.Above p.1 v) ∷ []

-- one of the literals is
abbrev pub above_any : List ℤ → CopyName × CopyName → List Shape
above_any literals p = flat_map (above_by p) literals

-- the kinds of templates of a number but those with literals
abbrev pub number_shapes : List Shape
number_shapes = of_pairs shape.Equal ++ of_goals ++ flat_map number_at_start named_copies

-- the kinds of templates of an array
abbrev pub array_shapes : List Shape
array_shapes =
    of_pairs shape.Equal ++ of_pairs shape.Cells ++ of_goals
    ++ flat_map array_at_start named_copies

-- the kinds of templates of a name of this sort
abbrev pub shapes_of : List ℤ → Sort → List Shape
shapes_of literals Num = number_shapes ++ flat_map (above_any literals) named_pairs
shapes_of literals Arr = array_shapes
