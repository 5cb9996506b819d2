-- The templates of a name are those of its kinds, and each is sorted.
use Rattle.sm_template.proofs.Imports.{◌≡◌, ℕ, ℤ, Some, List, [], ◌∷◌, ◌++◌, map, refl, sym, ap, ◌∙◌, flat_map, map-append, CopyName, Copy, Sorts, Sort, Num, Arr, copy_named, Assertion, HasSort, IsFormSorted, Cell, Read, place_sorted, sort_is, Shape, Side, side_tree, shape_form, FitsSide, FitsShape, AreShapesFit, named_pairs, above_by, above_any, of_pairs, of_goals, number_at_start, array_at_start, named_copies, number_shapes, shapes_of, apart_by, name_templates, named_declared}
use Rattle.sm_syntax.specs.claim.ConflictFree.{O, A, B, M}
use Rattle.sm_template.specs.declared.shapes.Shape.TheVariants as shape
use Rattle.sm_template.specs.declared.shapes.Side.TheVariants as side

-- what is made of each of several lists
map-lists : {T U V : Type 0} (f : U → V) (g : T → List U) (h : T → List V) → ((x : T) → map f (g x) ≡ h x) → (xs : List T) →
    map f (flat_map g xs) ≡ flat_map h xs
map-lists f g h each [] = refl
map-lists f g h each (x ∷ xs) = map-append f (g x) (flat_map g xs) ∙ (λ k. each x k ++ map-lists f g h each xs k)

-- copies by their names
abbrev plain_pair : CopyName × CopyName → Copy × Copy
plain_pair p = (copy_named p.0, copy_named p.1)

-- the templates with literals
above_forms : (x : ℕ) (literals : List ℤ) (ps : List (CopyName × CopyName)) →
    map (shape_form (x, Num)) (flat_map (above_any literals) ps)
    ≡ flat_map (λ (p : Copy × Copy). flat_map (apart_by x p) literals) (map plain_pair ps)
above_forms x literals [] = refl
above_forms x literals (p ∷ ps) =
    map-append (shape_form (x, Num)) (above_any literals p) (flat_map (above_any literals) ps)
    ∙ (λ k.
    map-lists (shape_form (x, Num)) (above_by p) (apart_by x (plain_pair p)) (λ (v : ℤ). refl) literals k
    ++ above_forms x literals ps k)

-- the templates of a name
pub name_forms : (literals : List ℤ) (name : ℕ × Sort) → map (shape_form name) (shapes_of literals name.1) ≡ name_templates literals name
name_forms literals (x, Num) =
    map-append (shape_form (x, Num)) number_shapes (flat_map (above_any literals) named_pairs)
    ∙ ap (λ (l : List Assertion). map (shape_form (x, Num)) number_shapes ++ l) (above_forms x literals named_pairs)
name_forms literals (x, Arr) = refl

-- each kind fits
fit_append : (sort : Sort) (ss rest : List Shape) → AreShapesFit sort ss → AreShapesFit sort rest → AreShapesFit sort (ss ++ rest)
fit_append sort [] rest h g = g
fit_append sort (s ∷ ss) rest h g = (h.0, fit_append sort ss rest h.1 g)

above_fit : (literals : List ℤ) (p : CopyName × CopyName) → AreShapesFit Num (above_any literals p)
above_fit [] p = tt
above_fit (v ∷ literals) p = ((tt, refl), ((tt, refl), above_fit literals p))

all_above_fit : (literals : List ℤ) (ps : List (CopyName × CopyName)) → AreShapesFit Num (flat_map (above_any literals) ps)
all_above_fit literals [] = tt
all_above_fit literals (p ∷ ps) =
    fit_append Num (above_any literals p) (flat_map (above_any literals) ps) (above_fit literals p) (all_above_fit literals ps)

equal_fit : (sort : Sort) → AreShapesFit sort (of_pairs shape.Equal)
equal_fit sort = ((tt, tt), ((tt, tt), ((tt, tt), ((tt, tt), ((tt, tt), ((tt, tt), tt))))))

cells_fit : AreShapesFit Arr (of_pairs shape.Cells)
cells_fit = ((refl, tt, tt), ((refl, tt, tt), ((refl, tt, tt), ((refl, tt, tt), ((refl, tt, tt), ((refl, tt, tt), tt))))))

goals_fit : (sort : Sort) → AreShapesFit sort of_goals
goals_fit sort = (tt, (tt, (tt, tt)))

numbers_fit : AreShapesFit Num (flat_map number_at_start named_copies)
numbers_fit = ((tt, tt), ((tt, tt), ((tt, tt), ((tt, tt), tt))))

arrays_fit : (cs : List CopyName) → AreShapesFit Arr (flat_map array_at_start cs)
arrays_fit [] = tt
arrays_fit (c ∷ cs) = ((tt, tt), ((refl, tt, tt), arrays_fit cs))

pub shapes_fit : (literals : List ℤ) (sort : Sort) → AreShapesFit sort (shapes_of literals sort)
shapes_fit literals Num =
    fit_append Num number_shapes (flat_map (above_any literals) named_pairs)
    (fit_append Num (of_pairs shape.Equal ++ of_goals) (flat_map number_at_start named_copies)
    (fit_append Num (of_pairs shape.Equal) of_goals (equal_fit Num) (goals_fit Num)) numbers_fit)
    (all_above_fit literals named_pairs)
shapes_fit literals Arr =
    fit_append Arr ((of_pairs shape.Equal ++ of_pairs shape.Cells) ++ of_goals) (flat_map array_at_start named_copies)
    (fit_append Arr (of_pairs shape.Equal ++ of_pairs shape.Cells) of_goals
    (fit_append Arr (of_pairs shape.Equal) (of_pairs shape.Cells) (equal_fit Arr) cells_fit) (goals_fit Arr))
    (arrays_fit named_copies)

-- a side has the sort of its name
pub side_sorted : (sorts : Sorts) (x : ℕ) (sort : Sort) → sorts x ≡ Some sort → (s : Side) → FitsSide sort s → HasSort sorts sort (side_tree x s)
side_sorted sorts x sort known (side.Slot c) fits = (named_declared sorts x sort known, sort_is sorts x sort known)
side_sorted sorts x sort known side.Start fits = (named_declared sorts x sort known, sort_is sorts x sort known)
side_sorted sorts x sort known (side.Above c v) fits =
    ((named_declared sorts x sort known, sort_is sorts x sort known ∙ fits, tt, refl), sym fits)

-- its cell is a number
pub cell_sorted : (sorts : Sorts) (x : ℕ) (sort : Sort) → sorts x ≡ Some sort → sort ≡ Arr → (s : Side) → FitsSide sort s →
    HasSort sorts Num (Read (side_tree x s) Cell)
cell_sorted sorts x sort known is s fits =
    let whole = side_sorted sorts x sort known s fits in
    ((whole.0, whole.1 ∙ is, tt, refl), refl)

-- the template of a kind is sorted
pub shape_sorted : (sorts : Sorts) (x : ℕ) (sort : Sort) → sorts x ≡ Some sort → (s : Shape) → FitsShape sort s →
    IsFormSorted sorts (shape_form (x, sort) s)
shape_sorted sorts x sort known (shape.Equal a b) fits =
    (side_sorted sorts x sort known a fits.0, side_sorted sorts x sort known b fits.1)
shape_sorted sorts x sort known (shape.Cells a b) fits =
    (cell_sorted sorts x sort known fits.0 a fits.1, cell_sorted sorts x sort known fits.0 b fits.2)
shape_sorted sorts x sort known (shape.Keeps c) fits =
    let at = λ (d : Copy). place_sorted sorts x sort d known in
    ((at O, at (copy_named c)), (at M, at (copy_named c)))
shape_sorted sorts x sort known shape.AddsNothing fits =
    let at = λ (d : Copy). place_sorted sorts x sort d known in
    ((at O, at A), ((at A, at B), (at M, at O)))
