-- The templates of kinds and of names, one after the other.
use Rattle.sm_template.proofs.Imports.{◌≡◌, ℕ, zero, suc, ℤ, ◌+◌, ◌<◌, Some, List, [], ◌∷◌, ◌++◌, map, take, length, get_or, sym, ap, ◌∙◌, subst, arith, flat_map, map_more, append-nil, flat_map-append, Name, Sorts, Sort, Formula, Assertion, TableValue, sorts_in, AddsTerms, AreOutputsDeclared, Shape, IsFormMade, AddsForms, shape_form, FitsShape, AreShapesFit, name_templates}
use Rattle.sm_template.proofs.AddedLemmas.{added_then, added_one}
use Rattle.sm_template.proofs.NameShapesLemmas.{shape_sorted}

-- the kind at a place fits
pub fit_at : (sort : Sort) (ss : List Shape) (i : ℕ) (d : Shape) → AreShapesFit sort ss → i < length ss → FitsShape sort (get_or ss i d)
fit_at sort [] i d fits h = absurd (omega arith)
fit_at sort (r ∷ ss) zero d fits h = fits.0
fit_at sort (r ∷ ss) (suc i) d fits h = fit_at sort ss i d fits.1 (omega arith)

-- the template of one kind more
pub shape_added : (u v w : TableValue) (x : ℕ) (sort : Sort) (ss : List Shape) (i : ℕ) (d : Shape) (fs gs hs : List Formula) (f : Formula) →
    AddsTerms v w → sorts_in w x ≡ Some sort → AreShapesFit sort ss → i < length ss → IsFormMade w f (shape_form (x, sort) (get_or ss i d)) →
    hs ≡ gs ++ f ∷ [] →
    AddsForms u v fs gs (map (shape_form (x, sort)) (take i ss)) → AddsForms u w fs hs (map (shape_form (x, sort)) (take (i + 1) ss))
shape_added u v w x sort ss i d fs gs hs f grows known fits h made items added =
    let form = shape_form (x, sort) in
    let s = get_or ss i d in
    subst (λ (l : List Formula). AddsForms u w fs l (map form (take (i + 1) ss))) (sym items)
    (subst (AddsForms u w fs (gs ++ f ∷ [])) (sym (map_more form ss i d h))
    (added_then u v w fs gs (gs ++ f ∷ []) (map form (take i ss)) (form s ∷ []) added
    (added_one v w grows gs f (form s) made (shape_sorted (sorts_in w) x sort known s (fit_at sort ss i d fits h)))))

-- names with their sorts
abbrev pub names_of : List (Name × Sort) → List (ℕ × Sort)
names_of ds = map (λ (e : Name × Sort). (e.0.0, e.1)) ds

-- the name at a place is declared
pub name_at : (sorts : Sorts) (ds : List (Name × Sort)) (i : ℕ) (d : Name × Sort) → AreOutputsDeclared sorts (names_of ds) →
    i < length ds → sorts (get_or ds i d).0.0 ≡ Some (get_or ds i d).1
name_at sorts [] i d all h = absurd (omega arith)
name_at sorts (e ∷ es) zero d all h = all.0
name_at sorts (e ∷ es) (suc i) d all h = name_at sorts es i d all.1 (omega arith)

-- the templates of one name more
pub name_added : (u v w : TableValue) (literals : List ℤ) (ds : List (Name × Sort)) (i : ℕ) (d : Name × Sort) (fs gs hs : List Formula) →
    i < length ds → AddsForms u v fs gs (flat_map (name_templates literals) (names_of (take i ds))) →
    AddsForms v w gs hs (name_templates literals ((get_or ds i d).0.0, (get_or ds i d).1)) →
    AddsForms u w fs hs (flat_map (name_templates literals) (names_of (take (i + 1) ds)))
name_added u v w literals ds i d fs gs hs h added more =
    let all = λ (l : List (ℕ × Sort)). flat_map (name_templates literals) l in
    let first = names_of (take i ds) in
    let name : ℕ × Sort = ((get_or ds i d).0.0, (get_or ds i d).1) in
    let split : all (names_of (take (i + 1) ds)) ≡ all first ++ name_templates literals name =
    ap all (map_more (λ (e : Name × Sort). (e.0.0, e.1)) ds i d h)
    ∙ flat_map-append (name_templates literals) first (name ∷ [])
    ∙ ap (λ (l : List Assertion). all first ++ l) (append-nil (name_templates literals name)) in
    subst (AddsForms u w fs hs) (sym split)
    (added_then u v w fs gs hs (all first) (name_templates literals name) added more)
