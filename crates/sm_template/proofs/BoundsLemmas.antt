-- Inequalities of guards stand behind the templates of names, each once.
use Rattle.sm_template.proofs.Imports.{◌≡◌, ℕ, ℤ, Bool, true, false, ◌||◌, if◌then◌else◌, List, [], ◌∷◌, ◌++◌, map, refl, sym, ap, ◌∙◌, subst, fold, list_any, flat_map, append-nil, append_assoc, fold-append, Sort, Condition, Compare, Not, Cmp, Copy, Assertion, term_of, Tree, Shape, with_new, distinct, slots, weaker, guard_templates, shape_form, shapes_of, same_formula, name_templates}
use Rattle.sm_syntax.specs.declared.tree.Cmp.TheVariants as cmp
use Rattle.sm_syntax.specs.claim.Syntax.{Yes, No, And, Or}
use Rattle.sm_term.specs.Assertions as plain
use Rattle.sm_template.specs.declared.shapes.Shape.TheVariants as shape
use Rattle.sm_template.proofs.NameShapesLemmas.{name_forms}
use Rattle.sm_template.proofs.RepeatsLemmas.{IsNew, AreNew, HasNoRepeats, new_append, distinct_same}

-- dropping repeats behind things that none is the same as
module _ {T : Type 0} (same : T → T → Bool) where
  any_behind : (y : T) (xs seen : List T) → IsNew same xs y → list_any (same y) (xs ++ seen) ≡ list_any (same y) seen
  any_behind y [] seen h = refl
  any_behind y (x ∷ xs) seen h = (λ k. h.0 k || any_behind y xs seen h.1 k)

  fold_behind : (xs seen ys : List T) → AreNew same xs ys → fold (with_new same) (xs ++ seen) ys ≡ xs ++ fold (with_new same) seen ys
  fold_behind xs seen [] h = refl
  fold_behind xs seen (y ∷ ys) h =
      ap (λ (b : Bool). fold (with_new same) (if b then xs ++ seen else (xs ++ seen) ++ y ∷ []) ys) (any_behind y xs seen h.0)
      ∙ by (list_any (same y) seen) (λ (more : List T). fold_behind xs more ys h.1)
    where
      by : (b : Bool) → ((more : List T) → fold (with_new same) (xs ++ more) ys ≡ xs ++ fold (with_new same) more ys) →
          fold (with_new same) (if b then xs ++ seen else (xs ++ seen) ++ y ∷ []) ys
          ≡ xs ++ fold (with_new same) (if b then seen else seen ++ y ∷ []) ys
      by true later = later seen
      by false later =
          ap (λ (l : List T). fold (with_new same) l ys) (append_assoc xs seen (y ∷ []))
          ∙ later (seen ++ y ∷ [])

  pub distinct_behind : (xs ys : List T) → HasNoRepeats same xs → AreNew same xs ys → distinct same (xs ++ ys) ≡ xs ++ distinct same ys
  distinct_behind xs ys once new =
      fold-append (with_new same) [] xs ys
      ∙ ap (λ (l : List T). fold (with_new same) l ys) (distinct_same same xs once ∙ sym (append-nil xs))
      ∙ fold_behind xs [] ys new

-- each formula is an inequality
abbrev pub AreBounds : List Assertion → Type 0
AreBounds [] = Unit {0}
AreBounds (f ∷ fs) = ((t : Tree) × (u : Tree) × (f ≡ plain.Le t u)) × AreBounds fs

bounds_append : (fs gs : List Assertion) → AreBounds fs → AreBounds gs → AreBounds (fs ++ gs)
bounds_append [] gs h g = g
bounds_append (f ∷ fs) gs h g = (h.0, bounds_append fs gs h.1 g)

weaker_bounds : (op : Cmp) (t u : Tree) → AreBounds (weaker op t u)
weaker_bounds cmp.Eq t u = tt
weaker_bounds cmp.Ne t u = tt
weaker_bounds cmp.Lt t u = ((_, _, refl), tt)
weaker_bounds cmp.Le t u = ((_, _, refl), tt)
weaker_bounds cmp.Gt t u = ((_, _, refl), tt)
weaker_bounds cmp.Ge t u = ((_, _, refl), tt)

pub guard_bounds : (b : Condition) (c : Copy) → AreBounds (guard_templates b c)
guard_bounds Yes c = tt
guard_bounds No c = tt
guard_bounds (Compare op d e) c = weaker_bounds op (term_of d (slots c)) (term_of e (slots c))
guard_bounds (Not b) c = guard_bounds b c
guard_bounds (And a b) c = bounds_append (guard_templates a c) (guard_templates b c) (guard_bounds a c) (guard_bounds b c)
guard_bounds (Or a b) c = bounds_append (guard_templates a c) (guard_templates b c) (guard_bounds a c) (guard_bounds b c)

pub all_bounds : (f : Copy → List Assertion) → ((c : Copy) → AreBounds (f c)) → (cs : List Copy) → AreBounds (flat_map f cs)
all_bounds f each [] = tt
all_bounds f each (c ∷ cs) = bounds_append (f c) (flat_map f cs) (each c) (all_bounds f each cs)

-- none is a template of a name
bound_new : (name : ℕ × Sort) (t u : Tree) (ss : List Shape) → IsNew same_formula (map (shape_form name) ss) (plain.Le t u)
bound_new name t u [] = tt
bound_new name t u (shape.Equal a b ∷ ss) = (refl, bound_new name t u ss)
bound_new name t u (shape.Cells a b ∷ ss) = (refl, bound_new name t u ss)
bound_new name t u (shape.Keeps c ∷ ss) = (refl, bound_new name t u ss)
bound_new name t u (shape.AddsNothing ∷ ss) = (refl, bound_new name t u ss)

new_of_names : (literals : List ℤ) (names : List (ℕ × Sort)) (t u : Tree) →
    IsNew same_formula (flat_map (name_templates literals) names) (plain.Le t u)
new_of_names literals [] t u = tt
new_of_names literals (n ∷ names) t u =
    new_append same_formula (plain.Le t u) (name_templates literals n) (flat_map (name_templates literals) names)
    (subst (λ (l : List Assertion). IsNew same_formula l (plain.Le t u)) (name_forms literals n)
    (bound_new n t u (shapes_of literals n.1)))
    (new_of_names literals names t u)

pub bounds_new : (literals : List ℤ) (names : List (ℕ × Sort)) (fs : List Assertion) → AreBounds fs →
    AreNew same_formula (flat_map (name_templates literals) names) fs
bounds_new literals names [] h = tt
bounds_new literals names (f ∷ fs) h = (
  subst (IsNew same_formula (flat_map (name_templates literals) names)) (sym h.0.2) (new_of_names literals names h.0.0 h.0.1),
  bounds_new literals names fs h.1,
)
