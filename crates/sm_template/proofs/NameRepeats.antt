-- No template of names stands twice.
use Rattle.sm_template.proofs.Imports.{◌≡◌, ℕ, zero, suc, ℤ, ◌+◌, ◌<◌, ◌==◌, Bool, true, false, ◌&&◌, ◌||◌, List, [], ◌∷◌, map, length, refl, sym, ap, ◌∙◌, subst, arith, list_any, filter, flat_map, range_with_len, int_eq, and_parts, and_from, eq-eqb, ne_eqb, or_parts, CopyName, Sort, Num, Arr, Code, Copy, Parts, copy_named, Assertion, Eq, Ne, Le, Lt, is_copy, same_sort, same_tree, Tree, Start, Slot, Cell, Read, Add, same_sort_is, same_tree_is, AreNumbered, Shape, Side, distinct, copies, literals_filled, literals_of, side_tree, shape_form, named_pairs, above_by, above_any, number_shapes, array_shapes, shapes_of, same_formula, name_templates, is_written, names_written}
use Rattle.std.specs.Prelude.{pos, int_lt}
use Rattle.sm_syntax.specs.declared.copies.CopyName.TheVariants as copy
use Rattle.sm_term.specs.Assertions.{Yes, No, And, Or}
use Rattle.sm_template.specs.declared.shapes.Shape.TheVariants as shape
use Rattle.sm_template.specs.declared.shapes.Side.TheVariants as side
use Rattle.sm_template.proofs.NameShapesLemmas.{name_forms}
use Rattle.sm_template.proofs.RepeatsLemmas.{IsNew, AreNew, HasNoRepeats, new_of_any, all_append, no_repeats_append, no_repeats_distinct, no_repeats_take, no_repeats_by_test, no_repeats_map, no_repeats_lists, no_repeats_unmap}
use Rattle.sm_template.proofs.RepeatsLemmas.{no_repeats_filter, lists_apart, all_apart}

and_turned : (a b : Bool) → (a && b) ≡ false → (b && a) ≡ false
and_turned true true h = absurd cc
and_turned true false h = refl
and_turned false true h = refl
and_turned false false h = refl

formula_gives : (f g : Assertion) → same_formula f g ≡ true → f ≡ g
formula_gives Yes Yes h = refl
formula_gives No No h = refl
formula_gives (Eq s t u) (Eq r v w) h =
    let p = and_parts (same_sort s r) (same_tree t v && same_tree u w) h in
    let q = and_parts (same_tree t v) (same_tree u w) p.1 in
    rw ((same_sort_is s r).0 p.0, (same_tree_is t v).0 q.0, (same_tree_is u w).0 q.1) refl
formula_gives (Ne s t u) (Ne r v w) h =
    let p = and_parts (same_sort s r) (same_tree t v && same_tree u w) h in
    let q = and_parts (same_tree t v) (same_tree u w) p.1 in
    rw ((same_sort_is s r).0 p.0, (same_tree_is t v).0 q.0, (same_tree_is u w).0 q.1) refl
formula_gives (Le t u) (Le v w) h =
    let q = and_parts (same_tree t v) (same_tree u w) h in rw ((same_tree_is t v).0 q.0, (same_tree_is u w).0 q.1) refl
formula_gives (Lt t u) (Lt v w) h =
    let q = and_parts (same_tree t v) (same_tree u w) h in rw ((same_tree_is t v).0 q.0, (same_tree_is u w).0 q.1) refl
formula_gives (And p q) (And r s) h =
    let k = and_parts (same_formula p r) (same_formula q s) h in rw (formula_gives p r k.0, formula_gives q s k.1) refl
formula_gives (Or p q) (Or r s) h =
    let k = and_parts (same_formula p r) (same_formula q s) h in rw (formula_gives p r k.0, formula_gives q s k.1) refl
formula_gives f g h = absurd cc

formula_itself : (f : Assertion) → same_formula f f ≡ true
formula_itself Yes = refl
formula_itself No = refl
formula_itself (Eq s t u) =
    and_from (same_sort s s) (same_tree t t && same_tree u u) ((same_sort_is s s).1 refl)
    (and_from (same_tree t t) (same_tree u u) ((same_tree_is t t).1 refl) ((same_tree_is u u).1 refl))
formula_itself (Ne s t u) =
    and_from (same_sort s s) (same_tree t t && same_tree u u) ((same_sort_is s s).1 refl)
    (and_from (same_tree t t) (same_tree u u) ((same_tree_is t t).1 refl) ((same_tree_is u u).1 refl))
formula_itself (Le t u) = and_from (same_tree t t) (same_tree u u) ((same_tree_is t t).1 refl) ((same_tree_is u u).1 refl)
formula_itself (Lt t u) = and_from (same_tree t t) (same_tree u u) ((same_tree_is t t).1 refl) ((same_tree_is u u).1 refl)
formula_itself (And p q) = and_from (same_formula p p) (same_formula q q) (formula_itself p) (formula_itself q)
formula_itself (Or p q) = and_from (same_formula p p) (same_formula q q) (formula_itself p) (formula_itself q)

-- formulas of which something differs aren't the same
pub not_same : (f g : Assertion) → (f ≡ g → ⊥) → same_formula f g ≡ false
not_same f g h = by (same_formula f g) refl
  where
    by : (b : Bool) → same_formula f g ≡ b → b ≡ false
    by true e = absurd (h (formula_gives f g e))
    by false e = refl

differ : (f g : Assertion) → same_formula f g ≡ false → f ≡ g → ⊥
differ f g h e =
    let one : same_formula f g ≡ true = ap (same_formula f) (sym e) ∙ formula_itself f in
    absurd (let other : true ≡ false = sym one ∙ h in cc)

-- a term and a formula with 0 for each name
abbrev zero_term : Tree → Tree
zero_term (Slot c x) = Slot c 0
zero_term (Start x) = Start 0
zero_term (Read t u) = Read (zero_term t) (zero_term u)
zero_term (Add t u) = Add (zero_term t) (zero_term u)
zero_term t = t

abbrev zero_form : Assertion → Assertion
zero_form (Eq s t u) = Eq s (zero_term t) (zero_term u)
zero_form (Ne s t u) = Ne s (zero_term t) (zero_term u)
zero_form (Or p q) = Or (zero_form p) (zero_form q)
zero_form f = f

zero_side : (x : ℕ) (s : Side) → zero_term (side_tree x s) ≡ side_tree 0 s
zero_side x (side.Slot c) = refl
zero_side x side.Start = refl
zero_side x (side.Above c v) = refl

zero_shape : (x : ℕ) (sort : Sort) (s : Shape) → zero_form (shape_form (x, sort) s) ≡ shape_form (0, sort) s
zero_shape x sort (shape.Equal a b) = (λ k. Eq sort (zero_side x a k) (zero_side x b k))
zero_shape x sort (shape.Cells a b) = (λ k. Eq Num (Read (zero_side x a k) Cell) (Read (zero_side x b k) Cell))
zero_shape x Num (shape.Keeps c) = refl
zero_shape x Arr (shape.Keeps c) = refl
zero_shape x Num shape.AddsNothing = refl
zero_shape x Arr shape.AddsNothing = refl

-- the name that a template is about
abbrev name_term : Tree → ℕ
name_term (Slot c x) = x
name_term (Start x) = x
name_term (Read t u) = name_term t
name_term (Add t u) = name_term t
name_term t = 0

abbrev name_form : Assertion → ℕ
name_form (Eq s t u) = name_term t
name_form (Ne s t u) = name_term t
name_form (Or p q) = name_form p
name_form f = 0

name_side : (x : ℕ) (s : Side) → name_term (side_tree x s) ≡ x
name_side x (side.Slot c) = refl
name_side x side.Start = refl
name_side x (side.Above c v) = refl

name_shape : (x : ℕ) (sort : Sort) (s : Shape) → name_form (shape_form (x, sort) s) ≡ x
name_shape x sort (shape.Equal a b) = name_side x a
name_shape x sort (shape.Cells a b) = name_side x a
name_shape x Num (shape.Keeps c) = refl
name_shape x Arr (shape.Keeps c) = refl
name_shape x Num shape.AddsNothing = refl
name_shape x Arr shape.AddsNothing = refl

-- templates of one name differ where those of name 0 do
abbrev pub same_kind : Sort → Shape → Shape → Bool
same_kind sort s r = same_formula (shape_form (0, sort) s) (shape_form (0, sort) r)

kind_tells : (x : ℕ) (sort : Sort) (s r : Shape) → same_kind sort s r ≡ false →
    same_formula (shape_form (x, sort) s) (shape_form (x, sort) r) ≡ false
kind_tells x sort s r h =
    not_same (shape_form (x, sort) s) (shape_form (x, sort) r)
    (λ (e : shape_form (x, sort) s ≡ shape_form (x, sort) r).
    differ (shape_form (0, sort) s) (shape_form (0, sort) r) h
    (sym (zero_shape x sort s) ∙ ap zero_form e ∙ zero_shape x sort r))

-- templates of two names differ
name_tells : (x y : ℕ) (a b : Sort) (s r : Shape) → (x == y) ≡ false →
    same_formula (shape_form (x, a) s) (shape_form (y, b) r) ≡ false
name_tells x y a b s r h =
    not_same (shape_form (x, a) s) (shape_form (y, b) r)
    (λ (e : shape_form (x, a) s ≡ shape_form (y, b) r).
    let same : x ≡ y = sym (name_shape x a s) ∙ ap name_form e ∙ name_shape y b r in
    absurd (let one : (x == y) ≡ true = eq-eqb x y same in let other : true ≡ false = sym one ∙ h in cc))

-- a kind with a literal
abbrev plus : CopyName → CopyName → ℤ → Shape
plus c d v = shape.Equal (side.Slot d) (side.Above c v)

-- whether two pairs have the same copies, in this order and in any
abbrev ends : CopyName → CopyName → CopyName → CopyName → Bool
ends c d e f = is_copy (copy_named c) (copy_named e) && is_copy (copy_named d) (copy_named f)

abbrev same_pair : CopyName × CopyName → CopyName × CopyName → Bool
same_pair p q = ends p.0 p.1 q.0 q.1 || ends p.0 p.1 q.1 q.0

-- kinds with literals differ where their copies do, or their literals
plus_ends : (c d e f : CopyName) (v w : ℤ) → ends c d e f ≡ false → same_kind Num (plus c d v) (plus e f w) ≡ false
plus_ends c d e f v w h = by (is_copy (copy_named c) (copy_named e)) (is_copy (copy_named d) (copy_named f)) (int_eq v w) h
  where
    by : (a b z : Bool) → (a && b) ≡ false → ((b && true) && ((a && true) && z)) ≡ false
    by true true z h = absurd cc
    by true false z h = refl
    by false true z h = refl
    by false false z h = refl

plus_literals : (c d : CopyName) (v w : ℤ) → int_eq v w ≡ false → same_kind Num (plus c d v) (plus c d w) ≡ false
plus_literals c d v w h = by (is_copy (copy_named c) (copy_named c)) (is_copy (copy_named d) (copy_named d)) (int_eq v w) h
  where
    by : (a b z : Bool) → z ≡ false → ((b && true) && ((a && true) && z)) ≡ false
    by a b true h = absurd cc
    by true true false h = refl
    by true false false h = refl
    by false true false h = refl
    by false false false h = refl

-- no two of those of two copies that differ are the same
no_repeats_above : (c d : CopyName) → ends c d d c ≡ false → (literals : List ℤ) → HasNoRepeats int_eq literals →
    HasNoRepeats (same_kind Num) (above_any literals (c, d))
no_repeats_above c d h literals once =
    let turned : ends d c c d ≡ false =
    and_turned (is_copy (copy_named c) (copy_named d)) (is_copy (copy_named d) (copy_named c)) h in
    no_repeats_lists int_eq (same_kind Num) (above_by (c, d))
    (λ (v w : ℤ) (e : int_eq v w ≡ false). (
      (plus_literals c d v w e, (plus_ends c d d c v w h, tt)),
      ((plus_ends d c c d v w turned, (plus_literals d c v w e, tt)), tt),
    ))
    (λ (v : ℤ). (((plus_ends d c c d v v turned, tt), tt), (tt, tt)))
    literals once

-- those of two pairs have none in common
module _ (p q : CopyName × CopyName) (h : same_pair q p ≡ false) where
  halves : (ends q.0 q.1 p.0 p.1 ≡ false) × (ends q.0 q.1 p.1 p.0 ≡ false)
  halves = or_parts (ends q.0 q.1 p.0 p.1) (ends q.0 q.1 p.1 p.0) h

  turned_ends : (ends q.1 q.0 p.1 p.0 ≡ false) × (ends q.1 q.0 p.0 p.1 ≡ false)
  turned_ends = (
    and_turned (is_copy (copy_named q.0) (copy_named p.0)) (is_copy (copy_named q.1) (copy_named p.1)) halves.0,
    and_turned (is_copy (copy_named q.0) (copy_named p.1)) (is_copy (copy_named q.1) (copy_named p.0)) halves.1,
  )

  new_first : (literals : List ℤ) (v : ℤ) → IsNew (same_kind Num) (above_any literals p) (plus q.0 q.1 v)
  new_first [] v = tt
  new_first (w ∷ literals) v = (
    plus_ends q.0 q.1 p.0 p.1 v w halves.0,
    (plus_ends q.0 q.1 p.1 p.0 v w halves.1, new_first literals v),
  )

  new_second : (literals : List ℤ) (v : ℤ) → IsNew (same_kind Num) (above_any literals p) (plus q.1 q.0 v)
  new_second [] v = tt
  new_second (w ∷ literals) v = (
    plus_ends q.1 q.0 p.0 p.1 v w turned_ends.1,
    (plus_ends q.1 q.0 p.1 p.0 v w turned_ends.0, new_second literals v),
  )

  above_apart : (literals more : List ℤ) → AreNew (same_kind Num) (above_any literals p) (above_any more q)
  above_apart literals [] = tt
  above_apart literals (v ∷ more) = (new_first literals v, (new_second literals v, above_apart literals more))

-- none is a kind without literals
plus_new : (c d : CopyName) (v : ℤ) → list_any (same_kind Num (plus c d v)) number_shapes ≡ false
plus_new c copy.O v = refl
plus_new c copy.A v = refl
plus_new c copy.B v = refl
plus_new c copy.M v = refl

above_new : (p : CopyName × CopyName) (literals : List ℤ) → AreNew (same_kind Num) number_shapes (above_any literals p)
above_new p [] = tt
above_new p (v ∷ literals) = (
  new_of_any (same_kind Num) (plus p.0 p.1 v) number_shapes (plus_new p.0 p.1 v),
  (new_of_any (same_kind Num) (plus p.1 p.0 v) number_shapes (plus_new p.1 p.0 v), above_new p literals),
)

all_above_new : (literals : List ℤ) (ps : List (CopyName × CopyName)) →
    AreNew (same_kind Num) number_shapes (flat_map (above_any literals) ps)
all_above_new literals [] = tt
all_above_new literals (p ∷ ps) =
    all_append (same_kind Num) number_shapes (above_any literals p) (flat_map (above_any literals) ps) (above_new p literals)
    (all_above_new literals ps)

-- each pair has two copies
abbrev AreTwo : List (CopyName × CopyName) → Type 0
AreTwo [] = Unit {0}
AreTwo (p ∷ ps) = (ends p.0 p.1 p.1 p.0 ≡ false) × AreTwo ps

-- no kind with a literal stands twice
all_above_once : (literals : List ℤ) → HasNoRepeats int_eq literals → (ps : List (CopyName × CopyName)) → AreTwo ps →
    HasNoRepeats same_pair ps → HasNoRepeats (same_kind Num) (flat_map (above_any literals) ps)
all_above_once literals h [] two once = tt
all_above_once literals h ((c, d) ∷ ps) two once =
    no_repeats_append (same_kind Num) (above_any literals (c, d)) (flat_map (above_any literals) ps)
    (no_repeats_above c d two.0 literals h) (all_above_once literals h ps two.1 once.1)
    (lists_apart same_pair (same_kind Num) (above_any literals)
    (λ (q p : CopyName × CopyName) (e : same_pair q p ≡ false). above_apart p q e literals literals) (c, d) ps once.0)

-- no kind of a name does
shapes_once : (literals : List ℤ) → HasNoRepeats int_eq literals → (sort : Sort) → HasNoRepeats (same_kind sort) (shapes_of literals sort)
shapes_once literals h Num =
    no_repeats_append (same_kind Num) number_shapes (flat_map (above_any literals) named_pairs)
    (no_repeats_by_test (same_kind Num) number_shapes refl)
    (all_above_once literals h named_pairs (refl, (refl, (refl, (refl, (refl, (refl, tt))))))
    (no_repeats_by_test same_pair named_pairs refl))
    (all_above_new literals named_pairs)
shapes_once literals h Arr = no_repeats_by_test (same_kind Arr) array_shapes refl

-- no template of a name
name_once : (literals : List ℤ) → HasNoRepeats int_eq literals → (name : ℕ × Sort) →
    HasNoRepeats same_formula (name_templates literals name)
name_once literals h (x, sort) =
    subst (HasNoRepeats same_formula) (name_forms literals (x, sort))
    (no_repeats_map (same_kind sort) same_formula (shape_form (x, sort)) (kind_tells x sort) (shapes_of literals sort)
    (shapes_once literals h sort))

-- those of two names have none in common
names_apart : (literals : List ℤ) (n m : ℕ × Sort) → (n.0 == m.0) ≡ false →
    AreNew same_formula (name_templates literals m) (name_templates literals n)
names_apart literals (x, a) (y, b) h =
    subst (λ (l : List Assertion). AreNew same_formula l (name_templates literals (x, a))) (name_forms literals (y, b))
    (subst (AreNew same_formula (map (shape_form (y, b)) (shapes_of literals b))) (name_forms literals (x, a))
    (all_apart same_formula (shape_form (x, a)) (shape_form (y, b)) (λ (s r : Shape). name_tells x y a b s r h)
    (shapes_of literals b) (shapes_of literals a)))

-- numbers in order stand once
later_new : (k j n : ℕ) → k < j → AreNew (λ (x y : ℕ). x == y) (k ∷ []) (range_with_len j n)
later_new k j zero h = tt
later_new k j (suc n) h = ((ne_eqb j k (λ (e : j ≡ k). omega (arith, e)), tt), later_new k (j + 1) n (omega arith))

range_once : (j n : ℕ) → HasNoRepeats (λ (x y : ℕ). x == y) (range_with_len j n)
range_once j zero = tt
range_once j (suc n) = (later_new j (j + 1) n (omega arith), range_once (j + 1) n)

-- so do names that are declared by number
abbrev pub same_name : ℕ × Sort → ℕ × Sort → Bool
same_name n m = n.0 == m.0

pub declared_once : (declared : List (ℕ × Sort)) → AreNumbered declared → HasNoRepeats same_name declared
declared_once declared numbered =
    no_repeats_unmap (λ (x y : ℕ). x == y) (λ (d : ℕ × Sort). d.0) declared
    (subst (HasNoRepeats (λ (x y : ℕ). x == y)) (sym numbered) (range_once 0 (length declared)))

-- no template of the names that code writes stands twice
pub templates_once : (t : Parts) → AreNumbered t.declared → (code : Copy → Code) →
    HasNoRepeats same_formula (flat_map (name_templates (literals_of t)) (names_written t.declared code))
templates_once t numbered code =
    let all = filter (int_lt (pos 0)) (flat_map (λ (c : Copy). literals_filled (t.fillings c)) copies) in
    let once : HasNoRepeats int_eq (literals_of t) = no_repeats_take int_eq (distinct int_eq all) 8 (no_repeats_distinct int_eq all) in
    no_repeats_lists same_name same_formula (name_templates (literals_of t)) (names_apart (literals_of t)) (name_once (literals_of t) once)
    (names_written t.declared code)
    (no_repeats_filter same_name (λ (d : ℕ × Sort). is_written code d.0) t.declared (declared_once t.declared numbered))
