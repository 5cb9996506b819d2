-- Where two places are apart: a contrary was given of their classes, or one of their forms has a constant.
use Rattle.sm_cc.proofs.Imports.{◌≡◌, ℕ, ℤ, pos, ◌<◌, ◌==◌, Bool, true, false, ◌&&◌, ◌||◌, not, Option, Some, None, List, length, slice_get, map, refl, sym, ap, ◌∙◌, ⊎_elim, arith, eqb-true, and_parts, and_from, or_left, or_right, or_cases, false_from_ne_true, list_any, int_eq, Shape, if_there, PlacePairs, rows_pass, shapes_pass, places_apart, pair_of, board_of, are_together, is_between, are_given_apart, has_constant, is_constant_of, have_constant, may_be_apart, any_passes_from_place}
use Rattle.std.proofs.lemmas.Bool.{true≢false}
use Rattle.sm_cc.specs.Rows.{is_listed, Row}
use Rattle.sm_cc.specs.Closures.{Closure, Given}
use Rattle.sm_cc.proofs.CausesLemmas.{is_pair, is_listed-map}
use Rattle.sm_cc.proofs.SoundLemmas.{any_in, parts_of}
use Rattle.sm_cc.proofs.StandingLemmas.{any_from}

-- a listed pair of places of two classes is between these
given_between : (equal : PlacePairs) (list : List Given) (p q i j : ℕ) → equal p i ≡ true → equal q j ≡ true →
    is_listed (map pair_of list) p q ≡ true → list_any (is_between equal i j) list ≡ true
given_between equal list p q i j first second h =
    let x = any_from (is_pair p q) list (sym (is_listed-map list p q) ∙ h) in
    let g = x.1 in
    let both = and_parts (g.left == p) (g.right == q) x.3 in
    any_passes_from_place (is_between equal i j) list x.0 g x.2
    (or_left (equal g.left i && equal g.right j) (equal g.right i && equal g.left j)
    (and_from (equal g.left i) (equal g.right j) (ap (λ (y : ℕ). equal y i) (eqb-true g.left p both.0) ∙ first)
    (ap (λ (y : ℕ). equal y j) (eqb-true g.right q both.1) ∙ second)))

-- a pair of places of two classes that is listed the other way round is between these
turned_between : (equal : PlacePairs) (list : List Given) (p q i j : ℕ) → equal p i ≡ true → equal q j ≡ true →
    is_listed (map pair_of list) q p ≡ true → list_any (is_between equal i j) list ≡ true
turned_between equal list p q i j first second h =
    let x = any_from (is_pair q p) list (sym (is_listed-map list q p) ∙ h) in
    let g = x.1 in
    let both = and_parts (g.left == q) (g.right == p) x.3 in
    any_passes_from_place (is_between equal i j) list x.0 g x.2
    (or_right (equal g.left i && equal g.right j) (equal g.right i && equal g.left j)
    (and_from (equal g.right i) (equal g.left j) (ap (λ (y : ℕ). equal y i) (eqb-true g.right p both.1) ∙ first)
    (ap (λ (y : ℕ). equal y j) (eqb-true g.left q both.0) ∙ second)))

-- of two numbers that aren't equal one isn't 0
one_not_zero : (y z : ℤ) → not (int_eq y z) ≡ true → (not (int_eq y (pos 0)) || not (int_eq z (pos 0))) ≡ true
one_not_zero y z h = by (int_eq y (pos 0)) (int_eq z (pos 0)) refl refl
  where
    by : (a b : Bool) → int_eq y (pos 0) ≡ a → int_eq z (pos 0) ≡ b → (not a || not b) ≡ true
    by false b e f = refl
    by true false e f = refl
    by true true e f = grind (arith, h, e, f)

-- of two forms that differ in the constant alone one has a constant
one_has_constant : (o p : Option Shape) →
    if_there o (λ f. if_there p (λ g. (f.parts == g.parts) && not (int_eq f.constant g.constant))) ≡ true →
    (if_there o (λ f. not (int_eq f.constant (pos 0))) || if_there p (λ g. not (int_eq g.constant (pos 0)))) ≡ true
one_has_constant None p h = absurd cc
one_has_constant (Some f) None h = absurd cc
one_has_constant (Some f) (Some g) h =
    one_not_zero f.constant g.constant (and_parts (f.parts == g.parts) (not (int_eq f.constant g.constant)) h).1

-- of two rows that are there and differ so
one_row_has : (o p : Option Row) → if_there o (λ r. if_there p (λ s. shapes_pass r s (λ y z. not (int_eq y z)))) ≡ true →
    (if_there o has_constant || if_there p has_constant) ≡ true
one_row_has None p h = absurd cc
one_row_has (Some r) None h = absurd cc
one_row_has (Some r) (Some s) h = one_has_constant r.shape s.shape h

-- one of two places of the classes whose forms differ so has a constant
forms_between : (c : Closure) (p q i j : ℕ) → p < length c.rows.items → q < length c.rows.items →
    are_together c.roots.items p i ≡ true → are_together c.roots.items q j ≡ true →
    rows_pass c.rows.items p q (λ r s. shapes_pass r s (λ y z. not (int_eq y z))) ≡ true → have_constant c i j ≡ true
forms_between c p q i j left right first second h =
    let equal = are_together c.roots.items in
    let n = length c.rows.items in
    let at = λ (m : ℕ). if_there (slice_get c.rows.items m) has_constant in
    ⊎_elim
    (λ (e : at p ≡ true). any_in (is_constant_of c i j) n p left
    (and_from (equal p i || equal p j) (at p) (or_left (equal p i) (equal p j) first) e))
    (λ (e : at q ≡ true). any_in (is_constant_of c i j) n q right
    (and_from (equal q i || equal q j) (at q) (or_right (equal q i) (equal q j) second) e))
    (or_cases (at p) (at q) (one_row_has (slice_get c.rows.items p) (slice_get c.rows.items q) h))

-- two places that are apart may be
apart_seen : (c : Closure) (i j : ℕ) → places_apart (board_of c) (are_together c.roots.items) i j ≡ true →
    may_be_apart c i j ≡ true
apart_seen c i j h =
    let equal = are_together c.roots.items in
    let b = board_of c in
    let x = parts_of b equal i j h in
    let listed = is_listed b.unequal x.left x.right in
    let turned = is_listed b.unequal x.right x.left in
    let forms = rows_pass b.rows x.left x.right (λ r s. shapes_pass r s (λ (y z : ℤ). not (int_eq y z))) in
    ⊎_elim
    (λ (e : listed ≡ true). or_left (are_given_apart c i j) (have_constant c i j)
    (given_between equal c.unequal.items x.left x.right i j x.first x.second e))
    (λ (d : (turned || forms) ≡ true). ⊎_elim
    (λ (e : turned ≡ true). or_left (are_given_apart c i j) (have_constant c i j)
    (turned_between equal c.unequal.items x.left x.right i j x.first x.second e))
    (λ (e : forms ≡ true). or_right (are_given_apart c i j) (have_constant c i j)
    (forms_between c x.left x.right i j x.left_there x.right_there x.first x.second e))
    (or_cases turned forms d))
    (or_cases listed (turned || forms) x.differ)

-- so others aren't
pub not_apart : (c : Closure) (i j : ℕ) → may_be_apart c i j ≡ false →
    places_apart (board_of c) (are_together c.roots.items) i j ≡ false
not_apart c i j none =
    false_from_ne_true (places_apart (board_of c) (are_together c.roots.items) i j)
    (λ h. true≢false (sym (apart_seen c i j h) ∙ none))
