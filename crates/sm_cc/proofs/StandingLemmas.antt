-- Where rows stand for terms: what is given of terms, and how they differ, by their places.
use Rattle.sm_cc.proofs.Imports.{◌≡◌, ℕ, ℤ, ◌==◌, ◌<◌, zero, suc, Bool, true, false, ◌&&◌, ◌||◌, not, List, [], ◌∷◌, length, slice_get, Option, Some, None, refl, sym, ap, ◌∙◌, arith, if◌then◌else◌, zero-add, list_any, range_with_len, int_eq, eqb-true, Decides-eqb, slice_get-get_or, slice_get_within, Sorts, Tree, Assertion, same_tree, same_tree_is, Sides, unequal_sides, says_equal, compared_forms, Setting, given_unequal, differ, if_there, is_among, Board, rows_pass, shapes_pass, places_differ, place_of, RowsStand, with_places, places_given, board_for, one_thing}
use Rattle.std.proofs.lemmas.List.FromFn.{get_or-range_with_len, length-range_with_len}
use Rattle.sm_cc.specs.Rows.{is_listed, Row}

-- tests of which each part is passed where another is
pub or_map : (a c : Bool) {b d : Bool} → (a ≡ true → c ≡ true) → (b ≡ true → d ≡ true) → (a || b) ≡ true → (c || d) ≡ true
or_map true c {b} {d} f g h = ap (λ (x : Bool). x || d) (f refl)
or_map false true f g h = refl
or_map false false f g h = g h

pub and_map : (a c : Bool) {b d : Bool} → (a ≡ true → c ≡ true) → (b ≡ true → d ≡ true) → (a && b) ≡ true → (c && d) ≡ true
and_map true c {b} {d} f g h = ap (λ (x : Bool). x && d) (f refl) ∙ g h
and_map false c f g h = absurd cc

pub both : {a b : Bool} → a ≡ true → b ≡ true → (a && b) ≡ true
both {a} {b} e f = ap (λ (x : Bool). x && b) e ∙ f

-- an element that passes a test
pub any_from : {A : Type 0} (p : A → Bool) (xs : List A) → list_any p xs ≡ true →
    (k : ℕ) × (x : A) × (slice_get xs k ≡ Some x) × (p x ≡ true)
any_from {A} p [] h = absurd cc
any_from {A} p (x ∷ xs) h = by (p x) refl (any_from p xs) h
  where
    by : (b : Bool) → p x ≡ b → (list_any p xs ≡ true → (k : ℕ) × (y : A) × (slice_get xs k ≡ Some y) × (p y ≡ true)) →
        (b || list_any p xs) ≡ true → (k : ℕ) × (y : A) × (slice_get (x ∷ xs) k ≡ Some y) × (p y ≡ true)
    by true e rest g = (0, x, refl, e)
    by false e rest g = let more = rest g in (suc more.0, more.1, more.2, more.3)

-- a number is in the range below a bound
pub in_range : (n k : ℕ) → k < n → slice_get (range_with_len 0 n) k ≡ Some k
in_range n k h =
    let long = length-range_with_len 0 n in
    slice_get-get_or (range_with_len 0 n) k 0 (omega (arith, h, long)) ∙ ap Some (get_or-range_with_len 0 n k 0 h ∙ zero-add k)

-- what stands at the place of a term is the term
pub place_found : (terms : List Tree) (t v : Tree) → slice_get terms (place_of terms t) ≡ Some v → v ≡ t
place_found [] t v e = absurd cc
place_found (u ∷ us) t v e = by (same_tree u t) refl (place_found us t v) e
  where
    by : (b : Bool) → same_tree u t ≡ b → (slice_get us (place_of us t) ≡ Some v → v ≡ t) →
        slice_get (u ∷ us) (if b then 0 else suc (place_of us t)) ≡ Some v → v ≡ t
    by true is rest e = sym (one_thing u v e) ∙ (same_tree_is u t).0 is
    by false is rest e = rest e

-- a term that stands somewhere stands at its place
pub place_there : (terms : List Tree) (i : ℕ) (t : Tree) → slice_get terms i ≡ Some t → slice_get terms (place_of terms t) ≡ Some t
place_there [] i t e = absurd cc
place_there (u ∷ us) zero t e = ap (λ (b : Bool). slice_get (u ∷ us) (if b then 0 else suc (place_of us t)))
    ((same_tree_is u t).1 (one_thing u t e)) ∙ e
place_there (u ∷ us) (suc i) t e = by (same_tree u t) refl (place_there us i t e)
  where
    by : (b : Bool) → same_tree u t ≡ b → slice_get us (place_of us t) ≡ Some t → slice_get (u ∷ us) (if b then 0 else suc (place_of us t))
        ≡ Some t
    by true is rest = ap Some ((same_tree_is u t).0 is)
    by false is rest = rest

-- it stands there exactly where it is among them
pub among_there : (terms : List Tree) (t : Tree) → is_among terms t ≡ true → slice_get terms (place_of terms t) ≡ Some t
among_there terms t h =
    let found = any_from (same_tree t) terms h in
    place_there terms found.0 t (found.2 ∙ ap Some (sym ((same_tree_is t found.1).0 found.3)))

-- a term stands at each place
pub term_there : (terms : List Tree) (i : ℕ) → i < length terms → (t : Tree) × (slice_get terms i ≡ Some t)
term_there [] i h = absurd (omega arith)
term_there (t ∷ ts) zero h = (t, refl)
term_there (t ∷ ts) (suc i) h = let less : i < length ts = omega arith in term_there ts i less

-- the row at a place at which a term stands
pub row_there : (sorts : Sorts) (terms : List Tree) (rows : List Row) → RowsStand sorts terms rows → (i : ℕ) (t : Tree) → slice_get terms i
    ≡ Some t →
    (r : Row) × (slice_get rows i ≡ Some r)
row_there sorts terms rows stand i t e = let inside = slice_get_within terms i t e in by rows i (omega (arith, stand.count, inside))
  where
    by : (rs : List Row) (k : ℕ) → k < length rs → (r : Row) × (slice_get rs k ≡ Some r)
    by [] k h = absurd (omega arith)
    by (r ∷ rs) zero h = (r, refl)
    by (r ∷ rs) (suc k) h = let less : k < length rs = omega arith in by rs k less

-- rows that are there pass a test of rows
pub pass : (rows : List Row) (i j : ℕ) (r q : Row) → slice_get rows i ≡ Some r → slice_get rows j ≡ Some q → (test : Row → Row → Bool) →
    rows_pass rows i j test ≡ test r q
pass rows i j r q e f test =
    ap (λ (o : Option Row). if_there o (λ (r : Row). if_there (slice_get rows j) (λ (q : Row). test r q))) e
    ∙ ap (λ (o : Option Row). if_there o (λ (q : Row). test r q)) f

module _ (sorts : Sorts) (terms : List Tree) (given : List Assertion) (rows : List Row) (stand : RowsStand sorts terms rows) where
  abbrev setting : Setting
  setting = record { sorts = sorts; terms = terms; given = given }

  abbrev board : Board
  board = board_for setting rows

  abbrev place : Tree → ℕ
  place = place_of terms

  -- a term stands at a place
  abbrev At : ℕ → Tree → Type 0
  At i t = slice_get terms i ≡ Some t

  -- forms are compared alike
  pub forms_alike : (i j : ℕ) (t u : Tree) → At i t → At j u → (test : ℤ → ℤ → Bool) →
      rows_pass rows i j (λ r s. shapes_pass r s test) ≡ compared_forms sorts t u test
  forms_alike i j t u e f test =
      let one = row_there sorts terms rows stand i t e in
      let other = row_there sorts terms rows stand j u f in
      pass rows i j one.0 other.0 one.1 other.1 (λ r s. shapes_pass r s test)
      ∙ stand.shapes i j one.0 other.0 t u test one.1 e other.1 f

  -- the place of a term that stands at another
  pub place_is : (v t : Tree) (i : ℕ) → At i t → (place v == i) ≡ true → v ≡ t
  place_is v t i e h =
      let here = eqb-true (place v) i h in
      sym (place_found terms v t (ap (slice_get terms) here ∙ e))

  -- what is given of two terms is given of their places
  pub said_of_places : (sides : Assertion → Option Sides) (fs : List Assertion) (t u : Tree) →
      list_any (λ f. says_equal (sides f) t u) fs ≡ true → is_listed (places_given terms sides fs) (place t) (place u) ≡ true
  said_of_places sides [] t u h = absurd cc
  said_of_places sides (f ∷ fs) t u h = by (sides f) (said_of_places sides fs t u) h
    where
      by : (o : Option Sides) →
          (list_any (λ f. says_equal (sides f) t u) fs ≡ true → is_listed (places_given terms sides fs) (place t) (place u) ≡ true) →
          (says_equal o t u || list_any (λ f. says_equal (sides f) t u) fs) ≡ true →
          is_listed (with_places terms o (places_given terms sides fs)) (place t) (place u) ≡ true
      by None rest h = rest h
      by (Some s) rest h =
          or_map (same_tree s.left t && same_tree s.right u) ((place s.left == place t) && (place s.right == place u))
          (and_map (same_tree s.left t) (place s.left == place t)
          (λ g. (Decides-eqb (place s.left) (place t)).1 (ap place ((same_tree_is s.left t).0 g)))
          (λ g. (Decides-eqb (place s.right) (place u)).1 (ap place ((same_tree_is s.right u).0 g))))
          rest h

  -- what is given of two places is given of the terms at them
  pub said_of_terms : (sides : Assertion → Option Sides) (fs : List Assertion) (i j : ℕ) (t u : Tree) → At i t → At j u →
      is_listed (places_given terms sides fs) i j ≡ true → list_any (λ f. says_equal (sides f) t u) fs ≡ true
  said_of_terms sides [] i j t u e g h = absurd cc
  said_of_terms sides (f ∷ fs) i j t u e g h = by (sides f) (said_of_terms sides fs i j t u e g) h
    where
      by : (o : Option Sides) →
          (is_listed (places_given terms sides fs) i j ≡ true → list_any (λ f. says_equal (sides f) t u) fs ≡ true) →
          is_listed (with_places terms o (places_given terms sides fs)) i j ≡ true →
          (says_equal o t u || list_any (λ f. says_equal (sides f) t u) fs) ≡ true
      by None rest h = rest h
      by (Some s) rest h =
          or_map ((place s.left == i) && (place s.right == j)) (same_tree s.left t && same_tree s.right u)
          (and_map (place s.left == i) (same_tree s.left t)
          (λ h. (same_tree_is s.left t).1 (place_is s.left t i e h))
          (λ h. (same_tree_is s.right u).1 (place_is s.right u j g h)))
          rest h

  -- terms differ where their places do
  pub places_differ_alike : (t u : Tree) → At (place t) t → At (place u) u → differ setting t u ≡ true →
      places_differ board (place t) (place u) ≡ true
  places_differ_alike t u e f =
      or_map (given_unequal setting t u) (is_listed board.unequal (place t) (place u)) (said_of_places unequal_sides given t u)
      (or_map (given_unequal setting u t) (is_listed board.unequal (place u) (place t)) (said_of_places unequal_sides given u t)
      (λ h. forms_alike (place t) (place u) t u e f (λ (y z : ℤ). not (int_eq y z)) ∙ h))

  pub differ_alike : (i j : ℕ) (t u : Tree) → At i t → At j u → places_differ board i j ≡ true → differ setting t u ≡ true
  differ_alike i j t u e f =
      or_map (is_listed board.unequal i j) (given_unequal setting t u) (said_of_terms unequal_sides given i j t u e f)
      (or_map (is_listed board.unequal j i) (given_unequal setting u t) (said_of_terms unequal_sides given j i u t f e)
      (λ h. sym (forms_alike i j t u e f (λ (y z : ℤ). not (int_eq y z))) ∙ h))
