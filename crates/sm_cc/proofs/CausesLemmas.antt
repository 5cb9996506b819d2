-- What the tests of the rules find.
use Rattle.sm_cc.proofs.Imports.{◌≡◌, ℕ, zero, suc, ◌+◌, ◌<◌, ◌≤◌, ◌==◌, Bool, true, false, ◌&&◌, ◌||◌, Some, None, Option, List, [], ◌∷◌, length, map, drop, get_or, slice_get, refl, ap, ◌∙◌, arith, and_parts, or_from, false_from_ne_true, drop_more, slice_get-map, list_any, range_with_len, MatchOption, int_eq, Cause, if_there, Placed, rows_bring, rows_pair, IsCause, IsCauseOf, pair_brings, Board, PlacePairs, equal_places, shapes_pass, one_head, places_apart, row_brings, pair_of, fact_of, GivenHere}
use Rattle.sm_cc.specs.Rows.{is_listed, Row}
use Rattle.sm_cc.specs.Closures.{Given}

-- whether a given pair is this one
abbrev pub is_pair : ℕ → ℕ → Given → Bool
is_pair i j g = (g.left == i) && (g.right == j)

-- the test of pairs is the one of given ones
pub is_listed-map : (list : List Given) (i j : ℕ) → is_listed (map pair_of list) i j ≡ list_any (is_pair i j) list
is_listed-map [] i j = refl
is_listed-map (g ∷ list) i j = ap (λ b. is_pair i j g || b) (is_listed-map list i j)

-- a pair that was found
pub given_here : (list : List Given) (n : ℕ) (g : Given) (i j : ℕ) → slice_get list n ≡ Some g → g.left ≡ i → g.right ≡ j →
    GivenHere list g.fact i j
given_here list n g i j here left right = (
  n,
  slice_get-map pair_of list n ∙ ap (λ (o : Option Given). elim o [ None ↦ None | Some h ↦ Some (pair_of h) ]) here ∙
      ap (λ (x : ℕ). Some (x, g.right)) left ∙ ap (λ (y : ℕ). Some (i, y)) right,
  slice_get-map fact_of list n ∙ ap (λ (o : Option Given). elim o [ None ↦ None | Some h ↦ Some (fact_of h) ]) here,
)

-- lists that are equal one by one have one length
pub equal_places-length : (equal : PlacePairs) (is js : List ℕ) → equal_places equal is js ≡ true → length is ≡ length js
equal_places-length equal [] [] h = refl
equal_places-length equal [] (j ∷ js) h = cc
equal_places-length equal (i ∷ is) [] h = cc
equal_places-length equal (i ∷ is) (j ∷ js) h =
    ap suc (equal_places-length equal is js (and_parts (equal i j) (equal_places equal is js) h).1)

-- so others aren't
pub equal_places-other : (equal : PlacePairs) (is js : List ℕ) → (length is ≡ length js → ⊥) → equal_places equal is js ≡ false
equal_places-other equal is js other =
    false_from_ne_true (equal_places equal is js) (λ (h : equal_places equal is js ≡ true). other (equal_places-length equal is js h))

-- one place more
pub equal_places-drop : (equal : PlacePairs) (is js : List ℕ) (k : ℕ) → k < length is → k < length js →
    equal_places equal (drop k is) (drop k js)
    ≡ (equal (get_or is k 0) (get_or js k 0) && equal_places equal (drop (k + 1) is) (drop (k + 1) js))
equal_places-drop equal is js k first second =
    ap (λ xs. equal_places equal xs (drop k js)) (drop_more is k 0 first) ∙
    ap (λ ys. equal_places equal (get_or is k 0 ∷ drop (k + 1) is) ys) (drop_more js k 0 second)

-- no number from one on passes a test
none_from : (p : ℕ → Bool) (a n : ℕ) → ((m : ℕ) → a ≤ m → m < a + n → p m ≡ false) → list_any p (range_with_len a n) ≡ false
none_from p a zero h = refl
none_from p a (suc n) h =
    or_from (p a) (list_any p (range_with_len (a + 1) n)) (h a (omega arith) (omega arith))
    (none_from p (a + 1) n (λ (m : ℕ) (low : a + 1 ≤ m) (high : m < a + 1 + n). h m (omega arith) (omega arith)))

-- no place passes a test
pub none_in : (p : ℕ → Bool) (n : ℕ) → ((m : ℕ) → m < n → p m ≡ false) → list_any p (range_with_len 0 n) ≡ false
none_in p n h = none_from p 0 n (λ (m : ℕ) (low : 0 ≤ m) (high : m < 0 + n). h m (omega arith))

-- what a clause says where nothing was found
pub absent : {X : Type 0} (o : Option X) (P : Type 0) (Q : X → Type 0) → MatchOption o P Q → ((x : X) → o ≡ Some x → ⊥) → P
absent None P Q h none = h
absent (Some x) P Q h none = absurd (none x refl)

-- what a test says of two rows that are there
abbrev brings_of : Board → PlacePairs → ℕ → ℕ → Option Row → Option Row → Bool
brings_of b equal i j o p =
    is_listed b.equal i j || (if_there o (λ r. if_there p (λ s. shapes_pass r s int_eq))
    || (if_there o (λ r. if_there p (λ s. one_head r s && equal_places equal r.arguments.items s.arguments.items))
    || (if_there o (λ r. if_there p (λ s. if_there r.element (λ e. equal e.index e.other && (j == e.written))))
    || if_there o (λ r. if_there p (λ s. if_there r.element (λ e. places_apart b equal e.index e.other && (j == e.before)))))))

-- the rules at two rows that are there
pub row_brings-at : (b : Board) (equal : PlacePairs) (i j : ℕ) (r s : Row) → slice_get b.rows i ≡ Some r → slice_get b.rows j ≡ Some s →
    row_brings b equal i j ≡ (is_listed b.equal i j || rows_bring b equal r s j)
row_brings-at b equal i j r s first second =
    ap (λ (o : Option Row). brings_of b equal i j o (slice_get b.rows j)) first ∙
    ap (λ (p : Option Row). brings_of b equal i j (Some r) p) second

-- no rule holds of two rows
pub brings_none : (b : Board) (equal : PlacePairs) (i j : ℕ) (r s : Row) → slice_get b.rows i ≡ Some r → slice_get b.rows j ≡ Some s →
    is_listed b.equal i j ≡ false → rows_bring b equal r s j ≡ false → row_brings b equal i j ≡ false
brings_none b equal i j r s first second listed rows =
    row_brings-at b equal i j r s first second ∙ or_from (is_listed b.equal i j) (rows_bring b equal r s j) listed rows

-- what a clause on rows says of places
pub cause_at : (v : Placed) (equal : PlacePairs) (o : Option Cause) (i j : ℕ) (r s : Row) → slice_get v.board.rows i ≡ Some r →
    slice_get v.board.rows j ≡ Some s → is_listed v.board.equal i j ≡ false →
    MatchOption o (rows_bring v.board equal r s j ≡ false) (λ x. IsCause v equal x r s i j) →
    MatchOption o (row_brings v.board equal i j ≡ false) (λ x. IsCauseOf v equal x i j)
cause_at v equal None i j r s first second listed h = brings_none v.board equal i j r s first second listed h
cause_at v equal (Some x) i j r s first second listed h =
    record { first = r; second = s; at_first = first; at_second = second; cause = h }

abbrev pair_of_rows : PlacePairs → Option Row → Option Row → Bool
pair_of_rows e o p =
    if_there o (λ x. if_there p (λ y. shapes_pass x y int_eq))
    || if_there o (λ x. if_there p (λ y. one_head x y && equal_places e x.arguments.items y.arguments.items))

-- what the forms and arguments of two rows that are there say
pub pair_brings-at : (b : Board) (equal : PlacePairs) (i j : ℕ) (r s : Row) → slice_get b.rows i ≡ Some r → slice_get b.rows j ≡ Some s →
    pair_brings b equal i j ≡ rows_pair equal r s
pair_brings-at b equal i j r s first second =
    ap (λ (o : Option Row). pair_of_rows equal o (slice_get b.rows j)) first ∙ ap (λ (p : Option Row). pair_of_rows equal (Some r) p) second

pub pair_cause_at : (v : Placed) (equal : PlacePairs) (o : Option Cause) (i j : ℕ) (r s : Row) → slice_get v.board.rows i ≡ Some r →
    slice_get v.board.rows j ≡ Some s → MatchOption o (rows_pair equal r s ≡ false) (λ x. IsCause v equal x r s i j) →
    MatchOption o (pair_brings v.board equal i j ≡ false) (λ x. IsCauseOf v equal x i j)
pair_cause_at v equal None i j r s first second h = pair_brings-at v.board equal i j r s first second ∙ h
pair_cause_at v equal (Some x) i j r s first second h = record { first = r; second = s; at_first = first; at_second = second; cause = h }
