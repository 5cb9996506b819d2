-- Boards with more rows of which the rules bring nothing: the classes stay, and each new place is by itself.
use Rattle.sm_cc.proofs.Imports.{◌≡◌, ◌⊎◌, ℕ, suc, zero, ℤ, ◌+◌, ◌<◌, ◌≤◌, ◌==◌, Bool, true, false, ◌&&◌, ◌||◌, not, inl, inr, arith, map, Some, None, Option, List, [], ◌∷◌, ◌++◌, length, slice_get, refl, sym, ap, subst, ◌∙◌, ⊎_elim, false≢true, eqb-true, eq-eqb, and_parts, and_from, or_left, or_right, or_cases, cases_order, cases_lt, false_from_ne_true, slice_get_within, same_Some, int_eq, if_there, Board, PlacePairs, rows_pass, one_head, shapes_pass, equal_places, places_differ, places_apart, row_brings, ArePlacesClosed, HasElement, are_together, pair_of, pair_brings, IsElementBelow, AreInside, AreAllGiven, IsCopy, AreKept, get_below, get_in_first}
use Rattle.sm_cc.specs.Rows.{is_listed, Row, Element}
use Rattle.sm_cc.specs.Closures.{Equation, Given}
use Rattle.sm_cc.specs.BaseClasses.{AreBelow}
use Rattle.sm_cc.proofs.ClosuresLemmas.{roots_of}
use Rattle.sm_cc.proofs.ExplainingLemmas.{pass_gives}
use Rattle.sm_cc.proofs.RoundsLemmas.{together_from}
use Rattle.sm_cc.proofs.SoundLemmas.{parts_of, apart_from, pass_at, listed_at, brings_listed}
use Rattle.sm_cc.proofs.GrowingLemmas.{place_there, shapes_same, head_same, element_there}
use Rattle.sm_cc.proofs.SettledLemmas.{shapes_turned, heads_turned}

-- a board has the rows of another with more behind them, and all that is given of those
pub record IsUnder (b w : Board) : Type 0 where
  pub rows : AreKept b.rows w.rows
  pub equal : (i j : ℕ) → is_listed b.equal i j ≡ true → is_listed w.equal i j ≡ true
  pub unequal : (i j : ℕ) → is_listed b.unequal i j ≡ true → is_listed w.unequal i j ≡ true

-- pairs of places are those of the places below a bound, and each place from there on is equal to itself alone
pub record AddsPlaces (n m : ℕ) (old new : PlacePairs) : Type 0 where
  pub kept : (i j : ℕ) → i < n → j < n → new i j ≡ old i j
  pub own : (i j : ℕ) → (n ≤ i) ⊎ (n ≤ j) → new i j ≡ true → i ≡ j
  pub itself : (i : ℕ) → n ≤ i → i < m → new i i ≡ true

-- the rows stay where more stand behind them
pub kept_behind : (old more new : List Row) → new ≡ old ++ more → AreKept old new
kept_behind old more new all i r here = (
  r,
  subst (λ (l : List Row). slice_get l i ≡ Some r) (sym all) (get_in_first old more i r here),
  record { head = refl; arguments = refl; shape = refl; element = refl },
)

-- what a test says of two rows that are there
pass_is : (rows : List Row) (i j : ℕ) (r s : Row) (test : Row → Row → Bool) → slice_get rows i ≡ Some r → slice_get rows j ≡ Some s →
    rows_pass rows i j test ≡ test r s
pass_is rows i j r s test first second =
    ap (λ (o : Option Row). if_there o (λ x. if_there (slice_get rows j) (λ y. test x y))) first ∙
    ap (λ (p : Option Row). if_there p (λ y. test r y)) second

-- what tests say of old places where they say the same of copies
pass_kept : (old new : List Row) → AreKept old new → (i j : ℕ) → i < length old → j < length old → (test other : Row → Row → Bool) →
    ((r s u v : Row) → slice_get old i ≡ Some r → slice_get old j ≡ Some s → IsCopy r u → IsCopy s v → other u v ≡ test r s) →
    rows_pass new i j other ≡ rows_pass old i j test
pass_kept old new kept i j first second test other same =
    let r = get_below old i first in
    let s = get_below old j second in
    let u = kept i r.0 r.1 in
    let v = kept j s.0 s.1 in
    pass_is new i j u.0 v.0 other u.1 v.1
    ∙ same r.0 s.0 u.0 v.0 r.1 s.1 u.2 v.2
    ∙ sym (pass_is old i j r.0 s.0 test r.1 s.1)

arguments_copied : (equal : PlacePairs) (r s u v : Row) → IsCopy r u → IsCopy s v →
    equal_places equal u.arguments.items v.arguments.items ≡ equal_places equal r.arguments.items s.arguments.items
arguments_copied equal r s u v one two =
    ap (λ (l : List ℕ). equal_places equal l v.arguments.items) one.arguments
    ∙ ap (λ (l : List ℕ). equal_places equal r.arguments.items l) two.arguments

-- places below a bound are equal where the pairs are the same there
places_kept : (bound : ℕ) (old new : PlacePairs) → ((i j : ℕ) → i < bound → j < bound → new i j ≡ old i j) → (is js : List ℕ) →
    AreBelow bound is → AreBelow bound js → equal_places new is js ≡ equal_places old is js
places_kept bound old new kept [] [] one two = refl
places_kept bound old new kept [] (j ∷ js) one two = refl
places_kept bound old new kept (i ∷ is) [] one two = refl
places_kept bound old new kept (i ∷ is) (j ∷ js) one two =
    ap (λ (b : Bool). b && equal_places new is js) (kept i j one.0 two.0)
    ∙ ap (λ (b : Bool). old i j && b) (places_kept bound old new kept is js one.1 two.1)

-- the two parts of what pairs of rows bring
abbrev alike : Board → ℕ → ℕ → Bool
alike b i j = rows_pass b.rows i j (λ r s. shapes_pass r s int_eq)

abbrev same_arguments : PlacePairs → Row → Row → Bool
same_arguments equal r s = one_head r s && equal_places equal r.arguments.items s.arguments.items

abbrev headed : Board → PlacePairs → ℕ → ℕ → Bool
headed b equal i j = rows_pass b.rows i j (same_arguments equal)

-- forms are compared at old places as before
shapes_kept : (old new : List Row) → AreKept old new → (test : ℤ → ℤ → Bool) (i j : ℕ) → i < length old → j < length old →
    rows_pass new i j (λ r s. shapes_pass r s test) ≡ rows_pass old i j (λ r s. shapes_pass r s test)
shapes_kept old new kept test i j first second =
    pass_kept old new kept i j first second (λ r s. shapes_pass r s test) (λ r s. shapes_pass r s test)
    (λ r s u v f g one two. shapes_same test r s u v one two)

-- what pairs of old places bring is what they brought
pub pairs_kept : (b w : Board) (old new : PlacePairs) → AreKept b.rows w.rows → AreInside b.rows →
    ((i j : ℕ) → i < length b.rows → j < length b.rows → new i j ≡ old i j) → (i j : ℕ) → i < length b.rows → j < length b.rows →
    pair_brings w new i j ≡ pair_brings b old i j
pairs_kept b w old new kept inside same i j first second =
    ap (λ (x : Bool). x || headed w new i j) (shapes_kept b.rows w.rows kept int_eq i j first second)
    ∙ ap (λ (x : Bool). alike b i j || x)
    (pass_kept b.rows w.rows kept i j first second (same_arguments old) (same_arguments new)
    (λ r s u v f g one two.
    ap (λ (x : Bool). x && equal_places new u.arguments.items v.arguments.items) (head_same r s u v one two)
    ∙ ap (λ (x : Bool). one_head r s && x)
    (arguments_copied new r s u v one two
    ∙ places_kept (length b.rows) old new same r.arguments.items s.arguments.items (inside i r f).0 (inside j s g).0)))

-- places are equal by an element that is read where it was written, or elsewhere
abbrev pub HitsAt : Board → PlacePairs → ℕ → ℕ → Type 0
HitsAt b equal i j =
    (e : Element) × HasElement b.rows i e × (j < length b.rows) × (equal e.index e.other ≡ true) × (j ≡ e.written)

abbrev pub MissesAt : Board → PlacePairs → ℕ → ℕ → Type 0
MissesAt b equal i j =
    (e : Element) × HasElement b.rows i e × (j < length b.rows) × (places_apart b equal e.index e.other ≡ true) × (j ≡ e.before)

-- the tests of such an element
abbrev hit : PlacePairs → ℕ → Element → Bool
hit equal j e = equal e.index e.other && (j == e.written)

abbrev miss : Board → PlacePairs → ℕ → Element → Bool
miss b equal j e = places_apart b equal e.index e.other && (j == e.before)

abbrev reads : Board → ℕ → ℕ → (Element → Bool) → Bool
reads b i j test = rows_pass b.rows i j (λ r s. if_there r.element test)

-- an element that passes a test is there
is_there : (o : Option Element) (test : Element → Bool) → if_there o test ≡ true → (e : Element) × (o ≡ Some e) × (test e ≡ true)
is_there None test h = absurd (false≢true h)
is_there (Some e) test h = (e, refl, h)

reads_out : (b : Board) (i j : ℕ) (test : Element → Bool) → reads b i j test ≡ true →
    (e : Element) × HasElement b.rows i e × (j < length b.rows) × (test e ≡ true)
reads_out b i j test h =
    let x = pass_gives b.rows i j (λ r s. if_there r.element test) h in
    let y = is_there x.0.element test x.4 in
    (y.0, (x.0, x.2, y.1), slice_get_within b.rows j x.1 x.3, y.2)

reads_in : (b : Board) (i j : ℕ) (test : Element → Bool) (e : Element) → HasElement b.rows i e → j < length b.rows → test e ≡ true →
    reads b i j test ≡ true
reads_in b i j test e has within h =
    let s = get_below b.rows j within in
    pass_at b.rows i j has.0 s.0 (λ r t. if_there r.element test) has.1 s.1
    (ap (λ (o : Option Element). if_there o test) has.2 ∙ h)

-- the rules by which places are equal, one by one
pub brings_cases : (b : Board) (equal : PlacePairs) (i j : ℕ) → row_brings b equal i j ≡ true →
    (is_listed b.equal i j ≡ true) ⊎ ((pair_brings b equal i j ≡ true) ⊎ (HitsAt b equal i j ⊎ MissesAt b equal i j))
brings_cases b equal i j h =
    let one = alike b i j in
    let two = headed b equal i j in
    let hits = reads b i j (hit equal j) in
    let misses = reads b i j (miss b equal j) in
    ⊎_elim (λ (e : is_listed b.equal i j ≡ true). inl e)
    (λ (e : (one || (two || (hits || misses))) ≡ true).
    ⊎_elim (λ (f : one ≡ true). inr (inl (or_left one two f)))
    (λ (f : (two || (hits || misses)) ≡ true).
    ⊎_elim (λ (g : two ≡ true). inr (inl (or_right one two g)))
    (λ (g : (hits || misses) ≡ true).
    ⊎_elim
    (λ (k : hits ≡ true).
    let x = reads_out b i j (hit equal j) k in
    let both = and_parts (equal x.0.index x.0.other) (j == x.0.written) x.3 in
    inr (inr (inl (x.0, x.1, x.2, both.0, eqb-true j x.0.written both.1))))
    (λ (k : misses ≡ true).
    let x = reads_out b i j (miss b equal j) k in
    let both = and_parts (places_apart b equal x.0.index x.0.other) (j == x.0.before) x.3 in
    inr (inr (inr (x.0, x.1, x.2, both.0, eqb-true j x.0.before both.1))))
    (or_cases hits misses g))
    (or_cases two (hits || misses) f))
    (or_cases one (two || (hits || misses)) e))
    (or_cases (is_listed b.equal i j) (one || (two || (hits || misses))) h)

-- each rule brings
brings_rest : (b : Board) (equal : PlacePairs) (i j : ℕ) →
    (alike b i j || (headed b equal i j || (reads b i j (hit equal j) || reads b i j (miss b equal j)))) ≡ true →
    row_brings b equal i j ≡ true
brings_rest b equal i j h =
    or_right (is_listed b.equal i j) (alike b i j || (headed b equal i j || (reads b i j (hit equal j) || reads b i j (miss b equal j)))) h

pub brings_pair : (b : Board) (equal : PlacePairs) (i j : ℕ) → pair_brings b equal i j ≡ true → row_brings b equal i j ≡ true
brings_pair b equal i j h =
    let one = alike b i j in
    let two = headed b equal i j in
    let read = reads b i j (hit equal j) || reads b i j (miss b equal j) in
    brings_rest b equal i j
    (⊎_elim (λ (x : one ≡ true). or_left one (two || read) x)
    (λ (x : two ≡ true). or_right one (two || read) (or_left two read x)) (or_cases one two h))

pub brings_hit : (b : Board) (equal : PlacePairs) (i j : ℕ) → HitsAt b equal i j → row_brings b equal i j ≡ true
brings_hit b equal i j h =
    let e = h.0 in
    let hits = reads b i j (hit equal j) in
    let misses = reads b i j (miss b equal j) in
    brings_rest b equal i j
    (or_right (alike b i j) (headed b equal i j || (hits || misses))
    (or_right (headed b equal i j) (hits || misses)
    (or_left hits misses
    (reads_in b i j (hit equal j) e h.1 h.2 (and_from (equal e.index e.other) (j == e.written) h.3 (eq-eqb j e.written h.4))))))

pub brings_miss : (b : Board) (equal : PlacePairs) (i j : ℕ) → MissesAt b equal i j → row_brings b equal i j ≡ true
brings_miss b equal i j h =
    let e = h.0 in
    let hits = reads b i j (hit equal j) in
    let misses = reads b i j (miss b equal j) in
    brings_rest b equal i j
    (or_right (alike b i j) (headed b equal i j || (hits || misses))
    (or_right (headed b equal i j) (hits || misses)
    (or_right hits misses
    (reads_in b i j (miss b equal j) e h.1 h.2
    (and_from (places_apart b equal e.index e.other) (j == e.before) h.3 (eq-eqb j e.before h.4))))))

-- forms that differ
abbrev differ_in_form : List Row → ℕ → ℕ → Bool
differ_in_form rows i j = rows_pass rows i j (λ r s. shapes_pass r s (λ (y z : ℤ). not (int_eq y z)))

-- why places differ
differ_cases : (b : Board) (i j : ℕ) → places_differ b i j ≡ true →
    (is_listed b.unequal i j ≡ true) ⊎ ((is_listed b.unequal j i ≡ true) ⊎ (differ_in_form b.rows i j ≡ true))
differ_cases b i j h =
    let one = is_listed b.unequal i j in
    let two = is_listed b.unequal j i in
    let forms = differ_in_form b.rows i j in
    ⊎_elim (λ (e : one ≡ true). inl e) (λ (e : (two || forms) ≡ true). inr (or_cases two forms e)) (or_cases one (two || forms) h)

differ_listed : (b : Board) (i j : ℕ) → is_listed b.unequal i j ≡ true → places_differ b i j ≡ true
differ_listed b i j h = or_left (is_listed b.unequal i j) (is_listed b.unequal j i || differ_in_form b.rows i j) h

differ_back : (b : Board) (i j : ℕ) → is_listed b.unequal j i ≡ true → places_differ b i j ≡ true
differ_back b i j h =
    or_right (is_listed b.unequal i j) (is_listed b.unequal j i || differ_in_form b.rows i j)
    (or_left (is_listed b.unequal j i) (differ_in_form b.rows i j) h)

differ_formed : (b : Board) (i j : ℕ) → differ_in_form b.rows i j ≡ true → places_differ b i j ≡ true
differ_formed b i j h =
    or_right (is_listed b.unequal i j) (is_listed b.unequal j i || differ_in_form b.rows i j)
    (or_right (is_listed b.unequal j i) (differ_in_form b.rows i j) h)

-- old places that differ still do
pub differ_still : (b w : Board) → IsUnder b w → (i j : ℕ) → i < length b.rows → j < length b.rows → places_differ b i j ≡ true →
    places_differ w i j ≡ true
differ_still b w under i j first second h =
    ⊎_elim (λ (e : is_listed b.unequal i j ≡ true). differ_listed w i j (under.unequal i j e))
    (λ (g : (is_listed b.unequal j i ≡ true) ⊎ (differ_in_form b.rows i j ≡ true)).
    ⊎_elim (λ (e : is_listed b.unequal j i ≡ true). differ_back w i j (under.unequal j i e))
    (λ (e : differ_in_form b.rows i j ≡ true).
    differ_formed w i j (shapes_kept b.rows w.rows under.rows (λ (y z : ℤ). not (int_eq y z)) i j first second ∙ e)) g)
    (differ_cases b i j h)

-- places that are apart still are
pub apart_still : (b w : Board) → IsUnder b w → (equal : PlacePairs) (i j : ℕ) → places_apart b equal i j ≡ true →
    places_apart w equal i j ≡ true
apart_still b w under equal i j h =
    let x = parts_of b equal i j h in
    apart_from w equal i j
    (record {
      left = x.left;
      right = x.right;
      left_there = place_there b.rows w.rows under.rows x.left x.left_there;
      right_there = place_there b.rows w.rows under.rows x.right x.right_there;
      first = x.first;
      second = x.second;
      differ = differ_still b w under x.left x.right x.left_there x.right_there x.differ;
    })

-- an element of a row's copy is one of the old row
pub element_before : (old new : List Row) → AreKept old new → (i : ℕ) → i < length old → (e : Element) → HasElement new i e →
    HasElement old i e
element_before old new kept i within e has =
    let r = get_below old i within in
    let s = kept i r.0 r.1 in
    let same : s.0 ≡ has.0 = same_Some s.0 has.0 (sym s.1 ∙ has.1) in
    (r.0, r.1, sym s.2.element ∙ ap (λ (x : Row). x.element) same ∙ has.2)

-- what the rules bring of old places they still bring
pub brings_still : (b w : Board) → IsUnder b w → (equal : PlacePairs) (i j : ℕ) → i < length b.rows → j < length b.rows →
    row_brings b equal i j ≡ true → row_brings w equal i j ≡ true
brings_still b w under equal i j first second h =
    let rows = under.rows in
    let later = place_there b.rows w.rows rows j second in
    ⊎_elim (λ (e : is_listed b.equal i j ≡ true). brings_listed w equal i j (under.equal i j e))
    (λ (f : (pair_brings b equal i j ≡ true) ⊎ (HitsAt b equal i j ⊎ MissesAt b equal i j)).
    ⊎_elim
    (λ (e : pair_brings b equal i j ≡ true). brings_pair w equal i j (pair_still b.rows w.rows rows equal i j first second e))
    (λ (g : HitsAt b equal i j ⊎ MissesAt b equal i j).
    ⊎_elim
    (λ (x : HitsAt b equal i j).
    brings_hit w equal i j (x.0, element_there b.rows w.rows rows i x.0 x.1, later, x.3, x.4))
    (λ (x : MissesAt b equal i j).
    brings_miss w equal i j (
      x.0,
      element_there b.rows w.rows rows i x.0 x.1,
      later,
      apart_still b w under equal x.0.index x.0.other x.3,
      x.4,
    )) g) f)
    (brings_cases b equal i j h)
  where
    pair_still : (old new : List Row) → AreKept old new → (equal : PlacePairs) (i j : ℕ) → i < length old → j < length old →
        (rows_pass old i j (λ r s. shapes_pass r s int_eq) || rows_pass old i j (same_arguments equal)) ≡ true →
        (rows_pass new i j (λ r s. shapes_pass r s int_eq) || rows_pass new i j (same_arguments equal)) ≡ true
    pair_still old new kept equal i j first second h =
        ap (λ (x : Bool). x || rows_pass new i j (same_arguments equal)) (shapes_kept old new kept int_eq i j first second)
        ∙ ap (λ (x : Bool). rows_pass old i j (λ r s. shapes_pass r s int_eq) || x)
        (pass_kept old new kept i j first second (same_arguments equal) (same_arguments equal)
        (λ r s u v f g one two.
        ap (λ (x : Bool). x && equal_places equal u.arguments.items v.arguments.items) (head_same r s u v one two)
        ∙ ap (λ (x : Bool). one_head r s && x) (arguments_copied equal r s u v one two)))
        ∙ h

-- pairs that are closed where more is given are closed before
pub closed_before : (b w : Board) → IsUnder b w → (equal : PlacePairs) → ArePlacesClosed w equal → ArePlacesClosed b equal
closed_before b w under equal closed = record {
  each = λ i h. closed.each i (place_there b.rows w.rows under.rows i h);
  turned = closed.turned;
  joined = closed.joined;
  brought = λ i j h g x.
      closed.brought i j (place_there b.rows w.rows under.rows i h) (place_there b.rows w.rows under.rows j g)
      (brings_still b w under equal i j h g x);
}

-- pairs of places that are equal the other way round are so list by list, and what pairs of rows bring is too
places_turned : (equal : PlacePairs) → ((i j : ℕ) → equal i j ≡ true → equal j i ≡ true) → (is js : List ℕ) →
    equal_places equal is js ≡ true → equal_places equal js is ≡ true
places_turned equal turned [] [] h = refl
places_turned equal turned [] (j ∷ js) h = absurd (false≢true h)
places_turned equal turned (i ∷ is) [] h = absurd (false≢true h)
places_turned equal turned (i ∷ is) (j ∷ js) h =
    let both = and_parts (equal i j) (equal_places equal is js) h in
    and_from (equal j i) (equal_places equal js is) (turned i j both.0) (places_turned equal turned is js both.1)

pub pair_turned : (b : Board) (equal : PlacePairs) → ((i j : ℕ) → equal i j ≡ true → equal j i ≡ true) → (i j : ℕ) →
    pair_brings b equal i j ≡ true → pair_brings b equal j i ≡ true
pair_turned b equal turned i j h =
    let one = alike b j i in
    let two = headed b equal j i in
    ⊎_elim
    (λ (e : alike b i j ≡ true).
    let x = pass_gives b.rows i j (λ r s. shapes_pass r s int_eq) e in
    or_left one two
    (pass_at b.rows j i x.1 x.0 (λ r s. shapes_pass r s int_eq) x.3 x.2 (shapes_turned x.0.shape x.1.shape x.4)))
    (λ (e : headed b equal i j ≡ true).
    let x = pass_gives b.rows i j (same_arguments equal) e in
    let r = x.0 in
    let s = x.1 in
    let both = and_parts (one_head r s) (equal_places equal r.arguments.items s.arguments.items) x.4 in
    or_right one two
    (pass_at b.rows j i s r (same_arguments equal) x.3 x.2
    (and_from (one_head s r) (equal_places equal s.arguments.items r.arguments.items) (heads_turned r.head s.head both.0)
    (places_turned equal turned r.arguments.items s.arguments.items both.1))))
    (or_cases (alike b i j) (headed b equal i j) h)

-- added places keep what is equal, as it was or each by itself
module _ (n m : ℕ) (old new : PlacePairs) (adds : AddsPlaces n m old new) where
  pub added_turned : ((i j : ℕ) → old i j ≡ true → old j i ≡ true) → (i j : ℕ) → new i j ≡ true → new j i ≡ true
  added_turned turned i j h =
      ⊎_elim
      (λ (first : i < n).
      ⊎_elim (λ (second : j < n). adds.kept j i second first ∙ turned i j (sym (adds.kept i j first second) ∙ h))
      (λ (after : n ≤ j). alone (adds.own i j (inr after) h)) (cases_lt j n))
      (λ (after : n ≤ i). alone (adds.own i j (inl after) h)) (cases_lt i n)
    where
      alone : i ≡ j → new j i ≡ true
      alone e = subst (λ (k : ℕ). new j k ≡ true) (sym e) (subst (λ (k : ℕ). new k j ≡ true) e h)

  pub added_joined : ((i j k : ℕ) → old i j ≡ true → old j k ≡ true → old i k ≡ true) → (i j k : ℕ) → new i j ≡ true → new j k ≡ true →
      new i k ≡ true
  added_joined joined i j k h g =
      ⊎_elim
      (λ (second : j < n).
      ⊎_elim
      (λ (first : i < n).
      ⊎_elim
      (λ (third : k < n).
      adds.kept i k first third
      ∙ joined i j k (sym (adds.kept i j first second) ∙ h) (sym (adds.kept j k second third) ∙ g))
      (λ (after : n ≤ k). ends (adds.own j k (inr after) g)) (cases_lt k n))
      (λ (after : n ≤ i). begins (adds.own i j (inl after) h)) (cases_lt i n))
      (λ (after : n ≤ j). begins (adds.own i j (inr after) h)) (cases_lt j n)
    where
      begins : i ≡ j → new i k ≡ true
      begins e = subst (λ (x : ℕ). new x k ≡ true) (sym e) g

      ends : j ≡ k → new i k ≡ true
      ends e = subst (λ (x : ℕ). new i x ≡ true) e h

  pub added_each : ((i : ℕ) → i < n → old i i ≡ true) → (i : ℕ) → i < m → new i i ≡ true
  added_each each i within =
      ⊎_elim (λ (first : i < n). adds.kept i i first first ∙ each i first) (λ (after : n ≤ i). adds.itself i after within) (cases_lt i n)

  -- what equals an old place is an old place that equalled it
  pub added_old : (p i : ℕ) → i < n → new p i ≡ true → (p < n) × (old p i ≡ true)
  added_old p i within h =
      ⊎_elim (λ (first : p < n). (first, sym (adds.kept p i first within) ∙ h))
      (λ (after : n ≤ p).
      let same = adds.own p i (inl after) h in absurd (omega (arith, same, after, within))) (cases_lt p n)

-- a pair that is given not to be equal says nothing of two places
abbrev pub SaysNothing : PlacePairs → ℕ → ℕ → ℕ → ℕ → Type 0
SaysNothing equal p q x y = ((equal x p && equal y q) ≡ false) × ((equal x q && equal y p) ≡ false)

-- each such pair was given before, or says nothing of two places
abbrev pub SayNothing : Board → Board → PlacePairs → ℕ → ℕ → Type 0
SayNothing b w equal p q =
    (x y : ℕ) → is_listed w.unequal x y ≡ true → (is_listed b.unequal x y ≡ true) ⊎ SaysNothing equal p q x y

-- old places are known apart only if they were
pub apart_before : (b w : Board) (old new : PlacePairs) → AreKept b.rows w.rows → AddsPlaces (length b.rows) (length w.rows) old new →
    (p q : ℕ) → p < length b.rows → q < length b.rows → SayNothing b w new p q → places_apart w new p q ≡ true →
    places_apart b old p q ≡ true
apart_before b w old new kept adds p q first second nothing h =
    let n = length b.rows in
    let x = parts_of w new p q h in
    let one = added_old n (length w.rows) old new adds x.left p first x.first in
    let two = added_old n (length w.rows) old new adds x.right q second x.second in
    let differ : places_differ b x.left x.right ≡ true =
    ⊎_elim
    (λ (e : is_listed w.unequal x.left x.right ≡ true).
    ⊎_elim (λ (f : is_listed b.unequal x.left x.right ≡ true). differ_listed b x.left x.right f)
    (λ (f : SaysNothing new p q x.left x.right).
    absurd (false≢true (sym f.0 ∙ and_from (new x.left p) (new x.right q) x.first x.second)))
    (nothing x.left x.right e))
    (λ (g : (is_listed w.unequal x.right x.left ≡ true) ⊎ (differ_in_form w.rows x.left x.right ≡ true)).
    ⊎_elim
    (λ (e : is_listed w.unequal x.right x.left ≡ true).
    ⊎_elim (λ (f : is_listed b.unequal x.right x.left ≡ true). differ_back b x.left x.right f)
    (λ (f : SaysNothing new p q x.right x.left).
    absurd (false≢true (sym f.1 ∙ and_from (new x.right q) (new x.left p) x.second x.first)))
    (nothing x.right x.left e))
    (λ (e : differ_in_form w.rows x.left x.right ≡ true).
    differ_formed b x.left x.right
    (sym (shapes_kept b.rows w.rows kept (λ (y z : ℤ). not (int_eq y z)) x.left x.right one.0 two.0) ∙ e)) g)
    (differ_cases w x.left x.right x.differ) in
    apart_from b old p q
    (record {
      left = x.left;
      right = x.right;
      left_there = one.0;
      right_there = two.0;
      first = one.1;
      second = two.1;
      differ = differ;
    })

pub not_apart : (b w : Board) (old new : PlacePairs) → AreKept b.rows w.rows → AddsPlaces (length b.rows) (length w.rows) old new →
    (p q : ℕ) → p < length b.rows → q < length b.rows → SayNothing b w new p q → places_apart b old p q ≡ false →
    places_apart w new p q ≡ false
not_apart b w old new kept adds p q first second nothing h =
    false_from_ne_true (places_apart w new p q)
    (λ (e : places_apart w new p q ≡ true).
    false≢true (sym h ∙ apart_before b w old new kept adds p q first second nothing e))

-- what an element that is read brings is so
abbrev pub IsReadSo : Board → PlacePairs → ℕ → Element → Type 0
IsReadSo w equal i e =
    (equal e.index e.other ≡ true → e.written < length w.rows → equal i e.written ≡ true)
    × (places_apart w equal e.index e.other ≡ true → e.before < length w.rows → equal i e.before ≡ true)

-- an element brings nothing
abbrev pub IsReadQuiet : Board → PlacePairs → Element → Type 0
IsReadQuiet w equal e = (equal e.index e.other ≡ false) × (places_apart w equal e.index e.other ≡ false)

pub quiet_so : (w : Board) (equal : PlacePairs) (i : ℕ) (e : Element) → IsReadQuiet w equal e → IsReadSo w equal i e
quiet_so w equal i e quiet = (
  λ (h : equal e.index e.other ≡ true) within. absurd (false≢true (sym quiet.0 ∙ h)),
  λ (h : places_apart w equal e.index e.other ≡ true) within. absurd (false≢true (sym quiet.1 ∙ h)),
)

-- the places that an element of a row names
pub element_below : (rows : List Row) → AreInside rows → (i : ℕ) (e : Element) → HasElement rows i e → IsElementBelow (length rows) (Some e)
element_below rows inside i e has =
    subst (λ (o : Option Element). IsElementBelow (length rows) o) has.2 (inside i has.0 has.1).1

-- old elements bring what they brought, where their places are known apart only if they were
pub old_read_so : (b w : Board) (old new : PlacePairs) → AreInside b.rows → AreKept b.rows w.rows →
    AddsPlaces (length b.rows) (length w.rows) old new → ArePlacesClosed b old → (i : ℕ) → i < length b.rows → (e : Element) →
    HasElement b.rows i e →
    (places_apart w new e.index e.other ≡ true → places_apart b old e.index e.other ≡ true) → IsReadSo w new i e
old_read_so b w old new inside kept adds closed i within e has apart =
    let below = element_below b.rows inside i e has in (
      λ (h : new e.index e.other ≡ true) there.
          let was = sym (adds.kept e.index e.other below.0 below.2) ∙ h in
          adds.kept i e.written within below.1
          ∙ closed.brought i e.written within below.1 (brings_hit b old i e.written (e, has, below.1, was, refl)),
      λ (h : places_apart w new e.index e.other ≡ true) there.
          adds.kept i e.before within below.3
          ∙ closed.brought i e.before within below.3 (brings_miss b old i e.before (e, has, below.3, apart h, refl)),
    )

-- places that are added are closed, where the given pairs and the elements bring nothing more, and no pair of rows with a new one does
pub added_are_closed : (b w : Board) (old new : PlacePairs) → AreInside b.rows → AreKept b.rows w.rows →
    AddsPlaces (length b.rows) (length w.rows) old new → ArePlacesClosed b old →
    ((i j : ℕ) → i < length w.rows → j < length w.rows → is_listed w.equal i j ≡ true → new i j ≡ true) →
    ((i k : ℕ) → i < k → length b.rows ≤ k → k < length w.rows → pair_brings w new i k ≡ false) →
    ((i : ℕ) (e : Element) → HasElement w.rows i e → IsReadSo w new i e) → ArePlacesClosed w new
added_are_closed b w old new inside kept adds closed given pairs elements = record {
  each = each;
  turned = turned;
  joined = added_joined (length b.rows) (length w.rows) old new adds closed.joined;
  brought = λ i j first second h.
      ⊎_elim (λ (e : is_listed w.equal i j ≡ true). given i j first second e)
      (λ (f : (pair_brings w new i j ≡ true) ⊎ (HitsAt w new i j ⊎ MissesAt w new i j)).
      ⊎_elim (λ (e : pair_brings w new i j ≡ true). paired i j first second e)
      (λ (g : HitsAt w new i j ⊎ MissesAt w new i j).
      ⊎_elim
      (λ (x : HitsAt w new i j).
      subst (λ (k : ℕ). new i k ≡ true) (sym x.4)
      ((elements i x.0 x.1).0 x.3 (subst (λ (k : ℕ). k < length w.rows) x.4 second)))
      (λ (x : MissesAt w new i j).
      subst (λ (k : ℕ). new i k ≡ true) (sym x.4)
      ((elements i x.0 x.1).1 x.3 (subst (λ (k : ℕ). k < length w.rows) x.4 second))) g) f)
      (brings_cases w new i j h);
}
  where
    each : (i : ℕ) → i < length w.rows → new i i ≡ true
    each = added_each (length b.rows) (length w.rows) old new adds closed.each

    turned : (i j : ℕ) → new i j ≡ true → new j i ≡ true
    turned = added_turned (length b.rows) (length w.rows) old new adds closed.turned

    old_pair : (i j : ℕ) → i < length b.rows → j < length b.rows → pair_brings w new i j ≡ true → new i j ≡ true
    old_pair i j first second h =
        let was = sym (pairs_kept b w old new kept inside adds.kept i j first second) ∙ h in
        adds.kept i j first second ∙ closed.brought i j first second (brings_pair b old i j was)

    ordered : (i j : ℕ) → i < j → j < length w.rows → pair_brings w new i j ≡ true → new i j ≡ true
    ordered i j less there h =
        ⊎_elim (λ (second : j < length b.rows). old_pair i j (omega (arith, less, second)) second h)
        (λ (after : length b.rows ≤ j). absurd (false≢true (sym (pairs i j less after there) ∙ h)))
        (cases_lt j (length b.rows))

    paired : (i j : ℕ) → i < length w.rows → j < length w.rows → pair_brings w new i j ≡ true → new i j ≡ true
    paired i j first second h =
        ⊎_elim (λ (same : i ≡ j). subst (λ (k : ℕ). new i k ≡ true) same (each i first))
        (λ (other : (i < j) ⊎ (j < i)).
        ⊎_elim (λ (less : i < j). ordered i j less second h)
        (λ (more : j < i). turned j i (ordered j i more first (pair_turned w new turned i j h))) other)
        (cases_order i j)

-- labels of roots are below a bound
abbrev pub AreLabelsBelow : ℕ → List Equation → Type 0
AreLabelsBelow bound roots = (i : ℕ) (r : Equation) → slice_get roots i ≡ Some r → r.right < bound

-- each root behind others has its own place for its label
abbrev pub HaveOwnLabels : ℕ → List Equation → Type 0
HaveOwnLabels n fresh = (k : ℕ) (r : Equation) → slice_get fresh k ≡ Some r → r.right ≡ n + k

-- what stands behind a list
after_old : {X : Type 0} (xs ys : List X) (n : ℕ) (x : X) → slice_get (xs ++ ys) n ≡ Some x → length xs ≤ n →
    (k : ℕ) × (n ≡ length xs + k) × (slice_get ys k ≡ Some x)
after_old [] ys n x h low = (n, omega arith, h)
after_old (z ∷ xs) ys zero x h low = absurd (omega arith)
after_old (z ∷ xs) ys (suc n) x h low = let r = after_old xs ys n x h (omega (arith, low)) in (r.0, omega (arith, r.1), r.2)

-- what stands at a place within a list stands there, too, where more is behind the list
pub within_old : {X : Type 0} (xs ys : List X) (n : ℕ) → n < length xs → slice_get (xs ++ ys) n ≡ slice_get xs n
within_old xs ys n within = let x = get_below xs n within in get_in_first xs ys n x.0 x.1 ∙ sym x.1

-- places that are equal by their labels are there
pub together_there : (roots : List Equation) (i j : ℕ) → are_together roots i j ≡ true → (i < length roots) × (j < length roots)
together_there roots i j h =
    let x = roots_of roots i j h in (slice_get_within roots i x.first x.at_first, slice_get_within roots j x.second x.at_second)

-- each place that is there is equal to itself
pub together_itself : (roots : List Equation) (i : ℕ) → i < length roots → are_together roots i i ≡ true
together_itself roots i within = let r = get_below roots i within in together_from roots i i r.0 r.0 r.1 r.1 refl

-- fresh roots behind others add places
pub fresh_roots_add : (roots fresh : List Equation) → AreLabelsBelow (length roots) roots → HaveOwnLabels (length roots) fresh →
    AddsPlaces (length roots) (length (roots ++ fresh)) (are_together roots) (are_together (roots ++ fresh))
fresh_roots_add roots fresh below labels = record {
  kept = λ i j first second.
      ap (λ (o : Option Equation). if_there o (λ (r : Equation). if_there (slice_get all j) (λ (s : Equation). r.right == s.right)))
      (within_old roots fresh i first)
      ∙ ap (λ (o : Option Equation). if_there (slice_get roots i) (λ (r : Equation). if_there o (λ (s : Equation).
      r.right == s.right))) (within_old roots fresh j second);
  own = own;
  itself = λ i after within. together_itself all i within;
}
  where
    all : List Equation
    all = roots ++ fresh

    label : (i : ℕ) (r : Equation) → slice_get (roots ++ fresh) i ≡ Some r → (r.right < length roots × i < length roots) ⊎ ((length roots ≤ i) × (r.right ≡ i))
    label i r h =
        ⊎_elim
        (λ (first : i < length roots). inl (below i r (sym (within_old roots fresh i first) ∙ h), first))
        (λ (after : length roots ≤ i).
        let x = after_old roots fresh i r h after in inr (after, labels x.0 r x.2 ∙ sym x.1)) (cases_lt i (length roots))

    own : (i j : ℕ) → (length roots ≤ i) ⊎ (length roots ≤ j) → are_together (roots ++ fresh) i j ≡ true → i ≡ j
    own i j after h =
        let x = roots_of (roots ++ fresh) i j h in
        by after (label i x.first x.at_first) (label j x.second x.at_second) x.label
      where
        by : {a b : ℕ} → (length roots ≤ i) ⊎ (length roots ≤ j) → ((a < length roots) × (i < length roots)) ⊎ ((length roots ≤ i) × (a ≡ i)) →
            ((b < length roots) × (j < length roots)) ⊎ ((length roots ≤ j) × (b ≡ j)) → a ≡ b → i ≡ j
        by (inl low) (inl p) q e = absurd (omega (arith, low, p))
        by (inl low) (inr p) (inl q) e = absurd (omega (arith, p, q, e))
        by (inl low) (inr p) (inr q) e = omega (arith, p, q, e)
        by (inr low) p (inl q) e = absurd (omega (arith, low, q))
        by (inr low) (inl p) (inr q) e = absurd (omega (arith, p, q, e))
        by (inr low) (inr p) (inr q) e = omega (arith, p, q, e)

-- lists of pairs: what is listed stands there, and what stands there is listed
pub listed_in : (pairs : List (ℕ × ℕ)) (i j : ℕ) → is_listed pairs i j ≡ true → (n : ℕ) × (slice_get pairs n ≡ Some (i, j))
listed_in [] i j h = absurd (false≢true h)
listed_in (p ∷ pairs) i j h =
    ⊎_elim
    (λ (e : ((p.0 == i) && (p.1 == j)) ≡ true).
    let both = and_parts (p.0 == i) (p.1 == j) e in
    (0, ap (λ (x : ℕ). Some (x, p.1)) (eqb-true p.0 i both.0) ∙ ap (λ (y : ℕ). Some (i, y)) (eqb-true p.1 j both.1)))
    (λ (e : is_listed pairs i j ≡ true). let rest = listed_in pairs i j e in (suc rest.0, rest.1))
    (or_cases ((p.0 == i) && (p.1 == j)) (is_listed pairs i j) h)

-- a pair of a list that is in another is listed there
pub listed_still : (old new : List (ℕ × ℕ)) → AreAllGiven old new → (i j : ℕ) → is_listed old i j ≡ true → is_listed new i j ≡ true
listed_still old new all i j h =
    let x = listed_in old i j h in
    let y = all x.0 (i, j) x.1 in
    listed_at new y.0 i j y.1

-- the pairs of given facts that are in another list are among the pairs of that list
pairs_still : (old new : List Given) → AreAllGiven old new → AreAllGiven (map pair_of old) (map pair_of new)
pairs_still old new all n p h =
    let x = given_at old n p h in
    let y = all n x.0 x.1 in
    (y.0, slice_get-map-is new y.0 x.0 y.1 x.2)
  where
    given_at : (list : List Given) (n : ℕ) (p : ℕ × ℕ) → slice_get (map pair_of list) n ≡ Some p →
        (g : Given) × (slice_get list n ≡ Some g) × (pair_of g ≡ p)
    given_at [] n p h = absurd cc
    given_at (g ∷ list) zero p h = (g, refl, same_Some (pair_of g) p h)
    given_at (g ∷ list) (suc n) p h = given_at list n p h

    slice_get-map-is : (list : List Given) (n : ℕ) (g : Given) {p : ℕ × ℕ} → slice_get list n ≡ Some g → pair_of g ≡ p →
        slice_get (map pair_of list) n ≡ Some p
    slice_get-map-is list n g h e = by list n g h ∙ ap Some e
      where
        by : (list : List Given) (n : ℕ) (g : Given) → slice_get list n ≡ Some g → slice_get (map pair_of list) n ≡ Some (pair_of g)
        by [] n g h = absurd cc
        by (x ∷ list) zero g h = ap (λ (y : Given). Some (pair_of y)) (same_Some x g h)
        by (x ∷ list) (suc n) g h = by list n g h

pub given_still : (old new : List Given) → AreAllGiven old new → (i j : ℕ) → is_listed (map pair_of old) i j ≡ true →
    is_listed (map pair_of new) i j ≡ true
given_still old new all i j h = listed_still (map pair_of old) (map pair_of new) (pairs_still old new all) i j h
