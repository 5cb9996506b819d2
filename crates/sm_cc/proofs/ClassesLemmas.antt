-- Classes of terms stand over classes of the places.
use Rattle.sm_cc.proofs.Imports.{◌≡◌, ◌↔◌, ℕ, ◌<◌, Bool, true, false, not, IsTrue, List, [], ◌∷◌, ◌++◌, map, length, Option, Some, None, refl, sym, ap, ◌∙◌, subst, arith, ⊎_elim, slice_get, if◌then◌else◌, filter, map-append, append-nil, slice_get_within, Tree, Assertion, Eq, Ne, tree_sort, trees_in, sorts_in, tree_at, TermId, Sides, equal_sides, unequal_sides, Same, SamePlaces, ApartPlaces, place_of, RowsStand, with_places, places_given, board_for, place_at, Placed, with_equal, with_unequal, ClassesValue, setting_of, assertion_given, IsTermOf, IsOfTwoTerms, with_given, GivenFact, numbers_where, placed_for, with_fact, AreClasses, get_pushed}
use Rattle.sm_cc.specs.Classes.{Apart}
use Rattle.sm_cc.specs.Rows.{Row}
use Rattle.sm_cc.specs.Positions.{Positions}
use Rattle.sm_cc.proofs.StandingLemmas.{among_there}
use Rattle.sm_cc.proofs.TermsOfPlaces.{same_told, apart_told}

-- the places of one formula more
places_given-push : (terms : List Tree) (sides : Assertion → Option Sides) (fs : List Assertion) (f : Assertion) →
    places_given terms sides (fs ++ f ∷ []) ≡ places_given terms sides fs ++ with_places terms (sides f) []
places_given-push terms sides [] f = refl
places_given-push terms sides (e ∷ fs) f = by (sides e) (places_given-push terms sides fs f)
  where
    by : (o : Option Sides) → places_given terms sides (fs ++ f ∷ []) ≡ places_given terms sides fs ++ with_places terms (sides f) [] →
        with_places terms o (places_given terms sides (fs ++ f ∷ []))
        ≡ with_places terms o (places_given terms sides fs) ++ with_places terms (sides f) []
    by None rest = rest
    by (Some s) rest = ap (λ (ps : List (ℕ × ℕ)). (place_of terms s.left, place_of terms s.right) ∷ ps) rest

-- the numbers of one fact more
numbers_where-push : (test : GivenFact → Bool) (gs : List GivenFact) (g : GivenFact) →
    numbers_where test (gs ++ g ∷ []) ≡ numbers_where test gs ++ (if test g then g.number ∷ [] else [])
numbers_where-push test [] g = by (test g)
  where
    by : (b : Bool) → map (λ (g : GivenFact). g.number) (if b then g ∷ [] else []) ≡ (if b then g.number ∷ [] else [])
    by true = refl
    by false = refl
numbers_where-push test (e ∷ gs) g = by (test e) (numbers_where-push test gs g)
  where
    by : (b : Bool) → numbers_where test (gs ++ g ∷ []) ≡ numbers_where test gs ++ (if test g then g.number ∷ [] else []) →
        map (λ (g : GivenFact). g.number) (if b then e ∷ filter test (gs ++ g ∷ []) else filter test (gs ++ g ∷ []))
        ≡ map (λ (g : GivenFact). g.number) (if b then e ∷ filter test gs else filter test gs) ++ (if test g then g.number ∷ [] else [])
    by true rest = ap (λ (ns : List ℕ). e.number ∷ ns) rest
    by false rest = rest

-- what is seen of places by its parts
abbrev pub placed_by : List Row → List (ℕ × ℕ) → List (ℕ × ℕ) → List ℕ → List ℕ → Placed
placed_by rows equal unequal ns ms = record {
  board = record { rows = rows; equal = equal; unequal = unequal };
  equal_facts = ns;
  unequal_facts = ms;
}

-- two of equal parts are equal
pub placed_alike : (rows : List Row) (a b : List (ℕ × ℕ)) (c d : List (ℕ × ℕ)) (k l m n : List ℕ) → a ≡ b → c ≡ d → k ≡ l → m ≡ n →
    placed_by rows a c k m ≡ placed_by rows b d l n
placed_alike rows a b c d k l m n p q r s =
    ap (λ (x : List (ℕ × ℕ)). placed_by rows x c k m) p
    ∙ ap (λ (x : List (ℕ × ℕ)). placed_by rows b x k m) q
    ∙ ap (λ (x : List ℕ). placed_by rows b d x m) r
    ∙ ap (λ (x : List ℕ). placed_by rows b d l x) s

module _ (v : ClassesValue) (g : GivenFact) (rows : List Row) where
  abbrev terms : List Tree
  terms = (setting_of v).terms

  abbrev left : Tree
  left = tree_at (trees_in v.table) g.left.0

  abbrev right : Tree
  right = tree_at (trees_in v.table) g.right.0

  -- the formulas with one more
  given-push : (setting_of (with_given v g)).given ≡ (setting_of v).given ++ assertion_given v.table g ∷ []
  given-push = map-append (assertion_given v.table) v.given (g ∷ [])

  -- the places of what is given with one equation more
  placed_equal : g.are_equal ≡ true → placed_for (with_given v g) rows
      ≡ with_equal (placed_for v rows) g.number (place_of terms left) (place_of terms right)
  placed_equal e =
      let is : assertion_given v.table g ≡ Eq (tree_sort (sorts_in v.table) left) left right =
      ap (λ (b : Bool). if b then Eq (tree_sort (sorts_in v.table) left) left right else Ne (tree_sort (sorts_in v.table) left) left right)
      e in
      let given = (setting_of v).given in
      let all = λ (sides : Assertion → Option Sides). ap (places_given terms sides) given-push
      ∙ places_given-push terms sides given (assertion_given v.table g)
      ∙ ap (λ (f : Assertion). places_given terms sides given ++ with_places terms (sides f) []) is in
      let equal = all equal_sides in
      let unequal = all unequal_sides ∙ append-nil (places_given terms unequal_sides given) in
      let ns = numbers_where-push (λ (g : GivenFact). g.are_equal) v.given g
      ∙ ap (λ (b : Bool). numbers_where (λ (g : GivenFact). g.are_equal) v.given ++ (if b then g.number ∷ [] else [])) e in
      let ms = numbers_where-push (λ (g : GivenFact). not g.are_equal) v.given g
      ∙ ap (λ (b : Bool). numbers_where (λ (g : GivenFact). not g.are_equal) v.given ++ (if not b then g.number ∷ [] else [])) e
      ∙ append-nil (numbers_where (λ (g : GivenFact). not g.are_equal) v.given) in
      placed_alike rows (places_given terms equal_sides (setting_of (with_given v g)).given) _
      (places_given terms unequal_sides (setting_of (with_given v g)).given) _
      (numbers_where (λ (g : GivenFact). g.are_equal) (v.given ++ g ∷ [])) _
      (numbers_where (λ (g : GivenFact). not g.are_equal) (v.given ++ g ∷ [])) _
      equal unequal ns ms

  -- the places of what is given with one contrary more
  placed_unequal : g.are_equal ≡ false → placed_for (with_given v g) rows
      ≡ with_unequal (placed_for v rows) g.number (place_of terms left) (place_of terms right)
  placed_unequal e =
      let is : assertion_given v.table g ≡ Ne (tree_sort (sorts_in v.table) left) left right =
      ap (λ (b : Bool). if b then Eq (tree_sort (sorts_in v.table) left) left right else Ne (tree_sort (sorts_in v.table) left) left right)
      e in
      let given = (setting_of v).given in
      let all = λ (sides : Assertion → Option Sides). ap (places_given terms sides) given-push
      ∙ places_given-push terms sides given (assertion_given v.table g)
      ∙ ap (λ (f : Assertion). places_given terms sides given ++ with_places terms (sides f) []) is in
      let equal = all equal_sides ∙ append-nil (places_given terms equal_sides given) in
      let unequal = all unequal_sides in
      let ns = numbers_where-push (λ (g : GivenFact). g.are_equal) v.given g
      ∙ ap (λ (b : Bool). numbers_where (λ (g : GivenFact). g.are_equal) v.given ++ (if b then g.number ∷ [] else [])) e
      ∙ append-nil (numbers_where (λ (g : GivenFact). g.are_equal) v.given) in
      let ms = numbers_where-push (λ (g : GivenFact). not g.are_equal) v.given g
      ∙ ap (λ (b : Bool). numbers_where (λ (g : GivenFact). not g.are_equal) v.given ++ (if not b then g.number ∷ [] else [])) e in
      placed_alike rows (places_given terms equal_sides (setting_of (with_given v g)).given) _
      (places_given terms unequal_sides (setting_of (with_given v g)).given) _
      (numbers_where (λ (g : GivenFact). g.are_equal) (v.given ++ g ∷ [])) _
      (numbers_where (λ (g : GivenFact). not g.are_equal) (v.given ++ g ∷ [])) _
      equal unequal ns ms

module _ (v : ClassesValue) (positions : Positions) (places : Placed) (are : AreClasses v positions places) where
  abbrev tree : TermId → Tree
  tree t = tree_at (trees_in v.table) t.0

  -- terms are in one class where their places are
  pub same_of_places : (t u : TermId) → t.0 < length (trees_in v.table) → u.0 < length (trees_in v.table) → (r : Bool) (i j : ℕ) →
      i ≡ place_at positions t.0 → j ≡ place_at positions u.0 → (IsTrue r ↔ SamePlaces places.board i j) →
      IsTrue r ↔ Same (setting_of v) (tree t) (tree u)
  same_of_places t u h g r i j e f says =
      let rows = places.board.rows in
      let law = same_told (sorts_in v.table) (setting_of v).terms (setting_of v).given rows are.rows_stand (tree t) (tree u) in
      let left = e ∙ are.positions_tell.places t.0 h in
      let right = f ∙ are.positions_tell.places u.0 g in
      let here = subst (λ (p : Placed). IsTrue r ↔ SamePlaces p.board i j) are.given_of_both says in
      let there = subst (λ (n : ℕ). IsTrue r ↔ SamePlaces (board_for (setting_of v) rows) n j) left here in
      let all = subst (λ (n : ℕ). IsTrue r ↔ SamePlaces (board_for (setting_of v) rows) (place_of (setting_of v).terms (tree t)) n) right
      there in
      (λ x. law.1 (all.0 x), λ y. all.1 (law.0 y))

  -- terms are known apart where their places are
  pub apart_of_their_places : (t u : TermId) → t.0 < length (trees_in v.table) → u.0 < length (trees_in v.table) → (r : Bool) (i j : ℕ) →
      i ≡ place_at positions t.0 → j ≡ place_at positions u.0 → (IsTrue r ↔ ApartPlaces places.board i j) →
      IsTrue r ↔ Apart (setting_of v) (tree t) (tree u)
  apart_of_their_places t u h g r i j e f says =
      let rows = places.board.rows in
      let law = apart_told (sorts_in v.table) (setting_of v).terms (setting_of v).given rows are.rows_stand (tree t) (tree u) in
      let left = e ∙ are.positions_tell.places t.0 h in
      let right = f ∙ are.positions_tell.places u.0 g in
      let here = subst (λ (p : Placed). IsTrue r ↔ ApartPlaces p.board i j) are.given_of_both says in
      let there = subst (λ (n : ℕ). IsTrue r ↔ ApartPlaces (board_for (setting_of v) rows) n j) left here in
      let all = subst (λ (n : ℕ). IsTrue r ↔ ApartPlaces (board_for (setting_of v) rows) (place_of (setting_of v).terms (tree t)) n) right
      there in
      (λ x. law.1 (all.0 x), λ y. all.1 (law.0 y))

  -- the place of a term of the list is there
  pub place_below : (t : TermId) → IsTermOf v t → (i : ℕ) → i ≡ place_at positions t.0 → i < length places.board.rows
  place_below t of i e =
      let inside = slice_get_within (setting_of v).terms (place_of (setting_of v).terms (tree t)) (tree t)
      (among_there (setting_of v).terms (tree t) of.1) in
      let same = e ∙ are.positions_tell.places t.0 of.0 in
      omega (arith, inside, same, are.rows_stand.count)

  -- one fact more is of two terms
  of_two_more : (g : GivenFact) → IsOfTwoTerms v g → (n : ℕ) (f : GivenFact) → slice_get (v.given ++ g ∷ []) n ≡ Some f → IsOfTwoTerms v f
  of_two_more g fine n f e =
      ⊎_elim (λ (old : slice_get v.given n ≡ Some f). are.of_two_terms n f old)
      (λ (new : (n ≡ length v.given) × (g ≡ f)). subst (IsOfTwoTerms v) new.1 fine)
      (get_pushed v.given g f n e)

  -- one equation more is given of both
  pub classes_equal : (g : GivenFact) → g.are_equal ≡ true → IsOfTwoTerms v g → (i j : ℕ) →
      i ≡ place_at positions g.left.0 → j ≡ place_at positions g.right.0 → (after : Placed) → after ≡ with_equal places g.number i j →
      AreClasses (with_given v g) positions after
  classes_equal g is fine i j e f after made =
      let rows : after.board.rows ≡ places.board.rows = ap (λ (p : Placed). p.board.rows) made in
      let left = e ∙ are.positions_tell.places g.left.0 fine.0.0 in
      let right = f ∙ are.positions_tell.places g.right.0 fine.1.0 in
      record {
        positions_tell = are.positions_tell;
        rows_stand = subst (RowsStand (sorts_in v.table) (setting_of v).terms) (sym rows) are.rows_stand;
        given_of_both =
            made
            ∙ ap (λ (p : Placed). with_equal p g.number i j) are.given_of_both
            ∙ ap (λ (n : ℕ). with_equal (placed_for v places.board.rows) g.number n j) left
            ∙ ap (with_equal (placed_for v places.board.rows) g.number (place_of (setting_of v).terms (tree g.left))) right
            ∙ sym (placed_equal v g places.board.rows is)
            ∙ ap (placed_for (with_given v g)) (sym rows);
        of_two_terms = of_two_more g fine;
      }

  -- one contrary of an equation more is given of both
  pub classes_unequal : (g : GivenFact) → g.are_equal ≡ false → IsOfTwoTerms v g → (i j : ℕ) →
      i ≡ place_at positions g.left.0 → j ≡ place_at positions g.right.0 → (after : Placed) → after ≡ with_unequal places g.number i j →
      AreClasses (with_given v g) positions after
  classes_unequal g is fine i j e f after made =
      let rows : after.board.rows ≡ places.board.rows = ap (λ (p : Placed). p.board.rows) made in
      let left = e ∙ are.positions_tell.places g.left.0 fine.0.0 in
      let right = f ∙ are.positions_tell.places g.right.0 fine.1.0 in
      record {
        positions_tell = are.positions_tell;
        rows_stand = subst (RowsStand (sorts_in v.table) (setting_of v).terms) (sym rows) are.rows_stand;
        given_of_both =
            made
            ∙ ap (λ (p : Placed). with_unequal p g.number i j) are.given_of_both
            ∙ ap (λ (n : ℕ). with_unequal (placed_for v places.board.rows) g.number n j) left
            ∙ ap (with_unequal (placed_for v places.board.rows) g.number (place_of (setting_of v).terms (tree g.left))) right
            ∙ sym (placed_unequal v g places.board.rows is)
            ∙ ap (placed_for (with_given v g)) (sym rows);
        of_two_terms = of_two_more g fine;
      }

  -- one fact more, an equation or the contrary of one, is given of both
  pub classes_more : (g : GivenFact) → IsOfTwoTerms v g → (i j : ℕ) →
      i ≡ place_at positions g.left.0 → j ≡ place_at positions g.right.0 → (after : Placed) → after ≡ with_fact places g i j →
      AreClasses (with_given v g) positions after
  classes_more g fine i j e f after made = by g.are_equal refl
    where
      by : (b : Bool) → g.are_equal ≡ b → AreClasses (with_given v g) positions after
      by true is =
          classes_equal g is fine i j e f after
          (made ∙ ap (λ (b : Bool). if b then with_equal places g.number i j else with_unequal places g.number i j) is)
      by false is =
          classes_unequal g is fine i j e f after
          (made ∙ ap (λ (b : Bool). if b then with_equal places g.number i j else with_unequal places g.number i j) is)
