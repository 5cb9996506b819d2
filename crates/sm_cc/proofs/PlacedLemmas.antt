-- What is given of terms, all at once, is given of their places.
use Rattle.sm_cc.proofs.Imports.{◌≡◌, ℕ, suc, Bool, true, false, not, List, [], ◌∷◌, map, slice_get, Some, refl, sym, ap, subst, ◌∙◌, if◌then◌else◌, filter, Tree, Assertion, Eq, Ne, tree_sort, TableValue, trees_in, sorts_in, tree_at, TermId, equal_sides, unequal_sides, place_of, RowsStand, with_places, places_given, ArePositions, place_at, Placed, pair_of, fact_of, placed_with, ClassesValue, setting_of, assertion_given, IsOfTwoTerms, AreOfTwoTerms, GivenFact, numbers_where, placed_for, placed_fact, placed_equations, placed_contraries, AreClasses}
use Rattle.sm_cc.specs.declared.row.Row.{Row}
use Rattle.sm_cc.specs.Positions.{Positions}
use Rattle.sm_cc.specs.Closures.{Given}
use Rattle.sm_cc.proofs.ClassesLemmas.{placed_alike}

-- the numbers stay
numbers_stay : (p : Positions) (gs : List GivenFact) → map fact_of (map (placed_fact p) gs) ≡ map (λ (g : GivenFact). g.number) gs
numbers_stay p [] = refl
numbers_stay p (g ∷ gs) = ap (λ (ns : List ℕ). g.number ∷ ns) (numbers_stay p gs)

module _ (v : ClassesValue) (p : Positions) (tell : ArePositions (trees_in v.table) (setting_of v).terms p) where
  abbrev terms : List Tree
  terms = (setting_of v).terms

  abbrev left : GivenFact → Tree
  left g = tree_at (trees_in v.table) g.left.0

  abbrev right : GivenFact → Tree
  right g = tree_at (trees_in v.table) g.right.0

  -- the formulas of facts
  abbrev formulas : List GivenFact → List Assertion
  formulas gs = map (assertion_given v.table) gs

  -- each is of two terms
  abbrev AreFine : List GivenFact → Type 0
  AreFine gs = (n : ℕ) (g : GivenFact) → slice_get gs n ≡ Some g → IsOfTwoTerms v g

  -- the places of a fact are those of its terms
  pair_told : (g : GivenFact) → IsOfTwoTerms v g → (ps qs : List (ℕ × ℕ)) → ps ≡ qs →
      pair_of (placed_fact p g) ∷ ps ≡ (place_of terms (left g), place_of terms (right g)) ∷ qs
  pair_told g fine ps qs rest =
      ap (λ (n : ℕ). (n, place_at p g.right.0) ∷ ps) (tell.places g.left.0 fine.0.0)
      ∙ ap (λ (n : ℕ). (place_of terms (left g), n) ∷ ps) (tell.places g.right.0 fine.1.0)
      ∙ ap (λ (all : List (ℕ × ℕ)). (place_of terms (left g), place_of terms (right g)) ∷ all) rest

  -- the places of the equations
  equations_told : (gs : List GivenFact) → AreFine gs →
      map pair_of (placed_equations p gs) ≡ places_given terms equal_sides (formulas gs)
  equations_told [] fine = refl
  equations_told (h ∷ gs) fine = by h.are_equal (equations_told gs (λ n g e. fine (suc n) g e))
    where
      by : (b : Bool) → map pair_of (placed_equations p gs) ≡ places_given terms equal_sides (formulas gs) →
          map pair_of (map (placed_fact p)
          (if b then h ∷ filter (λ (g : GivenFact). g.are_equal) gs else filter (λ (g : GivenFact). g.are_equal) gs))
          ≡ with_places terms
          (equal_sides (if b then Eq (tree_sort (sorts_in v.table) (left h)) (left h) (right h) else Ne
          (tree_sort (sorts_in v.table) (left h)) (left h) (right h)))
          (places_given terms equal_sides (formulas gs))
      by true rest = pair_told h (fine 0 h refl) _ _ rest
      by false rest = rest

  -- the places of the contraries
  contraries_told : (gs : List GivenFact) → AreFine gs →
      map pair_of (placed_contraries p gs) ≡ places_given terms unequal_sides (formulas gs)
  contraries_told [] fine = refl
  contraries_told (h ∷ gs) fine = by h.are_equal (contraries_told gs (λ n g e. fine (suc n) g e))
    where
      by : (b : Bool) → map pair_of (placed_contraries p gs) ≡ places_given terms unequal_sides (formulas gs) →
          map pair_of (map (placed_fact p)
          (if not b then h ∷ filter (λ (g : GivenFact). not g.are_equal) gs else filter (λ (g : GivenFact). not g.are_equal) gs))
          ≡ with_places terms
          (unequal_sides (if b then Eq (tree_sort (sorts_in v.table) (left h)) (left h) (right h) else Ne
          (tree_sort (sorts_in v.table) (left h)) (left h) (right h)))
          (places_given terms unequal_sides (formulas gs))
      by true rest = rest
      by false rest = pair_told h (fine 0 h refl) _ _ rest

  -- what is given of the places is what is given of the terms
  all_placed : (rows : List Row) → AreOfTwoTerms v →
      placed_with rows (placed_equations p v.given) (placed_contraries p v.given) ≡ placed_for v rows
  all_placed rows all =
      placed_alike rows (map pair_of (placed_equations p v.given)) (places_given terms equal_sides (formulas v.given))
      (map pair_of (placed_contraries p v.given)) (places_given terms unequal_sides (formulas v.given))
      (map fact_of (placed_equations p v.given)) (numbers_where (λ (g : GivenFact). g.are_equal) v.given)
      (map fact_of (placed_contraries p v.given)) (numbers_where (λ (g : GivenFact). not g.are_equal) v.given)
      (equations_told v.given all.each) (contraries_told v.given all.each)
      (numbers_stay p (filter (λ (g : GivenFact). g.are_equal) v.given))
      (numbers_stay p (filter (λ (g : GivenFact). not g.are_equal) v.given))

  -- classes of the places with all that is given
  pub classes_made : (rows : List Row) → RowsStand (sorts_in v.table) terms rows → AreOfTwoTerms v → (equal unequal : List Given) →
      equal ≡ placed_equations p v.given → unequal ≡ placed_contraries p v.given → (places : Placed) →
      places ≡ placed_with rows equal unequal → AreClasses v p places
  classes_made rows stand fine equal unequal e f places made =
      let same : places.board.rows ≡ rows = ap (λ (q : Placed). q.board.rows) made in
      record {
        positions_tell = tell;
        rows_stand = subst (RowsStand (sorts_in v.table) terms) (sym same) stand;
        given_of_both =
            made
            ∙ ap (λ (gs : List Given). placed_with rows gs unequal) e
            ∙ ap (placed_with rows (placed_equations p v.given)) f
            ∙ all_placed rows fine
            ∙ ap (placed_for v) (sym same);
        of_two_terms = fine.each;
      }

-- no facts are of two terms
pub none_given : (table : TableValue) (terms : List TermId) (gs : List GivenFact) → gs ≡ [] →
    AreOfTwoTerms (record { table = table; terms = terms; given = gs })
none_given table terms gs none =
    subst (λ (fs : List GivenFact). AreOfTwoTerms (record { table = table; terms = terms; given = fs })) (sym none)
    (record { each = λ n g e. absurd cc })
