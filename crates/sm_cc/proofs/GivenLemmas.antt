-- What is given of terms stands on a branch by the places of the terms.
use Rattle.sm_cc.proofs.Imports.{◌≡◌, ℕ, ◌<◌, zero, suc, Bool, true, false, not, List, [], ◌∷◌, map, length, slice_get, Option, Some, None, refl, sym, ap, ◌∙◌, subst, if◌then◌else◌, IsTrue, filter, get_or_from_slice_get, slice_get_within, Sorts, Sort, Tree, Assertion, Eq, Ne, tree_sort, TableValue, trees_in, sorts_in, tree_at, BranchFact, Formal, Sides, equal_sides, unequal_sides, place_of, with_places, places_given, IsGiven, StandAt, known_fact, IsOfTerms, ClassesValue, setting_of, assertion_given, IsTermOf, HaveOneSort, IsOfTwoTerms, GivenFact, placed_for, numbers_where, is_among, one_thing}
use Rattle.sm_cc.specs.declared.row.Row.{Row}
use Rattle.sm_cc.specs.declared.log.Known.{Known}
use Rattle.sm_cc.specs.declared.log.Known.TheVariants.{Equal, Unequal}
use Rattle.sm_cc.specs.Views.{numbers_of}
use Rattle.sm_cc.proofs.InsideLemmas.{AreInside}
use Rattle.sm_cc.proofs.StandingLemmas.{among_there}

-- each given fact stands under its number
given_at : (table : TableValue) (facts : List BranchFact) (gs : List GivenFact) →
    StandAt facts (map (λ (g : GivenFact). g.number) gs) (map (assertion_given table) gs) →
    (q : ℕ) (g : GivenFact) → slice_get gs q ≡ Some g → slice_get facts g.number ≡ Some (Formal (assertion_given table g))
given_at table facts [] stand q g e = absurd cc
given_at table facts (h ∷ gs) stand zero g e =
    subst (λ (x : GivenFact). slice_get facts x.number ≡ Some (Formal (assertion_given table x))) (one_thing h g e) stand.0
given_at table facts (h ∷ gs) stand (suc q) g e = given_at table facts gs stand.1 q g e

module _ (table : TableValue) (terms : List Tree) where
  abbrev left : GivenFact → Tree
  left g = tree_at (trees_in table) g.left.0

  abbrev right : GivenFact → Tree
  right g = tree_at (trees_in table) g.right.0

  -- a given fact whose terms have these places
  record IsFound (gs : List GivenFact) (are_equal : Bool) (fact i j : ℕ) : Type 0 where
    q : ℕ
    g : GivenFact
    there : slice_get gs q ≡ Some g
    kind : g.are_equal ≡ are_equal
    first : i ≡ place_of terms (left g)
    second : j ≡ place_of terms (right g)
    number : fact ≡ g.number

  later : (h : GivenFact) (gs : List GivenFact) (b : Bool) (fact i j : ℕ) → IsFound gs b fact i j → IsFound (h ∷ gs) b fact i j
  later h gs b fact i j f = record {
    q = suc f.q;
    g = f.g;
    there = f.there;
    kind = f.kind;
    first = f.first;
    second = f.second;
    number = f.number;
  }

  equal_found : (gs : List GivenFact) (fact i j n : ℕ) →
      slice_get (places_given terms equal_sides (map (assertion_given table) gs)) n ≡ Some (i, j) →
      slice_get (numbers_where (λ (g : GivenFact). g.are_equal) gs) n ≡ Some fact → IsFound gs true fact i j
  equal_found [] fact i j n e f = absurd cc
  equal_found (h ∷ gs) fact i j n e f = by h.are_equal refl (equal_found gs fact i j) n e f
    where
      by : (b : Bool) → h.are_equal ≡ b →
          ((n : ℕ) → slice_get (places_given terms equal_sides (map (assertion_given table) gs)) n ≡ Some (i, j) →
          slice_get (numbers_where (λ (g : GivenFact). g.are_equal) gs) n ≡ Some fact → IsFound gs true fact i j) →
          (n : ℕ) →
          slice_get (with_places terms
          (equal_sides (if b then Eq (tree_sort (sorts_in table) (left h)) (left h) (right h) else Ne (tree_sort (sorts_in table) (left h))
          (left h) (right h)))
          (places_given terms equal_sides (map (assertion_given table) gs))) n ≡ Some (i, j) →
          slice_get (map (λ (g : GivenFact). g.number)
          (if b then h ∷ filter (λ (g : GivenFact). g.are_equal) gs else filter (λ (g : GivenFact). g.are_equal) gs)) n ≡ Some fact →
          IsFound (h ∷ gs) true fact i j
      by true is rest zero e f =
          let pair : (place_of terms (left h), place_of terms (right h)) ≡ (i, j) = one_thing _ _ e in
          record {
            q = 0;
            g = h;
            there = refl;
            kind = is;
            first = sym (ap (λ (p : ℕ × ℕ). p.0) pair);
            second = sym (ap (λ (p : ℕ × ℕ). p.1) pair);
            number = sym (one_thing h.number fact f);
          }
      by true is rest (suc n) e f = later h gs true fact i j (rest n e f)
      by false is rest n e f = later h gs true fact i j (rest n e f)

  unequal_found : (gs : List GivenFact) (fact i j n : ℕ) →
      slice_get (places_given terms unequal_sides (map (assertion_given table) gs)) n ≡ Some (i, j) →
      slice_get (numbers_where (λ (g : GivenFact). not g.are_equal) gs) n ≡ Some fact → IsFound gs false fact i j
  unequal_found [] fact i j n e f = absurd cc
  unequal_found (h ∷ gs) fact i j n e f = by h.are_equal refl (unequal_found gs fact i j) n e f
    where
      by : (b : Bool) → h.are_equal ≡ b →
          ((n : ℕ) → slice_get (places_given terms unequal_sides (map (assertion_given table) gs)) n ≡ Some (i, j) →
          slice_get (numbers_where (λ (g : GivenFact). not g.are_equal) gs) n ≡ Some fact → IsFound gs false fact i j) →
          (n : ℕ) →
          slice_get (with_places terms
          (unequal_sides
          (if b then Eq (tree_sort (sorts_in table) (left h)) (left h) (right h) else Ne (tree_sort (sorts_in table) (left h)) (left h)
          (right h)))
          (places_given terms unequal_sides (map (assertion_given table) gs))) n ≡ Some (i, j) →
          slice_get (map (λ (g : GivenFact). g.number)
          (if not b then h ∷ filter (λ (g : GivenFact). not g.are_equal) gs else filter (λ (g : GivenFact). not g.are_equal) gs)) n
          ≡ Some fact →
          IsFound (h ∷ gs) false fact i j
      by false is rest zero e f =
          let pair : (place_of terms (left h), place_of terms (right h)) ≡ (i, j) = one_thing _ _ e in
          record {
            q = 0;
            g = h;
            there = refl;
            kind = is;
            first = sym (ap (λ (p : ℕ × ℕ). p.0) pair);
            second = sym (ap (λ (p : ℕ × ℕ). p.1) pair);
            number = sym (one_thing h.number fact f);
          }
      by false is rest (suc n) e f = later h gs false fact i j (rest n e f)
      by true is rest n e f = later h gs false fact i j (rest n e f)

-- the place of a term that is there
place_below : (terms : List Tree) (t : Tree) → IsTrue (is_among terms t) → (i : ℕ) → i ≡ place_of terms t → i < length terms
place_below terms t among i e =
    subst (λ (m : ℕ). m < length terms) (sym e) (slice_get_within terms (place_of terms t) t (among_there terms t among))

module _ (v : ClassesValue) (rows : List Row)
    (fine : (q : ℕ) (g : GivenFact) → slice_get v.given q ≡ Some g → IsOfTwoTerms v g) where
  -- the places of a fact that is found are there
  found_inside : (b : Bool) (n i j : ℕ) → IsFound v.table (setting_of v).terms v.given b n i j →
      (i < length (setting_of v).terms) × (j < length (setting_of v).terms)
  found_inside b n i j f =
      let good = fine f.q f.g f.there in (
        place_below (setting_of v).terms (tree_at (trees_in v.table) f.g.left.0) good.0.1 i f.first,
        place_below (setting_of v).terms (tree_at (trees_in v.table) f.g.right.0) good.1.1 j f.second,
      )

  -- what is given is of places that are there
  pub given_inside : (n : ℕ) (k : Known) → IsGiven (placed_for v rows) n k → AreInside (length (setting_of v).terms) k
  given_inside n (Equal i j) d = found_inside true n i j (equal_found v.table (setting_of v).terms v.given n i j d.0 d.1 d.2)
  given_inside n (Unequal i j) d = found_inside false n i j (unequal_found v.table (setting_of v).terms v.given n i j d.0 d.1 d.2)

module _ (v : ClassesValue) (rows : List Row) (facts : List BranchFact) (stand : StandAt facts (numbers_of v) (setting_of v).given)
    (fine : (q : ℕ) (g : GivenFact) → slice_get v.given q ≡ Some g →
    IsTermOf v g.left × IsTermOf v g.right × HaveOneSort v.table g.left g.right) where
  abbrev terms : List Tree
  terms = (setting_of v).terms

  abbrev tree : ℕ → Tree
  tree n = tree_at (trees_in v.table) n

  -- the term at the place of a term
  at_place : (t : Tree) → slice_get terms (place_of terms t) ≡ Some t → (i : ℕ) → i ≡ place_of terms t → tree_at terms i ≡ t
  at_place t there i e = ap (tree_at terms) e ∙ get_or_from_slice_get terms (place_of terms t) t _ there

  -- what is given stands under its number
  pub given_told : (n : ℕ) (k : Known) → IsGiven (placed_for v rows) n k →
      (slice_get facts n ≡ Some (known_fact (sorts_in v.table) terms k)) × IsOfTerms (sorts_in v.table) terms k
  given_told n (Equal i j) d = by (equal_found v.table terms v.given n i j d.0 d.1 d.2)
    where
      by : IsFound v.table terms v.given true n i j →
          (slice_get facts n ≡ Some (known_fact (sorts_in v.table) terms (Equal i j))) × IsOfTerms (sorts_in v.table) terms (Equal i j)
      by f =
          let g = f.g in
          let good = fine f.q g f.there in
          let t = tree g.left.0 in
          let u = tree g.right.0 in
          let at_t = among_there terms t good.0.1 in
          let at_u = among_there terms u good.1.1 in
          let same_t = at_place t at_t i f.first in
          let same_u = at_place u at_u j f.second in
          let sort = tree_sort (sorts_in v.table) in (
            ap (slice_get facts) f.number
                ∙ given_at v.table facts v.given stand f.q g f.there
                ∙ ap (λ (b : Bool). Some (Formal (if b then Eq (sort t) t u else Ne (sort t) t u))) f.kind
                ∙ ap (λ (x : Tree). Some (Formal (Eq (sort x) x u))) (sym same_t)
                ∙ ap (λ (x : Tree). Some (Formal (Eq (sort (tree_at terms i)) (tree_at terms i) x))) (sym same_u),
            record {
              left = subst (λ (m : ℕ). m < length terms) (sym f.first) (slice_get_within terms (place_of terms t) t at_t);
              right = subst (λ (m : ℕ). m < length terms) (sym f.second) (slice_get_within terms (place_of terms u) u at_u);
              one_sort = ap sort same_t ∙ good.2 ∙ ap sort (sym same_u);
            },
          )
  given_told n (Unequal i j) d = by (unequal_found v.table terms v.given n i j d.0 d.1 d.2)
    where
      by : IsFound v.table terms v.given false n i j →
          (slice_get facts n ≡ Some (known_fact (sorts_in v.table) terms (Unequal i j))) × IsOfTerms (sorts_in v.table) terms (Unequal i j)
      by f =
          let g = f.g in
          let good = fine f.q g f.there in
          let t = tree g.left.0 in
          let u = tree g.right.0 in
          let at_t = among_there terms t good.0.1 in
          let at_u = among_there terms u good.1.1 in
          let same_t = at_place t at_t i f.first in
          let same_u = at_place u at_u j f.second in
          let sort = tree_sort (sorts_in v.table) in (
            ap (slice_get facts) f.number
                ∙ given_at v.table facts v.given stand f.q g f.there
                ∙ ap (λ (b : Bool). Some (Formal (if b then Eq (sort t) t u else Ne (sort t) t u))) f.kind
                ∙ ap (λ (x : Tree). Some (Formal (Ne (sort x) x u))) (sym same_t)
                ∙ ap (λ (x : Tree). Some (Formal (Ne (sort (tree_at terms i)) (tree_at terms i) x))) (sym same_u),
            record {
              left = subst (λ (m : ℕ). m < length terms) (sym f.first) (slice_get_within terms (place_of terms t) t at_t);
              right = subst (λ (m : ℕ). m < length terms) (sym f.second) (slice_get_within terms (place_of terms u) u at_u);
              one_sort = ap sort same_t ∙ good.2 ∙ ap sort (sym same_u);
            },
          )
