-- The classes of a table's terms by the equations and contraries among facts are those of the facts.
use Rattle.sm_certify.proofs.Imports.{◌≡◌, ℕ, zero, suc, ◌+◌, ◌<◌, ◌≤◌, pos, Bool, true, ◌&&◌, ◌||◌, List, [], ◌∷◌, ◌++◌, map, length, drop, get_or, slice_get, Some, refl, sym, ap, subst, ◌∙◌, arith, list_any, range_with_len, or_left, or_right, append-nil, map-append, drop_more, same_Some, Formula, Tree, Lit, Assertion, same_tree, AreFormsSorted, TableValue, trees_in, sorts_in, tree_at, AreBefore, TermId, same_tree_is, equal_sides, unequal_sides, says_equal, is_among, Pairs, Setting, are_apart, are_equal, ClassesValue, setting_of, assertion_given, equation_under, contrary_under, IsTermOf, IsOfTwoTerms, AreOfTwoTerms, GivenFact, IsWhole, given_from, classes_by, branch_of, trees_at, AreBelow, all_numbered, assertions_in, AreFormulasWithin, equal_alike, apart_alike, range_more}
use Rattle.std.proofs.Common.{append_assoc}
use Rattle.std.proofs.lemmas.List.FromFn.{fill_by_all}
use Rattle.sm_term.specs.declared.formula.Formula.TheVariants as tree
use Rattle.sm_cc.specs.Views.{trees_of}
use Rattle.sm_terms.specs.Listing.{numbers_of}
use Rattle.sm_judge.specs.Seeing.{seen_in}
use Rattle.sm_cc.proofs.BringsLemmas.{GivesMore}

-- the trees of a list that has all terms
trees_alike : (trees : List Tree) (ts : List TermId) → trees_of trees ts ≡ trees_at trees (numbers_of ts)
trees_alike trees [] = refl
trees_alike trees (t ∷ ts) = ap (λ (us : List Tree). tree_at trees t.0 ∷ us) (trees_alike trees ts)

pub whole_trees : (trees : List Tree) (ts : List TermId) → IsWhole trees ts → trees_of trees ts ≡ trees
whole_trees trees ts whole = trees_alike trees ts ∙ whole.trees_are

before_of_below : (n : ℕ) (ts : List TermId) → AreBelow n (numbers_of ts) → AreBefore n ts
before_of_below n [] h = tt
before_of_below n (t ∷ ts) h = (h.0, before_of_below n ts h.1)

pub whole_before : (trees : List Tree) (ts : List TermId) → IsWhole trees ts → AreBefore (length trees) ts
whole_before trees ts whole = before_of_below (length trees) ts whole.below

-- a term of a table is among its trees
among_trees : (trees : List Tree) (n : ℕ) → n < length trees → is_among trees (tree_at trees n) ≡ true
among_trees [] n h = absurd (omega arith)
among_trees (t ∷ ts) zero h = or_left (same_tree t t) (is_among ts t) ((same_tree_is t t).1 refl)
among_trees (t ∷ ts) (suc n) h =
    let less : n < length ts = omega arith in or_right (same_tree (tree_at ts n) t) (is_among ts (tree_at ts n)) (among_trees ts n less)

-- each term of the table is one of the classes
pub term_of : (v : ClassesValue) → IsWhole (trees_in v.table) v.terms → (t : TermId) → t.0 < length (trees_in v.table) → IsTermOf v t
term_of v whole t h = (
  h,
  subst (λ (ts : List Tree). is_among ts (tree_at (trees_in v.table) t.0) ≡ true) (sym (whole_trees (trees_in v.table) v.terms whole))
      (among_trees (trees_in v.table) t.0 h),
)

-- one more term is listed
pub numbered_more : (ts new : List TermId) (t : TermId) (n : ℕ) → numbers_of ts ≡ range_with_len 0 n → t.0 ≡ n → new ≡ ts ++ t ∷ [] →
    numbers_of new ≡ range_with_len 0 (n + 1)
numbered_more ts new t n before is made =
    let last : t.0 ≡ 0 + n = omega (arith, is) in
    let count : suc n ≡ n + 1 = omega arith in
    ap numbers_of made ∙ map-append (λ (t : TermId). t.0) ts (t ∷ [])
    ∙ ap (λ (ns : List ℕ). ns ++ t.0 ∷ []) before
    ∙ ap (λ (k : ℕ). range_with_len 0 n ++ k ∷ []) last
    ∙ sym (range_more 0 n) ∙ ap (range_with_len 0) count

range_below : (a n m : ℕ) → a + n ≤ m → AreBelow m (range_with_len a n)
range_below a zero m h = tt
range_below a (suc n) m h = (omega arith, range_below (a + 1) n m (omega arith))

-- where as many are listed as there are, all are
pub all_whole : (trees : List Tree) (ts : List TermId) (n : ℕ) → numbers_of ts ≡ range_with_len 0 n → n ≡ length trees → IsWhole trees ts
all_whole trees ts n is count =
    let same : numbers_of ts ≡ range_with_len 0 (length trees) = is ∙ ap (range_with_len 0) count in
    record {
      trees_are = ap (trees_at trees) same ∙ sym (fill_by_all (tree_at trees) trees (length trees) (Lit (pos 0)) refl (λ k h. refl));
      below = subst (AreBelow (length trees)) (sym same) (range_below 0 (length trees) (length trees) (omega arith));
    }

-- what one formula gives, and then others
pub given_from-cons : (n : ℕ) (f : Formula) (fs : List Formula) → given_from n (f ∷ fs) ≡ given_from n (f ∷ []) ++ given_from (suc n) fs
given_from-cons n tree.Yes fs = refl
given_from-cons n tree.No fs = refl
given_from-cons n (tree.Eq t u) fs = refl
given_from-cons n (tree.Ne t u) fs = refl
given_from-cons n (tree.Le t u) fs = refl
given_from-cons n (tree.Lt t u) fs = refl
given_from-cons n (tree.And' a p b q) fs = refl
given_from-cons n (tree.Or' a p b q) fs = refl

-- one of the formulas that are left, and the others
pub left_step : (fs : List Formula) (i : ℕ) (f : Formula) → i < length fs → f ≡ get_or fs i f → drop i fs ≡ f ∷ drop (i + 1) fs
left_step fs i f h is = drop_more fs i f h ∙ ap (λ (g : Formula). g ∷ drop (i + 1) fs) (sym is)

-- one more formula is given
pub given_step : (before after : List GivenFact) (fs : List Formula) (n i : ℕ) (f : Formula) → i < length fs → f ≡ get_or fs i f →
    after ≡ before ++ given_from n (f ∷ []) → before ++ given_from n (drop i fs) ≡ given_from 0 fs →
    after ++ given_from (n + 1) (drop (i + 1) fs) ≡ given_from 0 fs
given_step before after fs n i f h is made old =
    let rest = drop (i + 1) fs in
    let count : n + 1 ≡ suc n = omega arith in
    ap (λ (gs : List GivenFact). gs ++ given_from (n + 1) rest) made
    ∙ append_assoc before (given_from n (f ∷ [])) (given_from (n + 1) rest)
    ∙ ap (λ (k : ℕ). before ++ (given_from n (f ∷ []) ++ given_from k rest)) count
    ∙ ap (λ (gs : List GivenFact). before ++ gs) (sym (given_from-cons n f rest))
    ∙ ap (λ (gs : List Formula). before ++ given_from n gs) (sym (left_step fs i f h is))
    ∙ old

-- nothing is left
none_left : (fs : List Formula) (i : ℕ) → length fs ≤ i → drop i fs ≡ []
none_left [] zero h = refl
none_left [] (suc i) h = refl
none_left (f ∷ fs) zero h = absurd (omega arith)
none_left (f ∷ fs) (suc i) h = let less : length fs ≤ i = omega arith in none_left fs i less

-- all formulas are given
pub given_whole : (gs : List GivenFact) (fs : List Formula) (n i : ℕ) → gs ++ given_from n (drop i fs) ≡ given_from 0 fs → length fs ≤ i →
    gs ≡ given_from 0 fs
given_whole gs fs n i all past =
    sym (append-nil gs) ∙ ap (λ (hs : List Formula). gs ++ given_from n hs) (sym (none_left fs i past)) ∙ all

-- classes by what the formulas give
pub given_all : (table : TableValue) (ts : List TermId) (fs : List Formula) (gs : List GivenFact) → gs ≡ given_from 0 fs →
    (v : ClassesValue) → v ≡ record { table = table; terms = ts; given = gs } → v ≡ classes_by table ts fs
given_all table ts fs gs is v made =
    made ∙ ap (λ (hs : List GivenFact). let w : ClassesValue = record { table = table; terms = ts; given = hs } in w) is

-- what formulas give is given of two terms of one sort
given_fine : (v : ClassesValue) → IsWhole (trees_in v.table) v.terms → (n : ℕ) (fs : List Formula) →
    AreFormulasWithin (length (trees_in v.table)) (all_numbered fs) →
    AreFormsSorted (sorts_in v.table) (assertions_in (sorts_in v.table) (trees_in v.table) (all_numbered fs)) →
    (k : ℕ) (g : GivenFact) → slice_get (given_from n fs) k ≡ Some g → IsOfTwoTerms v g
given_fine v whole n [] within sorted k g e = absurd cc
given_fine v whole n (tree.Yes ∷ fs) within sorted k g e = given_fine v whole (suc n) fs within.1 sorted.1 k g e
given_fine v whole n (tree.No ∷ fs) within sorted k g e = given_fine v whole (suc n) fs within.1 sorted.1 k g e
given_fine v whole n (tree.Eq t u ∷ fs) within sorted zero g e =
    subst (IsOfTwoTerms v) (same_Some (equation_under n t u) g e)
    (term_of v whole t within.0.0, term_of v whole u within.0.1, sym sorted.0.1.1)
given_fine v whole n (tree.Eq t u ∷ fs) within sorted (suc k) g e = given_fine v whole (suc n) fs within.1 sorted.1 k g e
given_fine v whole n (tree.Ne t u ∷ fs) within sorted zero g e =
    subst (IsOfTwoTerms v) (same_Some (contrary_under n t u) g e)
    (term_of v whole t within.0.0, term_of v whole u within.0.1, sym sorted.0.1.1)
given_fine v whole n (tree.Ne t u ∷ fs) within sorted (suc k) g e = given_fine v whole (suc n) fs within.1 sorted.1 k g e
given_fine v whole n (tree.Le t u ∷ fs) within sorted k g e = given_fine v whole (suc n) fs within.1 sorted.1 k g e
given_fine v whole n (tree.Lt t u ∷ fs) within sorted k g e = given_fine v whole (suc n) fs within.1 sorted.1 k g e
given_fine v whole n (tree.And' a p b q ∷ fs) within sorted k g e = given_fine v whole (suc n) fs within.1 sorted.1 k g e
given_fine v whole n (tree.Or' a p b q ∷ fs) within sorted k g e = given_fine v whole (suc n) fs within.1 sorted.1 k g e

pub given_of_terms : (table : TableValue) (ts : List TermId) → IsWhole (trees_in table) ts → (fs : List Formula) →
    AreFormulasWithin (length (trees_in table)) (all_numbered fs) →
    AreFormsSorted (sorts_in table) (assertions_in (sorts_in table) (trees_in table) (all_numbered fs)) → (gs : List GivenFact) →
    gs ≡ given_from 0 fs → AreOfTwoTerms (record { table = table; terms = ts; given = gs })
given_of_terms table ts whole fs within sorted gs is =
    let v : ClassesValue = record { table = table; terms = ts; given = gs } in
    record {
      each = λ k g e. given_fine v whole 0 fs within sorted k g (subst (λ (hs : List GivenFact). slice_get hs k ≡ Some g) is e);
    }

module _ (table : TableValue) where
  abbrev asserted : ℕ → List Formula → List Assertion
  asserted n fs = map (assertion_given table) (given_from n fs)

  abbrev facts_of : List Formula → List Assertion
  facts_of fs = assertions_in (sorts_in table) (trees_in table) (all_numbered fs)

  -- what is neither an equation nor a contrary gives nothing
  equations_alike : (n : ℕ) (fs : List Formula) (t u : Tree) →
      list_any (λ f. says_equal (equal_sides f) t u) (asserted n fs) ≡ list_any (λ f. says_equal (equal_sides f) t u) (facts_of fs)
  equations_alike n [] t u = refl
  equations_alike n (tree.Yes ∷ fs) t u = equations_alike (suc n) fs t u
  equations_alike n (tree.No ∷ fs) t u = equations_alike (suc n) fs t u
  equations_alike n (tree.Eq v w ∷ fs) t u =
      ap (λ (b : Bool). (same_tree (tree_at (trees_in table) v.0) t && same_tree (tree_at (trees_in table) w.0) u) || b)
      (equations_alike (suc n) fs t u)
  equations_alike n (tree.Ne v w ∷ fs) t u = equations_alike (suc n) fs t u
  equations_alike n (tree.Le v w ∷ fs) t u = equations_alike (suc n) fs t u
  equations_alike n (tree.Lt v w ∷ fs) t u = equations_alike (suc n) fs t u
  equations_alike n (tree.And' a p b q ∷ fs) t u = equations_alike (suc n) fs t u
  equations_alike n (tree.Or' a p b q ∷ fs) t u = equations_alike (suc n) fs t u

  contraries_alike : (n : ℕ) (fs : List Formula) (t u : Tree) →
      list_any (λ f. says_equal (unequal_sides f) t u) (asserted n fs) ≡ list_any (λ f. says_equal (unequal_sides f) t u) (facts_of fs)
  contraries_alike n [] t u = refl
  contraries_alike n (tree.Yes ∷ fs) t u = contraries_alike (suc n) fs t u
  contraries_alike n (tree.No ∷ fs) t u = contraries_alike (suc n) fs t u
  contraries_alike n (tree.Eq v w ∷ fs) t u = contraries_alike (suc n) fs t u
  contraries_alike n (tree.Ne v w ∷ fs) t u =
      ap (λ (b : Bool). (same_tree (tree_at (trees_in table) v.0) t && same_tree (tree_at (trees_in table) w.0) u) || b)
      (contraries_alike (suc n) fs t u)
  contraries_alike n (tree.Le v w ∷ fs) t u = contraries_alike (suc n) fs t u
  contraries_alike n (tree.Lt v w ∷ fs) t u = contraries_alike (suc n) fs t u
  contraries_alike n (tree.And' a p b q ∷ fs) t u = contraries_alike (suc n) fs t u
  contraries_alike n (tree.Or' a p b q ∷ fs) t u = contraries_alike (suc n) fs t u

-- what the classes of the facts are made of
abbrev pub setting_seen : TableValue → List Formula → Setting
setting_seen table fs = record { sorts = sorts_in table; terms = trees_in table; given = facts_of table fs }

module _ (table : TableValue) (ts : List TermId) (fs : List Formula) (whole : IsWhole (trees_in table) ts) where
  given_here : GivesMore (setting_of (classes_by table ts fs)) (setting_seen table fs)
  given_here = record {
    sorts = refl;
    terms = whole_trees (trees_in table) ts whole;
    equal = λ t u h. sym (equations_alike table 0 fs t u) ∙ h;
    unequal = λ t u h. sym (contraries_alike table 0 fs t u) ∙ h;
  }

  given_there : GivesMore (setting_seen table fs) (setting_of (classes_by table ts fs))
  given_there = record {
    sorts = refl;
    terms = sym (whole_trees (trees_in table) ts whole);
    equal = λ t u h. equations_alike table 0 fs t u ∙ h;
    unequal = λ t u h. contraries_alike table 0 fs t u ∙ h;
  }

  pub equal_seen : are_equal (setting_of (classes_by table ts fs)) ≡ are_equal (setting_seen table fs)
  equal_seen = equal_alike (setting_of (classes_by table ts fs)) (setting_seen table fs) given_here given_there

  pub apart_seen : are_apart (setting_of (classes_by table ts fs)) (are_equal (setting_of (classes_by table ts fs)))
      ≡ are_apart (setting_seen table fs) (are_equal (setting_seen table fs))
  apart_seen = apart_alike (setting_of (classes_by table ts fs)) (setting_seen table fs) given_here given_there

  -- what the classes say is what is seen on the branch of the facts
  pub seen_by_classes : (c : ClassesValue) → c ≡ classes_by table ts fs →
      seen_in (sorts_in table) (trees_in table) (trees_in table) fs (are_equal (setting_of c))
      (are_apart (setting_of c) (are_equal (setting_of c)))
      ≡ branch_of table fs
  seen_by_classes c is =
      let seen = seen_in (sorts_in table) (trees_in table) (trees_in table) fs in
      let here = setting_of (classes_by table ts fs) in
      ap (λ (v : ClassesValue). seen (are_equal (setting_of v)) (are_apart (setting_of v) (are_equal (setting_of v)))) is
      ∙ ap (λ (e : Pairs). seen e (are_apart here (are_equal here))) equal_seen
      ∙ ap (seen (are_equal (setting_seen table fs))) apart_seen
