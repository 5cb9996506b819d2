-- What the labels of places behind those of a base tell of the terms at them.
use Rattle.sm_cc.proofs.Imports.{◌≡◌, ◌⊎◌, ℕ, ◌+◌, ◌<◌, Bool, true, not, IsTrue, inl, inr, Some, List, ◌++◌, length, map, slice_get, refl, sym, ap, subst, ◌∙◌, ⊎_elim, arith, filter, length-map, slice_get-map, slice_get-get_or, Tree, trees_in, codes_in, tree_at, AreBefore, TermId, AreApart, AreCodesApart, BaseClasses, Numbering, Scanned, placed_fact, placed_equations, placed_contraries, AreClasses, AreEqualByLabels, IsGivenBefore, IsContraryOf, AddsOnly, Same, board_of, pair_of, placed_of, placed_with, AreBaseClasses, IsLedBy, AreGrown, AreLabels, AreTermLabels, Placed, IsBehind, AreLooked, AreQuiet, ArePositions, place_at, IsFurther, AreRowsFrom, SamePlaces, ClassesValue, setting_of, AreOfTwoTerms, GivenFact}
use Rattle.std.specs.Option.{option_map}
use Rattle.std.proofs.lemmas.Bool.{true≢false}
use Rattle.std.proofs.lemmas.List.{length-append}
use Rattle.sm_cc.specs.Closures.{Equation, Given}
use Rattle.sm_cc.specs.LabelsAt.{label_at}
use Rattle.sm_cc.specs.Positions.{Positions}
use Rattle.sm_cc.specs.Rows.{is_listed, Row}
use Rattle.sm_cc.proofs.BehindLemmas.{labels_so, labels_exact}
use Rattle.sm_cc.proofs.ClassesLemmas.{same_of_places, place_below}
use Rattle.sm_cc.proofs.FreshLemmas.{listed_in, given_still}
use Rattle.sm_cc.proofs.GroundLemmas.{equal_still, unequal_still, classes_over, filtered, chosen, mapped, given_same, placed, fact_stays}
use Rattle.sm_cc.proofs.LabelsLemmas.{inside, stands, term_labels_tell}
use Rattle.sm_cc.proofs.SoundLemmas.{listed_at}

-- where places that have one label are equal, terms that have one are
module _ (v : ClassesValue) (positions : Positions) (places : Placed) (are : AreClasses v positions places)
    (before : AreBefore (length (trees_in v.table)) v.terms) where
  abbrev tree : TermId → Tree
  tree t = tree_at (trees_in v.table) t.0

  -- the label of a term is that of its place
  label_is : (labels list : List ℕ) → length labels ≡ length places.board.rows →
      list ≡ map (λ (t : TermId). label_at labels (place_at positions t.0)) v.terms → (i l : ℕ) (t : TermId) →
      slice_get v.terms i ≡ Some t → slice_get list i ≡ Some l → slice_get labels (place_at positions t.0) ≡ Some l
  label_is labels list count are_list i l t at is =
      let mapped_is = slice_get-map (λ (w : TermId). label_at labels (place_at positions w.0)) v.terms i
      ∙ ap (option_map (λ (w : TermId). label_at labels (place_at positions w.0))) at in
      let below = stands v positions places are before i t at in
      slice_get-get_or labels (place_at positions t.0) (place_at positions t.0) (omega (arith, below, count))
      ∙ sym mapped_is ∙ sym (ap (λ (ls : List ℕ). slice_get ls i) are_list) ∙ is

  -- terms are in one class where their places are
  same_there : (t u : TermId) → t.0 < length (trees_in v.table) → u.0 < length (trees_in v.table) →
      SamePlaces places.board (place_at positions t.0) (place_at positions u.0) → Same (setting_of v) (tree t) (tree u)
  same_there t u h g same =
      (same_of_places v positions places are t u h g true (place_at positions t.0) (place_at positions u.0) refl refl
      (λ (x : IsTrue true). same, λ x. refl)).0 refl

  pub term_labels_equal : (labels list : List ℕ) → length labels ≡ length places.board.rows →
      ((i j l : ℕ) → slice_get labels i ≡ Some l → slice_get labels j ≡ Some l → SamePlaces places.board i j) →
      list ≡ map (λ (t : TermId). label_at labels (place_at positions t.0)) v.terms → AreEqualByLabels v list
  term_labels_equal labels list count equal are_list = record {
    count = ap length are_list ∙ length-map v.terms (λ (t : TermId). label_at labels (place_at positions t.0));
    each = λ i j l t u at_t at_u at_i at_j.
        same_there t u (inside v positions places are before v.terms before i t at_t)
        (inside v positions places are before v.terms before j u at_u)
        (equal (place_at positions t.0) (place_at positions u.0) l (label_is labels list count are_list i l t at_t at_i)
        (label_is labels list count are_list j l u at_u at_j));
  }

-- terms behind those of a base
module _ (v w : ClassesValue) (g : BaseClasses) (n : Numbering) (is : AreBaseClasses v g n) (led : IsLedBy v w) (q : Positions)
    (told : ArePositions (trees_in w.table) (setting_of w).terms q) (fine : AreOfTwoTerms w) where
  abbrev equal : List Given
  equal = placed_equations q w.given

  abbrev unequal : List Given
  unequal = placed_contraries q w.given

  -- what is given that passes a test, and was given before, is given of the base's places
  still_there : (test : GivenFact → Bool) (old : List Given) → old ≡ map (placed_fact g.positions) (filter test v.given) → (f : GivenFact) →
      test f ≡ true → ((f h : GivenFact) → f.are_equal ≡ h.are_equal → test f ≡ test h) → IsGivenBefore v.given f →
      (is_listed (map pair_of old) (place_at q f.left.0) (place_at q f.right.0) ≡ true)
      × (place_at q f.left.0 < length g.closure.rows.items) × (place_at q f.right.0 < length g.closure.rows.items)
  still_there test old made f passes alike before =
      let h = before.1 in
      let same = before.3 in
      let kept = fact_stays v w g n is led q told before.0 h before.2 in
      let left : place_at g.positions h.left.0 ≡ place_at q f.left.0 =
      sym (ap (λ (x : Given). x.left) kept) ∙ ap (λ (t : TermId). place_at q t.0) same.1 in
      let right : place_at g.positions h.right.0 ≡ place_at q f.right.0 =
      sym (ap (λ (x : Given). x.right) kept) ∙ ap (λ (t : TermId). place_at q t.0) same.2 in
      let here = chosen test v.given before.0 h before.2 (alike h f same.0 ∙ passes) in
      let at : slice_get old here.0 ≡ Some (placed_fact g.positions h) =
      ap (λ (gs : List Given). slice_get gs here.0) made
      ∙ slice_get-map (placed_fact g.positions) (filter test v.given) here.0
      ∙ ap (option_map (placed_fact g.positions)) here.1 in
      let pair : slice_get (map pair_of old) here.0 ≡ Some (place_at q f.left.0, place_at q f.right.0) =
      slice_get-map pair_of old here.0 ∙ ap (option_map pair_of) at
      ∙ ap (λ (x : ℕ). Some (x, place_at g.positions h.right.0)) left ∙ ap (λ (y : ℕ). Some (place_at q f.left.0, y)) right in
      let two = is.classes.of_two_terms before.0 h before.2 in (
        listed_at (map pair_of old) here.0 (place_at q f.left.0) (place_at q f.right.0) pair,
        subst (λ (x : ℕ). x < length g.closure.rows.items) left
            (place_below v g.positions (placed_of g.closure) is.classes h.left two.0 (place_at g.positions h.left.0) refl),
        subst (λ (x : ℕ). x < length g.closure.rows.items) right
            (place_below v g.positions (placed_of g.closure) is.classes h.right two.1 (place_at g.positions h.right.0) refl),
      )

  -- the fact of a pair that is listed
  fact_of_pair : (test : GivenFact → Bool) (i j : ℕ) → is_listed (map pair_of (map (placed_fact q) (filter test w.given))) i j ≡ true →
      (k : ℕ) × (f : GivenFact) × (slice_get w.given k ≡ Some f) × (test f ≡ true)
      × (place_at q f.left.0 ≡ i) × (place_at q f.right.0 ≡ j)
  fact_of_pair test i j h =
      let at = listed_in (map pair_of (map (placed_fact q) (filter test w.given))) i j h in
      let x = mapped pair_of (map (placed_fact q) (filter test w.given)) at.0 (i, j) at.1 in
      let y = mapped (placed_fact q) (filter test w.given) at.0 x.0 x.1 in
      let z = filtered test w.given at.0 y.0 y.1 in
      let pair : pair_of (placed_fact q y.0) ≡ (i, j) = ap pair_of y.2 ∙ x.2 in
      (z.0, y.0, z.1, z.2, ap (λ (p : ℕ × ℕ). p.0) pair, ap (λ (p : ℕ × ℕ). p.1) pair)

  -- what is given of the places of the base
  old_equal : g.closure.equal.items ≡ placed_equations g.positions v.given
  old_equal =
      given_same g.closure.equal.items (placed_equations g.positions v.given)
      (ap (λ (p : Placed). p.board.equal) (placed v w g n is led)) (ap (λ (p : Placed). p.equal_facts) (placed v w g n is led))

  old_unequal : g.closure.unequal.items ≡ placed_contraries g.positions v.given
  old_unequal =
      given_same g.closure.unequal.items (placed_contraries g.positions v.given)
      (ap (λ (p : Placed). p.board.unequal) (placed v w g n is led)) (ap (λ (p : Placed). p.unequal_facts) (placed v w g n is led))

  module _ (apart : List (TermId × TermId)) (adds : AddsOnly v.given apart w.given) where
    -- the pairs by their places
    abbrev pairs : List (ℕ × ℕ)
    pairs = map (λ (p : TermId × TermId). (place_at q p.0.0, place_at q p.1.0)) apart

    -- no equation is added
    only_equal : (i j : ℕ) → is_listed (map pair_of equal) i j ≡ true →
        (is_listed (board_of g.closure).equal i j ≡ true) × (i < length g.closure.rows.items) × (j < length g.closure.rows.items)
    only_equal i j h =
        let x = fact_of_pair (λ (f : GivenFact). f.are_equal) i j h in
        let f = x.1 in
        ⊎_elim
        (λ (before : IsGivenBefore v.given f).
        let y = still_there (λ (f : GivenFact). f.are_equal) g.closure.equal.items old_equal f x.3 (λ f h e. e) before in
        subst (λ (m : ℕ).
        (is_listed (board_of g.closure).equal i m ≡ true) × (i < length g.closure.rows.items) × (m < length g.closure.rows.items)) x.5
        (subst (λ (m : ℕ). (is_listed (board_of g.closure).equal m (place_at q f.right.0) ≡ true)
        × (m < length g.closure.rows.items) × (place_at q f.right.0 < length g.closure.rows.items)) x.4 y))
        (λ (other : IsContraryOf apart f). absurd (true≢false (sym x.3 ∙ other.0))) (adds x.0 f x.2)

    -- each contrary that is added is one of the pairs
    only_unequal : (i j : ℕ) → is_listed (map pair_of unequal) i j ≡ true →
        (is_listed (board_of g.closure).unequal i j ≡ true) ⊎ ((k : ℕ) × (slice_get pairs k ≡ Some (i, j)))
    only_unequal i j h =
        let x = fact_of_pair (λ (f : GivenFact). not f.are_equal) i j h in
        let f = x.1 in
        ⊎_elim
        (λ (before : IsGivenBefore v.given f).
        let y = still_there (λ (f : GivenFact). not f.are_equal) g.closure.unequal.items old_unequal f x.3 (λ f h e. ap not e) before in
        inl (subst (λ (m : ℕ). is_listed (board_of g.closure).unequal i m ≡ true) x.5
        (subst (λ (m : ℕ). is_listed (board_of g.closure).unequal m (place_at q f.right.0) ≡ true) x.4 y.0)))
        (λ (other : IsContraryOf apart f).
        let at : slice_get pairs other.1.0 ≡ Some (place_at q f.left.0, place_at q f.right.0) =
        slice_get-map (λ (p : TermId × TermId). (place_at q p.0.0, place_at q p.1.0)) apart other.1.0
        ∙ ap (option_map (λ (p : TermId × TermId). (place_at q p.0.0, place_at q p.1.0))) other.1.1 in
        inr (other.1.0, at ∙ ap (λ (m : ℕ). Some (m, place_at q f.right.0)) x.4 ∙ ap (λ (m : ℕ). Some (i, m)) x.5)) (adds x.0 f x.2)

  -- more rows go behind those of the base
  module _ (trees_apart : AreApart (trees_in w.table)) (codes : AreCodesApart (codes_in w.table)) (m : Numbering) (further : IsFurther n m)
      (more : List Row) (total : length g.closure.rows.items + length more ≡ length w.terms)
      (from : AreRowsFrom w.table (setting_of w).terms m (length g.closure.rows.items) more)
      (before : AreBefore (length (trees_in w.table)) w.terms) (s : Scanned) (looked : AreLooked g more s)
      (count : length s.roots.items ≡ length g.closure.rows.items + length more) (labels list : List ℕ)
      (labels_are : labels ≡ map (λ (e : Equation). e.right) s.roots.items)
      (list_is : list ≡ map (λ (t : TermId). label_at labels (place_at q t.0)) w.terms) where
    abbrev rows : List Row
    rows = g.closure.rows.items

    abbrev all : List Row
    all = rows ++ more

    abbrev places : Placed
    places = placed_with all equal unequal

    grown : AreGrown rows more all
    grown = record {
      copies = rows;
      count = refl;
      kept = λ i r e. (r, e, record { head = refl; arguments = refl; shape = refl; element = refl });
      all = refl;
    }

    classes : AreClasses w q places
    classes =
        classes_over v w g n is led q told trees_apart codes fine m further more all total from grown equal unequal refl refl places refl

    behind : IsBehind g.closure more places.board
    behind = record {
      rows = refl;
      equal = given_still g.closure.equal.items equal (equal_still v w g n is led q told equal refl);
      unequal = given_still g.closure.unequal.items unequal (unequal_still v w g n is led q told unequal refl);
    }

    count_labels : length labels ≡ length all
    count_labels =
        ap length labels_are ∙ length-map s.roots.items (λ (e : Equation). e.right) ∙ count ∙ sym (length-append rows more)

    -- terms that have one label are in one class
    pub equal_told : AreEqualByLabels w list
    equal_told =
        term_labels_equal w q places classes before labels list count_labels
        (subst (λ (ls : List ℕ). (i j l : ℕ) → slice_get ls i ≡ Some l → slice_get ls j ≡ Some l → SamePlaces places.board i j)
        (sym labels_are) (labels_so g more s looked places.board behind)) list_is

    -- the labels tell the classes, where the places are new and quiet
    pub exact_told : (apart : List (TermId × TermId)) → AddsOnly v.given apart w.given → s.are_new ≡ true →
        AreQuiet g.closure more s.roots.items (map (λ (p : TermId × TermId). (place_at q p.0.0, place_at q p.1.0)) apart) →
        AreTermLabels w list
    exact_told apart adds new quiet =
        term_labels_tell w q places classes before labels list
        (subst (AreLabels places.board) (sym labels_are)
        (labels_exact g more s looked places.board behind is.exact is.inside count (looked.new new)
        (map (λ (p : TermId × TermId). (place_at q p.0.0, place_at q p.1.0)) apart) quiet (only_equal apart adds)
        (only_unequal apart adds))) list_is
