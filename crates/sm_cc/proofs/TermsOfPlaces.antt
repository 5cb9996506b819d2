-- Where rows stand for terms, two terms are in one class exactly where their places are, and known
-- apart exactly where these are.
use Rattle.sm_cc.proofs.Imports.{◌≡◌, ◌↔◌, ℕ, ◌==◌, ◌<◌, Bool, true, ◌&&◌, List, [], ◌∷◌, map, length, slice_get, Option, Some, None, refl, sym, ap, ◌∙◌, subst, arith, list_any, range_with_len, int_eq, eqb-true, and_parts, slice_get_within, Sorts, Tree, Read, Assertion, same_tree, arguments_of, same_head, same_tree_is, followed, equal_sides, Written, written_in, read_in, compared_forms, is_among, Pairs, Setting, given_equal, differ, are_apart, equal_lists, if_there, reads_written, brings, AreClosed, Same, PlacePairs, Board, rows_pass, one_head, shapes_pass, places_differ, places_apart, equal_places, row_brings, ArePlacesClosed, SamePlaces, ApartPlaces, place_of, element_of, RowsStand, board_for, there_among, one_thing, any_passes_from_place}
use Rattle.sm_cc.specs.Classes.{Apart}
use Rattle.sm_cc.specs.Rows.{is_listed, Row, Element}
use Rattle.sm_cc.proofs.StandingLemmas.{or_map, and_map, both, any_from, term_there, place_found, among_there, row_there, pass, forms_alike, said_of_terms, differ_alike}
use Rattle.sm_cc.proofs.PlacesOfTerms.{apart_of_places, brings_of_places}

module _ (sorts : Sorts) (terms : List Tree) (given : List Assertion) (rows : List Row) (stand : RowsStand sorts terms rows) where
  abbrev setting : Setting
  setting = record { sorts = sorts; terms = terms; given = given }

  abbrev board : Board
  board = board_for setting rows

  abbrev place : Tree → ℕ
  place = place_of terms

  -- a term stands at a place
  abbrev At : ℕ → Tree → Type 0
  At i t = slice_get terms i ≡ Some t

  -- from places to terms: the places of equal terms
  module _ (equal : Pairs) where
    abbrev within : PlacePairs
    within i j = if_there (slice_get terms i) (λ (t : Tree). if_there (slice_get terms j) (λ (u : Tree). equal t u))

    -- a pair is of two terms that are equal
    within_gives : (i j : ℕ) → within i j ≡ true → (v : Tree) × (w : Tree) × At i v × At j w × (equal v w ≡ true)
    within_gives i j h = by (slice_get terms i) refl (slice_get terms j) refl h
      where
        by : (o : Option Tree) → slice_get terms i ≡ o → (p : Option Tree) → slice_get terms j ≡ p →
            if_there o (λ (t : Tree). if_there p (λ (u : Tree). equal t u)) ≡ true →
            (v : Tree) × (w : Tree) × At i v × At j w × (equal v w ≡ true)
        by None e p f h = absurd cc
        by (Some v) e None f h = absurd cc
        by (Some v) e (Some w) f h = (v, w, e, f, h)

    -- the places of two terms that are equal are a pair
    within_has : (i j : ℕ) (v w : Tree) → At i v → At j w → equal v w ≡ true → within i j ≡ true
    within_has i j v w e f h =
        ap (λ (o : Option Tree). if_there o (λ (t : Tree). if_there (slice_get terms j) (λ (u : Tree). equal t u))) e
        ∙ ap (λ (o : Option Tree). if_there o (λ (u : Tree). equal v u)) f ∙ h

    -- the terms of a pair
    within_is : (i j : ℕ) (v w : Tree) → At i v → At j w → within i j ≡ true → equal v w ≡ true
    within_is i j v w e f h =
        sym (ap (λ (o : Option Tree). if_there o (λ (t : Tree). if_there (slice_get terms j) (λ (u : Tree). equal t u))) e
        ∙ ap (λ (o : Option Tree). if_there o (λ (u : Tree). equal v u)) f)
        ∙ h

    -- a pair of the places of terms is of the terms
    within_places : (v w : Tree) → within (place v) (place w) ≡ true → equal v w ≡ true
    within_places v w h =
        let found = within_gives (place v) (place w) h in
        subst (λ (x : Tree). equal x w ≡ true) (place_found terms v found.0 found.2)
        (subst (λ (x : Tree). equal found.0 x ≡ true) (place_found terms w found.1 found.3) found.4)

    -- lists of terms
    lists_of_terms : (ts us : List Tree) → equal_places within (map place ts) (map place us) ≡ true → equal_lists equal ts us ≡ true
    lists_of_terms [] [] h = refl
    lists_of_terms [] (u ∷ us) h = absurd cc
    lists_of_terms (t ∷ ts) [] h = absurd cc
    lists_of_terms (t ∷ ts) (u ∷ us) h = and_map (within (place t) (place u)) (equal t u) (within_places t u) (lists_of_terms ts us) h

    -- terms that are known apart
    apart_of_terms : (t u : Tree) → places_apart board within (place t) (place u) ≡ true → are_apart setting equal t u ≡ true
    apart_of_terms t u h =
        let all = range_with_len 0 (length rows) in
        let first = any_from (λ i. within i (place t) && list_any (λ j. within j (place u) && places_differ board i j) all) all h in
        let i = first.1 in
        let one = and_parts (within i (place t)) (list_any (λ j. within j (place u) && places_differ board i j) all) first.3 in
        let second = any_from (λ j. within j (place u) && places_differ board i j) all one.1 in
        let j = second.1 in
        let two = and_parts (within j (place u)) (places_differ board i j) second.3 in
        let left = within_gives i (place t) one.0 in
        let right = within_gives j (place u) two.0 in
        let p = left.0 in
        let q = right.0 in
        let same_p = subst (λ (x : Tree). equal p x ≡ true) (place_found terms t left.1 left.3) left.4 in
        let same_q = subst (λ (x : Tree). equal q x ≡ true) (place_found terms u right.1 right.3) right.4 in
        any_passes_from_place (λ p. equal p t && list_any (λ q. equal q u && differ setting p q) terms) terms i p left.2
        (both same_p
        (any_passes_from_place (λ q. equal q u && differ setting p q) terms j q right.2
        (both same_q (differ_alike sorts terms given rows stand i j p q left.2 right.2 two.1))))

    -- an element that is read
    element_of_terms : (t : Tree) (test : Written → Tree → Bool) (other : Element → Bool) →
        ((w : Written) (j : Tree) →
        other (record { index = place w.index; written = place w.element; other = place j; before = place (Read w.before j) }) ≡ true →
        test w j ≡ true) →
        if_there (element_of terms t) other ≡ true → reads_written t test ≡ true
    element_of_terms t test other each h = by (read_in t) h
      where
        inner : (o : Option Written) (j : Tree) →
            if_there (followed o
            (λ (w : Written). Some
            (record { index = place w.index; written = place w.element; other = place j; before = place (Read w.before j) }))) other
            ≡ true →
            if_there o (λ (w : Written). test w j) ≡ true
        inner None j h = absurd cc
        inner (Some w) j h = each w j h

        by : (o : Option (Tree × Tree)) →
            if_there (followed o (λ (r : Tree × Tree). followed (written_in r.0) (λ (w : Written). Some (record {
              index = place w.index;
              written = place w.element;
              other = place r.1;
              before = place (Read w.before r.1);
            })))) other ≡ true →
            if_there o (λ (r : Tree × Tree). if_there (written_in r.0) (λ (w : Written). test w r.1)) ≡ true
        by None h = absurd cc
        by (Some r) h = inner (written_in r.0) r.1 h

    -- what the rules bring of places they bring of the terms
    brings_of_terms : (i j : ℕ) (t u : Tree) → At i t → At j u → row_brings board within i j ≡ true → brings setting equal t u ≡ true
    brings_of_terms i j t u e f =
        let one = row_there sorts terms rows stand i t e in
        let other = row_there sorts terms rows stand j u f in
        let r = one.0 in
        let q = other.0 in
        let passes = pass rows i j r q one.1 other.1 in
        let heads = stand.heads i j r q t u one.1 e other.1 f in
        let first = stand.arguments i r t one.1 e in
        let second = stand.arguments j q u other.1 f in
        let lists = λ (h : equal_places within r.arguments.items q.arguments.items ≡ true).
        lists_of_terms (arguments_of t) (arguments_of u)
        (sym (ap (λ (ns : List ℕ). equal_places within ns q.arguments.items) first
        ∙ ap (equal_places within (map place (arguments_of t))) second)
        ∙ h) in
        let is_term : (v : Tree) → (j == place v) ≡ true → same_tree u v ≡ true =
        λ (v : Tree) (h : (j == place v) ≡ true).
        (same_tree_is u v).1 (place_found terms v u (ap (slice_get terms) (sym (eqb-true j (place v) h)) ∙ f)) in
        let element = stand.element i r t one.1 e in
        or_map (is_listed board.equal i j) (given_equal setting t u)
        (said_of_terms sorts terms given rows stand equal_sides given i j t u e f)
        (or_map (rows_pass rows i j (λ r s. shapes_pass r s int_eq)) (compared_forms sorts t u int_eq)
        (λ h. sym (forms_alike sorts terms given rows stand i j t u e f int_eq) ∙ h)
        (or_map (rows_pass rows i j (λ r s. one_head r s && equal_places within r.arguments.items s.arguments.items))
        (same_head t u && equal_lists equal (arguments_of t) (arguments_of u))
        (λ h. and_map (one_head r q) (same_head t u) (λ g. sym heads ∙ g) lists
        (sym (passes (λ r s. one_head r s && equal_places within r.arguments.items s.arguments.items)) ∙ h))
        (or_map (rows_pass rows i j (λ r s. if_there r.element (λ (e : Element). within e.index e.other && (j == e.written))))
        (reads_written t (λ w k. equal w.index k && same_tree u w.element))
        (λ h. element_of_terms t (λ w k. equal w.index k && same_tree u w.element)
        (λ (e : Element). within e.index e.other && (j == e.written))
        (λ w k. and_map (within (place w.index) (place k)) (equal w.index k) (within_places w.index k) (is_term w.element))
        (sym (passes (λ r s. if_there r.element (λ (e : Element). within e.index e.other && (j == e.written)))
        ∙ ap (λ (o : Option Element). if_there o (λ (e : Element). within e.index e.other && (j == e.written))) element)
        ∙ h))
        (λ h. element_of_terms t (λ w k. are_apart setting equal w.index k && same_tree u (Read w.before k))
        (λ (e : Element). places_apart board within e.index e.other && (j == e.before))
        (λ w k. and_map (places_apart board within (place w.index) (place k)) (are_apart setting equal w.index k)
        (apart_of_terms w.index k) (is_term (Read w.before k)))
        (sym (passes (λ r s. if_there r.element (λ (e : Element). places_apart board within e.index e.other && (j == e.before)))
        ∙ ap (λ (o : Option Element). if_there o (λ (e : Element). places_apart board within e.index e.other && (j == e.before))) element)
        ∙ h)))))

    -- a closed set of terms is one of places
    closed_places : AreClosed setting equal → ArePlacesClosed board within
    closed_places closed = record {
      each = λ i h.
          let v = term_there terms i (omega (arith, stand.count, h)) in
          within_has i i v.0 v.0 v.1 v.1 (closed.each v.0 (there_among terms i v.0 v.1));
      turned = λ i j h.
          let found = within_gives i j h in
          within_has j i found.1 found.0 found.3 found.2 (closed.turned found.0 found.1 found.4);
      joined = λ i j k h g.
          let one = within_gives i j h in
          let two = within_gives j k g in
          let middle = one_thing two.0 one.1 (sym two.2 ∙ one.3) in
          within_has i k one.0 two.1 one.2 two.3
          (closed.joined one.0 one.1 two.1 one.4 (subst (λ (x : Tree). equal x two.1 ≡ true) middle two.4));
      brought = λ i j h g b.
          let v = term_there terms i (omega (arith, stand.count, h)) in
          let w = term_there terms j (omega (arith, stand.count, g)) in
          within_has i j v.0 w.0 v.1 w.1
          (closed.brought v.0 w.0 (there_among terms i v.0 v.1) (there_among terms j w.0 w.1) (brings_of_terms i j v.0 w.0 v.1 w.1 b));
    }

  -- a closed set of places is one of terms
  closed_terms : (paired : PlacePairs) → ArePlacesClosed board paired → AreClosed setting (λ (t u : Tree). paired (place t) (place u))
  closed_terms paired closed = record {
    each = λ t h. closed.each (place t) (below t h);
    turned = λ t u. closed.turned (place t) (place u);
    joined = λ t u w. closed.joined (place t) (place u) (place w);
    brought = λ t u h g b.
        closed.brought (place t) (place u) (below t h) (below u g)
        (brings_of_places sorts terms given rows stand (λ (v w : Tree). paired (place v) (place w)) paired (λ v w e. e) t u
        (among_there terms t h) (among_there terms u g) b);
  }
    where
      below : (t : Tree) → is_among terms t ≡ true → place t < length rows
      below t h = let inside = slice_get_within terms (place t) t (among_there terms t h) in omega (arith, stand.count, inside)

  -- two terms are in one class exactly where their places are
  pub same_told : (t u : Tree) → Same setting t u ↔ SamePlaces board (place t) (place u)
  same_told t u = (
    λ same paired closed. same (λ (v w : Tree). paired (place v) (place w)) (closed_terms paired closed),
    λ same equal closed. within_places equal t u (same (within equal) (closed_places equal closed)),
  )

  -- they are known apart exactly where their places are
  pub apart_told : (t u : Tree) → Apart setting t u ↔ ApartPlaces board (place t) (place u)
  apart_told t u = (
    λ apart paired closed.
        apart_of_places sorts terms given rows stand (λ (v w : Tree). paired (place v) (place w)) paired (λ v w e. e) t u
        (apart (λ (v w : Tree). paired (place v) (place w)) (closed_terms paired closed)),
    λ apart equal closed. apart_of_terms equal t u (apart (within equal) (closed_places equal closed)),
  )
