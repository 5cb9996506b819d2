-- What the rules bring of terms they bring of the places at which these stand.
use Rattle.sm_cc.proofs.Imports.{◌≡◌, ℕ, ◌==◌, ◌<◌, Bool, true, ◌&&◌, List, [], ◌∷◌, map, length, slice_get, Option, Some, None, refl, ap, ◌∙◌, arith, list_any, range_with_len, int_eq, and_parts, Decides-eqb, slice_get_within, Sorts, Tree, Read, Assertion, same_tree, arguments_of, same_head, same_tree_is, followed, equal_sides, Written, written_in, read_in, compared_forms, Pairs, Setting, given_equal, differ, are_apart, equal_lists, if_there, reads_written, brings, PlacePairs, Board, rows_pass, one_head, shapes_pass, places_differ, places_apart, equal_places, row_brings, place_of, element_of, RowsStand, board_for, any_passes_from_place}
use Rattle.sm_cc.specs.Rows.{is_listed, Row, Element}
use Rattle.sm_cc.proofs.StandingLemmas.{or_map, and_map, both, any_from, in_range, place_there, row_there, pass, forms_alike, said_of_places, places_differ_alike}

module _ (sorts : Sorts) (terms : List Tree) (given : List Assertion) (rows : List Row) (stand : RowsStand sorts terms rows) where
  abbrev setting : Setting
  setting = record { sorts = sorts; terms = terms; given = given }

  abbrev board : Board
  board = board_for setting rows

  abbrev place : Tree → ℕ
  place = place_of terms

  -- a term stands at a place
  abbrev At : ℕ → Tree → Type 0
  At i t = slice_get terms i ≡ Some t

  -- from terms to places: pairs of places that have the places of each pair of terms
  module _ (equal : Pairs) (paired : PlacePairs) (has : (v w : Tree) → equal v w ≡ true → paired (place v) (place w) ≡ true) where
    -- lists of terms
    lists_of_places : (ts us : List Tree) → equal_lists equal ts us ≡ true → equal_places paired (map place ts) (map place us) ≡ true
    lists_of_places [] [] h = refl
    lists_of_places [] (u ∷ us) h = absurd cc
    lists_of_places (t ∷ ts) [] h = absurd cc
    lists_of_places (t ∷ ts) (u ∷ us) h = and_map (equal t u) (paired (place t) (place u)) (has t u) (lists_of_places ts us) h

    -- terms that are known apart
    pub apart_of_places : (t u : Tree) → are_apart setting equal t u ≡ true → places_apart board paired (place t) (place u) ≡ true
    apart_of_places t u h =
        let first = any_from (λ p. equal p t && list_any (λ q. equal q u && differ setting p q) terms) terms h in
        let p = first.1 in
        let one = and_parts (equal p t) (list_any (λ q. equal q u && differ setting p q) terms) first.3 in
        let second = any_from (λ q. equal q u && differ setting p q) terms one.1 in
        let q = second.1 in
        let two = and_parts (equal q u) (differ setting p q) second.3 in
        let at_p = place_there terms first.0 p first.2 in
        let at_q = place_there terms second.0 q second.2 in
        let n = length rows in
        let below_p : place p < n = (let inside = slice_get_within terms (place p) p at_p in omega (arith, stand.count, inside)) in
        let below_q : place q < n = (let inside = slice_get_within terms (place q) q at_q in omega (arith, stand.count, inside)) in
        let all = range_with_len 0 n in
        any_passes_from_place (λ i. paired i (place t) && list_any (λ j. paired j (place u) && places_differ board i j) all) all (place p) (place p)
        (in_range n (place p) below_p)
        (both (has p t one.0)
        (any_passes_from_place (λ j. paired j (place u) && places_differ board (place p) j) all (place q) (place q) (in_range n (place q) below_q)
        (both (has q u two.0) (places_differ_alike sorts terms given rows stand p q at_p at_q two.1))))

    -- an element that is read
    element_of_places : (t : Tree) (test : Written → Tree → Bool) (other : Element → Bool) →
        ((w : Written) (j : Tree) → test w j ≡ true →
        other (record { index = place w.index; written = place w.element; other = place j; before = place (Read w.before j) }) ≡ true) →
        reads_written t test ≡ true → if_there (element_of terms t) other ≡ true
    element_of_places t test other each h = by (read_in t) h
      where
        inner : (o : Option Written) (j : Tree) → if_there o (λ (w : Written). test w j) ≡ true →
            if_there (followed o
            (λ (w : Written). Some
            (record { index = place w.index; written = place w.element; other = place j; before = place (Read w.before j) }))) other
            ≡ true
        inner None j h = absurd cc
        inner (Some w) j h = each w j h

        by : (o : Option (Tree × Tree)) → if_there o (λ (r : Tree × Tree). if_there (written_in r.0) (λ (w : Written). test w r.1)) ≡ true →
            if_there (followed o (λ (r : Tree × Tree). followed (written_in r.0) (λ (w : Written). Some (record {
              index = place w.index;
              written = place w.element;
              other = place r.1;
              before = place (Read w.before r.1);
            })))) other ≡ true
        by None h = absurd cc
        by (Some r) h = inner (written_in r.0) r.1 h

    -- what the rules bring of terms they bring of the places
    pub brings_of_places : (t u : Tree) → At (place t) t → At (place u) u → brings setting equal t u ≡ true →
        row_brings board paired (place t) (place u) ≡ true
    brings_of_places t u e f =
        let i = place t in
        let j = place u in
        let one = row_there sorts terms rows stand i t e in
        let other = row_there sorts terms rows stand j u f in
        let r = one.0 in
        let q = other.0 in
        let passes = pass rows i j r q one.1 other.1 in
        let heads = stand.heads i j r q t u one.1 e other.1 f in
        let first = stand.arguments i r t one.1 e in
        let second = stand.arguments j q u other.1 f in
        let lists = λ (h : equal_lists equal (arguments_of t) (arguments_of u) ≡ true).
        ap (λ (ns : List ℕ). equal_places paired ns q.arguments.items) first
        ∙ ap (equal_places paired (map place (arguments_of t))) second
        ∙ lists_of_places (arguments_of t) (arguments_of u) h in
        let is_place : (v : Tree) → same_tree u v ≡ true → (j == place v) ≡ true =
        λ (v : Tree) (h : same_tree u v ≡ true). (Decides-eqb j (place v)).1 (ap place ((same_tree_is u v).0 h)) in
        let element = stand.element i r t one.1 e in
        or_map (given_equal setting t u) (is_listed board.equal i j) (said_of_places sorts terms given rows stand equal_sides given t u)
        (or_map (compared_forms sorts t u int_eq) (rows_pass rows i j (λ r s. shapes_pass r s int_eq))
        (λ h. forms_alike sorts terms given rows stand i j t u e f int_eq ∙ h)
        (or_map (same_head t u && equal_lists equal (arguments_of t) (arguments_of u))
        (rows_pass rows i j (λ r s. one_head r s && equal_places paired r.arguments.items s.arguments.items))
        (λ h. passes (λ r s. one_head r s && equal_places paired r.arguments.items s.arguments.items)
        ∙ and_map (same_head t u) (one_head r q) (λ g. heads ∙ g) lists h)
        (or_map (reads_written t (λ w k. equal w.index k && same_tree u w.element))
        (rows_pass rows i j (λ r s. if_there r.element (λ (e : Element). paired e.index e.other && (j == e.written))))
        (λ h. passes (λ r s. if_there r.element (λ (e : Element). paired e.index e.other && (j == e.written)))
        ∙ ap (λ (o : Option Element). if_there o (λ (e : Element). paired e.index e.other && (j == e.written))) element
        ∙ element_of_places t (λ w k. equal w.index k && same_tree u w.element)
        (λ (e : Element). paired e.index e.other && (j == e.written))
        (λ w k. and_map (equal w.index k) (paired (place w.index) (place k)) (has w.index k) (is_place w.element)) h)
        (λ h. passes (λ r s. if_there r.element (λ (e : Element). places_apart board paired e.index e.other && (j == e.before)))
        ∙ ap (λ (o : Option Element). if_there o (λ (e : Element). places_apart board paired e.index e.other && (j == e.before))) element
        ∙ element_of_places t (λ w k. are_apart setting equal w.index k && same_tree u (Read w.before k))
        (λ (e : Element). places_apart board paired e.index e.other && (j == e.before))
        (λ w k. and_map (are_apart setting equal w.index k) (places_apart board paired (place w.index) (place k))
        (apart_of_places w.index k) (is_place (Read w.before k))) h))))
