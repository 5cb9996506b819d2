-- What a sound log says is in each closed set of pairs.
use Rattle.sm_cc.proofs.Imports.{◌≡◌, ◌⊎◌, ℕ, zero, suc, ℤ, ◌+◌, ◌<◌, ◌≤◌, ◌==◌, Bool, true, ◌&&◌, ◌||◌, not, Some, None, Option, List, [], ◌∷◌, length, slice_get, refl, sym, ap, subst, ◌∙◌, ⊎_elim, arith, false≢true, eqb-true, eq-eqb, and_parts, and_from, or_left, or_right, or_cases, int_eq_equiv, slice_get_within, same_Some, list_any, range_with_len, int_eq, Shape, if_there, Board, PlacePairs, rows_pass, one_head, shapes_pass, places_differ, places_apart, equal_places, row_brings, ArePlacesClosed, Placed, SayEqual, Derives, Follows, known_at, Before, AllFollow, Rule, Refl, Sym, Subst, Alike, Cong, Why, By, IsSound, are_together, board_of, placed_of, get_below}
use Rattle.sm_cc.specs.Rows.{is_listed, Row, Element}
use Rattle.sm_cc.specs.Log.{Known, Equal, Unequal, Trans, Apart, Hit, Miss, Given, Entry}
use Rattle.sm_cc.specs.Closures.{Closure}
use Rattle.sm_cc.proofs.ClosuresLemmas.{roots_of}
use Rattle.sm_cc.proofs.LogLemmas.{known_within}

-- a fact is so by a set of pairs
abbrev pub IsSo : Board → PlacePairs → Known → Type 0
IsSo b equal (Equal i j) = equal i j ≡ true
IsSo b equal (Unequal i j) = places_apart b equal i j ≡ true

-- some number from one on passes a test
any_from : (p : ℕ → Bool) (a n m : ℕ) → a ≤ m → m < a + n → p m ≡ true → list_any p (range_with_len a n) ≡ true
any_from p a zero m low high h = absurd (omega arith)
any_from p a (suc n) m low high h =
    ⊎_elim (λ (e : a ≡ m). or_left (p a) (list_any p (range_with_len (a + 1) n)) (subst (λ (k : ℕ). p k ≡ true) (sym e) h))
    (λ (more : a < m). or_right (p a) (list_any p (range_with_len (a + 1) n)) (any_from p (a + 1) n m (omega arith) (omega arith) h))
    (at_or_after a m low)
  where
    at_or_after : (x y : ℕ) → x ≤ y → (x ≡ y) ⊎ (x < y)
    at_or_after x y l = grind arith

pub any_in : (p : ℕ → Bool) (n m : ℕ) → m < n → p m ≡ true → list_any p (range_with_len 0 n) ≡ true
any_in p n m within h = any_from p 0 n m (omega arith) (omega arith) h

-- the number that passes
out_from : (p : ℕ → Bool) (a n : ℕ) → list_any p (range_with_len a n) ≡ true → (m : ℕ) × (m < a + n) × (p m ≡ true)
out_from p a zero h = absurd (false≢true h)
out_from p a (suc n) h =
    ⊎_elim (λ (e : p a ≡ true). (a, omega arith, e))
    (λ (e : list_any p (range_with_len (a + 1) n) ≡ true).
    let rest = out_from p (a + 1) n e in (rest.0, omega (arith, rest.1), rest.2))
    (or_cases (p a) (list_any p (range_with_len (a + 1) n)) h)

pub out_in : (p : ℕ → Bool) (n : ℕ) → list_any p (range_with_len 0 n) ≡ true → (m : ℕ) × (m < n) × (p m ≡ true)
out_in p n h = let x = out_from p 0 n h in (x.0, omega (arith, x.1), x.2)

-- places that differ and equal two others
pub record Parts (b : Board) (equal : PlacePairs) (i j : ℕ) : Type 0 where
  pub left : ℕ
  pub right : ℕ
  pub left_there : left < length b.rows
  pub right_there : right < length b.rows
  pub first : equal left i ≡ true
  pub second : equal right j ≡ true
  pub differ : places_differ b left right ≡ true

pub parts_of : (b : Board) (equal : PlacePairs) (i j : ℕ) → places_apart b equal i j ≡ true → Parts b equal i j
parts_of b equal i j h =
    let n = length b.rows in
    let inner : ℕ → Bool = λ (p : ℕ). list_any (λ (q : ℕ). equal q j && places_differ b p q) (range_with_len 0 n) in
    let p = out_in (λ (p : ℕ). equal p i && inner p) n h in
    let both = and_parts (equal p.0 i) (inner p.0) p.2 in
    let q = out_in (λ (q : ℕ). equal q j && places_differ b p.0 q) n both.1 in
    let two = and_parts (equal q.0 j) (places_differ b p.0 q.0) q.2 in
    record {
      left = p.0;
      right = q.0;
      left_there = p.1;
      right_there = q.1;
      first = both.0;
      second = two.0;
      differ = two.1;
    }

pub apart_from : (b : Board) (equal : PlacePairs) (i j : ℕ) → Parts b equal i j → places_apart b equal i j ≡ true
apart_from b equal i j h =
    let n = length b.rows in
    any_in (λ (p : ℕ). equal p i && list_any (λ (q : ℕ). equal q j && places_differ b p q) (range_with_len 0 n)) n h.left h.left_there
    (and_from (equal h.left i) (list_any (λ (q : ℕ). equal q j && places_differ b h.left q) (range_with_len 0 n)) h.first
    (any_in (λ (q : ℕ). equal q j && places_differ b h.left q) n h.right h.right_there
    (and_from (equal h.right j) (places_differ b h.left h.right) h.second h.differ)))

-- a pair that is there is listed
pub listed_at : (pairs : List (ℕ × ℕ)) (n i j : ℕ) → slice_get pairs n ≡ Some (i, j) → is_listed pairs i j ≡ true
listed_at [] n i j h = absurd (let k : None ≡ Some (i, j) = h in cc)
listed_at (p ∷ pairs) zero i j h =
    let e : p ≡ (i, j) = same_Some p (i, j) h in
    or_left ((p.0 == i) && (p.1 == j)) (is_listed pairs i j)
    (and_from (p.0 == i) (p.1 == j) (eq-eqb p.0 i (ap (λ (q : ℕ × ℕ). q.0) e)) (eq-eqb p.1 j (ap (λ (q : ℕ × ℕ). q.1) e)))
listed_at (p ∷ pairs) (suc n) i j h = or_right ((p.0 == i) && (p.1 == j)) (is_listed pairs i j) (listed_at pairs n i j h)

-- forms that differ do so the other way round
abbrev shifted : Row → Row → Bool
shifted r s = shapes_pass r s (λ (y z : ℤ). not (int_eq y z))

abbrev shapes_of : Option Shape → Option Shape → Bool
shapes_of o p =
    if_there o (λ (f : Shape). if_there p (λ (g : Shape). (f.parts == g.parts) && not (int_eq f.constant g.constant)))

shapes_turned : (o p : Option Shape) → shapes_of o p ≡ true → shapes_of p o ≡ true
shapes_turned None p h = absurd (false≢true h)
shapes_turned (Some f) None h = absurd (false≢true h)
shapes_turned (Some f) (Some g) h =
    let both = and_parts (f.parts == g.parts) (not (int_eq f.constant g.constant)) h in
    and_from (g.parts == f.parts) (not (int_eq g.constant f.constant)) (eq-eqb g.parts f.parts (sym (eqb-true f.parts g.parts both.0)))
    (ap not (int_eq_equiv.symm g.constant f.constant) ∙ both.1)

rows_turned : (o p : Option Row) → if_there o (λ r. if_there p (λ s. shifted r s)) ≡ true → if_there p (λ r. if_there o (λ s. shifted r
    s)) ≡ true
rows_turned None p h = absurd (false≢true h)
rows_turned (Some r) None h = absurd (false≢true h)
rows_turned (Some r) (Some s) h = shapes_turned r.shape s.shape h

-- places that differ do so the other way round
pub differ_turned : (b : Board) (i j : ℕ) → places_differ b i j ≡ true → places_differ b j i ≡ true
differ_turned b i j h =
    let forms = rows_pass b.rows i j shifted in
    let others = rows_pass b.rows j i shifted in
    let one = is_listed b.unequal i j in
    let two = is_listed b.unequal j i in
    ⊎_elim (λ (e : one ≡ true). or_right two (one || others) (or_left one others e))
    (λ (e : (two || forms) ≡ true).
    ⊎_elim (λ (f : two ≡ true). or_left two (one || others) f)
    (λ (f : forms ≡ true). or_right two (one || others) (or_right one others (rows_turned (slice_get b.rows i) (slice_get b.rows j) f)))
    (or_cases two forms e))
    (or_cases one (two || forms) h)

-- rows that pass a test are there
rows_in : (rows : List Row) (i j : ℕ) (test : Row → Row → Bool) (o p : Option Row) → slice_get rows i ≡ o → slice_get rows j ≡ p →
    if_there o (λ r. if_there p (λ s. test r s)) ≡ true → (i < length rows) × (j < length rows)
rows_in rows i j test None p first second h = absurd (false≢true h)
rows_in rows i j test (Some r) None first second h = absurd (false≢true h)
rows_in rows i j test (Some r) (Some s) first second h = (slice_get_within rows i r first, slice_get_within rows j s second)

pub rows_there : (rows : List Row) (i j : ℕ) (test : Row → Row → Bool) → rows_pass rows i j test ≡ true → (i < length rows) × (j <
    length rows)
rows_there rows i j test h = rows_in rows i j test (slice_get rows i) (slice_get rows j) refl refl h

-- rows that are there and pass a test
pub pass_at : (rows : List Row) (i j : ℕ) (r s : Row) (test : Row → Row → Bool) → slice_get rows i ≡ Some r → slice_get rows j ≡ Some s →
    test r s ≡ true → rows_pass rows i j test ≡ true
pass_at rows i j r s test first second h =
    ap (λ (o : Option Row). if_there o (λ x. if_there (slice_get rows j) (λ y. test x y))) first ∙
    ap (λ (p : Option Row). if_there p (λ y. test r y)) second ∙ h

-- facts that say that places are equal one by one
equal_said : (b : Board) (equal : PlacePairs) (has : ℕ → Known → Type 0) → ((n : ℕ) (k : Known) → has n k → IsSo b equal k) →
    (ns is js : List ℕ) → SayEqual has ns is js → equal_places equal is js ≡ true
equal_said b equal has so [] [] [] h = refl
equal_said b equal has so [] [] (j ∷ js) h = absurd h
equal_said b equal has so [] (i ∷ is) js h = absurd h
equal_said b equal has so (n ∷ ns) [] js h = absurd h
equal_said b equal has so (n ∷ ns) (i ∷ is) [] h = absurd h
equal_said b equal has so (n ∷ ns) (i ∷ is) (j ∷ js) h =
    and_from (equal i j) (equal_places equal is js) (so n (Equal i j) h.0) (equal_said b equal has so ns is js h.1)

-- the parts of what the rules bring
abbrev alike : Board → ℕ → ℕ → Bool
alike b i j = rows_pass b.rows i j (λ r s. shapes_pass r s int_eq)

abbrev headed : Board → PlacePairs → ℕ → ℕ → Bool
headed b equal i j = rows_pass b.rows i j (λ r s. one_head r s && equal_places equal r.arguments.items s.arguments.items)

abbrev hit : PlacePairs → ℕ → Row → Bool
hit equal j r = if_there r.element (λ (e : Element). equal e.index e.other && (j == e.written))

abbrev hits : Board → PlacePairs → ℕ → ℕ → Bool
hits b equal i j = rows_pass b.rows i j (λ r s. hit equal j r)

abbrev missed : Board → PlacePairs → ℕ → Row → Bool
missed b equal j r = if_there r.element (λ (e : Element). places_apart b equal e.index e.other && (j == e.before))

abbrev misses : Board → PlacePairs → ℕ → ℕ → Bool
misses b equal i j = rows_pass b.rows i j (λ r s. missed b equal j r)

pub brings_listed : (b : Board) (equal : PlacePairs) (i j : ℕ) → is_listed b.equal i j ≡ true → row_brings b equal i j ≡ true
brings_listed b equal i j h =
    or_left (is_listed b.equal i j) (alike b i j || (headed b equal i j || (hits b equal i j || misses b equal i j))) h

brings_alike : (b : Board) (equal : PlacePairs) (i j : ℕ) → alike b i j ≡ true → row_brings b equal i j ≡ true
brings_alike b equal i j h =
    or_right (is_listed b.equal i j) (alike b i j || (headed b equal i j || (hits b equal i j || misses b equal i j)))
    (or_left (alike b i j) (headed b equal i j || (hits b equal i j || misses b equal i j)) h)

brings_headed : (b : Board) (equal : PlacePairs) (i j : ℕ) → headed b equal i j ≡ true → row_brings b equal i j ≡ true
brings_headed b equal i j h =
    or_right (is_listed b.equal i j) (alike b i j || (headed b equal i j || (hits b equal i j || misses b equal i j)))
    (or_right (alike b i j) (headed b equal i j || (hits b equal i j || misses b equal i j))
    (or_left (headed b equal i j) (hits b equal i j || misses b equal i j) h))

brings_hit : (b : Board) (equal : PlacePairs) (i j : ℕ) → hits b equal i j ≡ true → row_brings b equal i j ≡ true
brings_hit b equal i j h =
    or_right (is_listed b.equal i j) (alike b i j || (headed b equal i j || (hits b equal i j || misses b equal i j)))
    (or_right (alike b i j) (headed b equal i j || (hits b equal i j || misses b equal i j))
    (or_right (headed b equal i j) (hits b equal i j || misses b equal i j) (or_left (hits b equal i j) (misses b equal i j) h)))

brings_missed : (b : Board) (equal : PlacePairs) (i j : ℕ) → misses b equal i j ≡ true → row_brings b equal i j ≡ true
brings_missed b equal i j h =
    or_right (is_listed b.equal i j) (alike b i j || (headed b equal i j || (hits b equal i j || misses b equal i j)))
    (or_right (alike b i j) (headed b equal i j || (hits b equal i j || misses b equal i j))
    (or_right (headed b equal i j) (hits b equal i j || misses b equal i j) (or_right (hits b equal i j) (misses b equal i j) h)))

-- there is a row within the rows
row_there : (rows : List Row) (j : ℕ) → j < length rows → (s : Row) × (slice_get rows j ≡ Some s)
row_there rows j h = get_below rows j h

-- what a rule gives is so, where what it takes is
derives_so : (b : Board) (equal : PlacePairs) → ArePlacesClosed b equal → (has : ℕ → Known → Type 0) →
    ((n : ℕ) (k : Known) → has n k → IsSo b equal k) → (r : Rule) (k : Known) → Derives b.rows has r k → IsSo b equal k
derives_so b equal closed has so Refl (Equal i j) h = subst (λ (x : ℕ). equal i x ≡ true) h.0 (closed.each i h.1)
derives_so b equal closed has so Refl (Unequal i j) h = absurd h
derives_so b equal closed has so (Sym n) (Equal i j) h = closed.turned j i (so n (Equal j i) h)
derives_so b equal closed has so (Sym n) (Unequal i j) h =
    let p = parts_of b equal j i (so n (Unequal j i) h) in
    apart_from b equal i j
    (record {
      left = p.right;
      right = p.left;
      left_there = p.right_there;
      right_there = p.left_there;
      first = p.second;
      second = p.first;
      differ = differ_turned b p.left p.right p.differ;
    })
derives_so b equal closed has so (Trans m n) (Equal i j) h = closed.joined i h.0 j (so m (Equal i h.0) h.1) (so n (Equal h.0 j) h.2)
derives_so b equal closed has so (Trans m n) (Unequal i j) h = absurd h
derives_so b equal closed has so (Subst m n) (Equal i j) h = absurd h
derives_so b equal closed has so (Subst m n) (Unequal i j) h =
    let p = parts_of b equal h.0 j (so m (Unequal h.0 j) h.1) in
    apart_from b equal i j
    (record {
      left = p.left;
      right = p.right;
      left_there = p.left_there;
      right_there = p.right_there;
      first = closed.joined p.left h.0 i p.first (so n (Equal h.0 i) h.2);
      second = p.second;
      differ = p.differ;
    })
derives_so b equal closed has so Alike (Equal i j) h =
    let there = rows_there b.rows i j (λ r s. shapes_pass r s int_eq) h in
    closed.brought i j there.0 there.1 (brings_alike b equal i j h)
derives_so b equal closed has so Alike (Unequal i j) h = absurd h
derives_so b equal closed has so Apart (Equal i j) h = absurd h
derives_so b equal closed has so Apart (Unequal i j) h =
    let there = rows_there b.rows i j shifted h in
    apart_from b equal i j
    (record {
      left = i;
      right = j;
      left_there = there.0;
      right_there = there.1;
      first = closed.each i there.0;
      second = closed.each j there.1;
      differ =
          or_right (is_listed b.unequal i j) (is_listed b.unequal j i || rows_pass b.rows i j shifted)
          (or_right (is_listed b.unequal j i) (rows_pass b.rows i j shifted) h);
    })
derives_so b equal closed has so (Cong ns) (Equal i j) h =
    let pass =
    pass_at b.rows i j h.0 h.1 (λ r s. one_head r s && equal_places equal r.arguments.items s.arguments.items) h.2 h.3
    (and_from (one_head h.0 h.1) (equal_places equal h.0.arguments.items h.1.arguments.items) h.4
    (equal_said b equal has so ns.items h.0.arguments.items h.1.arguments.items h.5)) in
    closed.brought i j (slice_get_within b.rows i h.0 h.2) (slice_get_within b.rows j h.1 h.3) (brings_headed b equal i j pass)
derives_so b equal closed has so (Cong ns) (Unequal i j) h = absurd h
derives_so b equal closed has so (Hit n) (Equal i j) h =
    let e = h.0 in
    let row = h.1 in
    let other = row_there b.rows j h.2 in
    let test : hit equal j row.0 ≡ true =
    ap (λ (o : Option Element). if_there o (λ (x : Element). equal x.index x.other && (j == x.written))) row.2 ∙
    and_from (equal e.index e.other) (j == e.written) (so n (Equal e.index e.other) h.3) (eq-eqb j e.written h.4) in
    closed.brought i j (slice_get_within b.rows i row.0 row.1) h.2
    (brings_hit b equal i j (pass_at b.rows i j row.0 other.0 (λ r s. hit equal j r) row.1 other.1 test))
derives_so b equal closed has so (Hit n) (Unequal i j) h = absurd h
derives_so b equal closed has so (Miss n) (Equal i j) h =
    let e = h.0 in
    let row = h.1 in
    let other = row_there b.rows j h.2 in
    let test : missed b equal j row.0 ≡ true =
    ap (λ (o : Option Element). if_there o (λ (x : Element). places_apart b equal x.index x.other && (j == x.before))) row.2 ∙
    and_from (places_apart b equal e.index e.other) (j == e.before) (so n (Unequal e.index e.other) h.3) (eq-eqb j e.before h.4) in
    closed.brought i j (slice_get_within b.rows i row.0 row.1) h.2
    (brings_missed b equal i j (pass_at b.rows i j row.0 other.0 (λ r s. missed b equal j r) row.1 other.1 test))
derives_so b equal closed has so (Miss n) (Unequal i j) h = absurd h

-- what follows by a reason is so, where what it takes is
follows_so : (v : Placed) (equal : PlacePairs) → ArePlacesClosed v.board equal → (has : ℕ → Known → Type 0) →
    ((n : ℕ) (k : Known) → has n k → IsSo v.board equal k) → (w : Why) (k : Known) → Follows v has w k → IsSo v.board equal k
follows_so v equal closed has so (Given fact) (Equal i j) h =
    closed.brought i j h.1.0 h.1.1 (brings_listed v.board equal i j (listed_at v.board.equal h.0.0 i j h.0.1))
follows_so v equal closed has so (Given fact) (Unequal i j) h =
    apart_from v.board equal i j
    (record {
      left = i;
      right = j;
      left_there = h.1.0;
      right_there = h.1.1;
      first = closed.each i h.1.0;
      second = closed.each j h.1.1;
      differ =
          or_left (is_listed v.board.unequal i j) (is_listed v.board.unequal j i || rows_pass v.board.rows i j shifted)
          (listed_at v.board.unequal h.0.0 i j h.0.1);
    })
follows_so v equal closed has so (By r) k h = derives_so v.board equal closed has so r k h

-- the entry that says a fact
entry_at : (entries : List Entry) (n : ℕ) (k : Known) → known_at entries n ≡ Some k → (e : Entry) × (slice_get entries n ≡ Some e) ×
    (e.known ≡ k)
entry_at [] n k h = absurd (let p : None ≡ Some k = h in cc)
entry_at (e ∷ entries) zero k h = (e, refl, same_Some e.known k h)
entry_at (e ∷ entries) (suc n) k h = entry_at entries n k h

-- where entries follow from those before them, what the first ones say is so by closed pairs
log_so : (v : Placed) (entries : List Entry) (equal : PlacePairs) → ArePlacesClosed v.board equal → AllFollow v entries → (m n : ℕ) →
    n < m → (k : Known) → known_at entries n ≡ Some k → IsSo v.board equal k
log_so v entries equal closed all zero n low k h = absurd (omega arith)
log_so v entries equal closed all (suc m) n low k h =
    let e = entry_at entries n k h in
    subst (IsSo v.board equal) e.2
    (follows_so v equal closed (Before entries n)
    (λ (i : ℕ) (x : Known) (b : Before entries n i x). log_so v entries equal closed all m i (omega (arith, low, b.0)) x b.1) e.0.why
    e.0.known
    (all n e.0 e.1))

-- what a sound log says is so by closed pairs
pub noted_so : (c : Closure) (equal : PlacePairs) → IsSound c → ArePlacesClosed (board_of c) equal → (n : ℕ) (k : Known) →
    known_at c.entries.items n ≡ Some k → IsSo (board_of c) equal k
noted_so c equal sound closed n k h =
    log_so (placed_of c) c.entries.items equal closed sound.follow (length c.entries.items) n (known_within c.entries.items n k h) k h

-- places with one label are equal in each closed set
pub together_so : (c : Closure) (equal : PlacePairs) → IsSound c → ArePlacesClosed (board_of c) equal → (i j : ℕ) →
    are_together c.roots.items i j ≡ true → equal i j ≡ true
together_so c equal sound closed i j h =
    let x = roots_of c.roots.items i j h in
    let first = sound.rooted i x.first x.at_first in
    let second = sound.rooted j x.second x.at_second in
    let one : equal i x.first.right ≡ true =
    subst (λ (k : ℕ). equal k x.first.right ≡ true) first.0 (noted_so c equal sound closed x.first.entry (Equal x.first.left
    x.first.right) first.1) in
    let two : equal j x.second.right ≡ true =
    subst (λ (k : ℕ). equal k x.second.right ≡ true) second.0 (noted_so c equal sound closed x.second.entry (Equal x.second.left
    x.second.right) second.1) in
    closed.joined i x.first.right j one (closed.turned j x.first.right (subst (λ (k : ℕ). equal j k ≡ true) (sym x.label) two))
