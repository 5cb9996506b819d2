-- Where the given pairs, the elements and the pairs of rows are settled, all is.
use Rattle.sm_cc.proofs.Imports.{◌≡◌, ◌⊎◌, ℕ, suc, ◌<◌, ◌==◌, Bool, true, ◌&&◌, ◌||◌, Some, None, Option, List, [], ◌∷◌, length, map, slice_get, refl, sym, subst, ◌∙◌, ⊎_elim, arith, false≢true, eqb-true, eq-eqb, and_parts, and_from, or_left, or_right, or_cases, cases_order, int_eq_equiv, int_eq, Shape, if_there, Board, PlacePairs, rows_pass, one_head, shapes_pass, equal_places, places_apart, IsSound, are_together, board_of, pair_of, IsSettledThere, AreGivenSettled, AreElementsSettled, pair_brings, ArePairSettled, AllPairsSettled, AreSettled, get_below}
use Rattle.sm_cc.specs.Rows.{is_listed, Row, Element}
use Rattle.sm_cc.specs.Closures.{Closure, Equation, Given}
use Rattle.sm_cc.proofs.ClosuresLemmas.{roots_of}
use Rattle.sm_cc.proofs.RoundsLemmas.{together_from}

-- a listed pair was given
listed_out : (list : List Given) (i j : ℕ) → is_listed (map pair_of list) i j ≡ true →
    (n : ℕ) × (n < length list) × ((g : Given) × (slice_get list n ≡ Some g) × (g.left ≡ i) × (g.right ≡ j))
listed_out [] i j h = absurd (false≢true h)
listed_out (g ∷ list) i j h =
    ⊎_elim
    (λ (e : ((g.left == i) && (g.right == j)) ≡ true).
    let both = and_parts (g.left == i) (g.right == j) e in
    (0, omega arith, (g, refl, eqb-true g.left i both.0, eqb-true g.right j both.1)))
    (λ (e : is_listed (map pair_of list) i j ≡ true).
    let rest = listed_out list i j e in (suc rest.0, omega (arith, rest.1), rest.2))
    (or_cases ((g.left == i) && (g.right == j)) (is_listed (map pair_of list) i j) h)

-- forms and arguments are equal the other way round
pub shapes_turned : (o p : Option Shape) → if_there o (λ f. if_there p (λ g. (f.parts == g.parts) && int_eq f.constant g.constant)) ≡ true →
    if_there p (λ f. if_there o (λ g. (f.parts == g.parts) && int_eq f.constant g.constant)) ≡ true
shapes_turned None p h = absurd (false≢true h)
shapes_turned (Some f) None h = absurd (false≢true h)
shapes_turned (Some f) (Some g) h =
    let both = and_parts (f.parts == g.parts) (int_eq f.constant g.constant) h in
    and_from (g.parts == f.parts) (int_eq g.constant f.constant) (eq-eqb g.parts f.parts (sym (eqb-true f.parts g.parts both.0)))
    (int_eq_equiv.symm g.constant f.constant ∙ both.1)

pub heads_turned : (o p : Option ℕ) → if_there o (λ (h : ℕ). if_there p (λ (k : ℕ). h == k)) ≡ true →
    if_there p (λ (h : ℕ). if_there o (λ (k : ℕ). h == k)) ≡ true
heads_turned None p h = absurd (false≢true h)
heads_turned (Some x) None h = absurd (false≢true h)
heads_turned (Some x) (Some y) h = eq-eqb y x (sym (eqb-true x y h))

-- in classes equality is symmetric
together_turned : (roots : List Equation) (i j : ℕ) → are_together roots i j ≡ true → are_together roots j i ≡ true
together_turned roots i j h =
    let x = roots_of roots i j h in together_from roots j i x.second x.first x.at_second x.at_first (sym x.label)

places_turned : (roots : List Equation) (is js : List ℕ) → equal_places (are_together roots) is js ≡ true →
    equal_places (are_together roots) js is ≡ true
places_turned roots [] [] h = refl
places_turned roots [] (j ∷ js) h = absurd (false≢true h)
places_turned roots (i ∷ is) [] h = absurd (false≢true h)
places_turned roots (i ∷ is) (j ∷ js) h =
    let both = and_parts (are_together roots i j) (equal_places (are_together roots) is js) h in
    and_from (are_together roots j i) (equal_places (are_together roots) js is) (together_turned roots i j both.0)
    (places_turned roots is js both.1)

alike_turned : (o p : Option Row) → if_there o (λ r. if_there p (λ s. shapes_pass r s int_eq)) ≡ true →
    if_there p (λ r. if_there o (λ s. shapes_pass r s int_eq)) ≡ true
alike_turned None p h = absurd (false≢true h)
alike_turned (Some r) None h = absurd (false≢true h)
alike_turned (Some r) (Some s) h = shapes_turned r.shape s.shape h

headed_turned : (roots : List Equation) (o p : Option Row) →
    if_there o (λ r. if_there p (λ s. one_head r s && equal_places (are_together roots) r.arguments.items s.arguments.items)) ≡ true →
    if_there p (λ r. if_there o (λ s. one_head r s && equal_places (are_together roots) r.arguments.items s.arguments.items)) ≡ true
headed_turned roots None p h = absurd (false≢true h)
headed_turned roots (Some r) None h = absurd (false≢true h)
headed_turned roots (Some r) (Some s) h =
    let both = and_parts (one_head r s) (equal_places (are_together roots) r.arguments.items s.arguments.items) h in
    and_from (one_head s r) (equal_places (are_together roots) s.arguments.items r.arguments.items) (heads_turned r.head s.head both.0)
    (places_turned roots r.arguments.items s.arguments.items both.1)

-- the two parts of what pairs of rows bring
abbrev alike : Board → ℕ → ℕ → Bool
alike b i j = rows_pass b.rows i j (λ r s. shapes_pass r s int_eq)

abbrev headed : Board → PlacePairs → ℕ → ℕ → Bool
headed b equal i j = rows_pass b.rows i j (λ r s. one_head r s && equal_places equal r.arguments.items s.arguments.items)

pair_turned : (c : Closure) (i j : ℕ) → pair_brings (board_of c) (are_together c.roots.items) i j ≡ true →
    pair_brings (board_of c) (are_together c.roots.items) j i ≡ true
pair_turned c i j h =
    let b = board_of c in
    let equal = are_together c.roots.items in
    ⊎_elim
    (λ (e : alike b i j ≡ true). or_left (alike b j i) (headed b equal j i) (alike_turned (slice_get b.rows i) (slice_get b.rows j) e))
    (λ (e : headed b equal i j ≡ true).
    or_right (alike b j i) (headed b equal j i) (headed_turned c.roots.items (slice_get b.rows i) (slice_get b.rows j) e))
    (or_cases (alike b i j) (headed b equal i j) h)

-- what pairs of rows bring is so, in either order
pair_settled : (c : Closure) → IsSound c → AllPairsSettled c → (i j : ℕ) → i < length c.rows.items → j < length c.rows.items →
    ArePairSettled i j c
pair_settled c sound pairs i j first second h =
    let roots = c.roots.items in
    ⊎_elim
    (λ (same : i ≡ j).
    let r = get_below roots i (omega (arith, first, sound.count)) in
    subst (λ (k : ℕ). are_together roots i k ≡ true) same (together_from roots i i r.0 r.0 r.1 r.1 refl))
    (λ (other : (i < j) ⊎ (j < i)).
    ⊎_elim (λ (less : i < j). together_turned roots j i (pairs j second i less (pair_turned c i j h)))
    (λ (more : j < i). pairs i first j more h) other)
    (cases_order i j)

-- an element that a test passes is there
element_in : (o : Option Row) (p : Option Row) (test : Element → Bool) →
    if_there o (λ (r : Row). if_there p (λ (s : Row). if_there r.element test)) ≡ true →
    (r : Row) × (o ≡ Some r) × ((e : Element) × (r.element ≡ Some e) × (test e ≡ true))
element_in None p test h = absurd (false≢true h)
element_in (Some r) None test h = absurd (false≢true h)
element_in (Some r) (Some s) test h = let x = there r.element h in (r, refl, x)
  where
    there : (o : Option Element) → if_there o test ≡ true → (e : Element) × (o ≡ Some e) × (test e ≡ true)
    there None g = absurd (false≢true g)
    there (Some e) g = (e, refl, g)

pub settled_all : (c : Closure) → IsSound c → AreGivenSettled c → AreElementsSettled c → AllPairsSettled c → AreSettled c
settled_all c sound given elements pairs i first j second h =
    let b = board_of c in
    let equal = are_together c.roots.items in
    let hit : Element → Bool = λ (e : Element). equal e.index e.other && (j == e.written) in
    let miss : Element → Bool = λ (e : Element). places_apart b equal e.index e.other && (j == e.before) in
    let hits = rows_pass b.rows i j (λ (r s : Row). if_there r.element hit) in
    let misses = rows_pass b.rows i j (λ (r s : Row). if_there r.element miss) in
    ⊎_elim
    (λ (e : is_listed b.equal i j ≡ true).
    let x = listed_out c.equal.items i j e in
    let g = x.2.0 in
    let at : IsSettledThere i j c =
    subst (λ (k : ℕ). IsSettledThere i k c) x.2.3 (subst (λ (k : ℕ). IsSettledThere k g.right c) x.2.2 (given x.0 x.1 g x.2.1)) in
    at first second h)
    (λ (e : (alike b i j || (headed b equal i j || (hits || misses))) ≡ true).
    ⊎_elim
    (λ (f : alike b i j ≡ true). pair_settled c sound pairs i j first second (or_left (alike b i j) (headed b equal i j) f))
    (λ (f : (headed b equal i j || (hits || misses)) ≡ true).
    ⊎_elim
    (λ (g : headed b equal i j ≡ true). pair_settled c sound pairs i j first second (or_right (alike b i j) (headed b equal i j) g))
    (λ (g : (hits || misses) ≡ true).
    ⊎_elim
    (λ (k : hits ≡ true).
    let x = element_in (slice_get b.rows i) (slice_get b.rows j) hit k in
    let e = x.2.0 in
    let both = and_parts (equal e.index e.other) (j == e.written) x.2.2 in
    let at : IsSettledThere i j c =
    subst (λ (n : ℕ). IsSettledThere i n c) (sym (eqb-true j e.written both.1)) (elements i first e (x.0, x.1, x.2.1)).0 in
    at first second h)
    (λ (k : misses ≡ true).
    let x = element_in (slice_get b.rows i) (slice_get b.rows j) miss k in
    let e = x.2.0 in
    let both = and_parts (places_apart b equal e.index e.other) (j == e.before) x.2.2 in
    let at : IsSettledThere i j c =
    subst (λ (n : ℕ). IsSettledThere i n c) (sym (eqb-true j e.before both.1)) (elements i first e (x.0, x.1, x.2.1)).1 in
    at first second h) (or_cases hits misses g)) (or_cases (headed b equal i j) (hits || misses) f))
    (or_cases (alike b i j) (headed b equal i j || (hits || misses)) e))
    (or_cases (is_listed b.equal i j) (alike b i j || (headed b equal i j || (hits || misses))) h)
