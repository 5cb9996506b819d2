-- What straight moves leave, and what is drawn for them.
use Rattle.sm_product.proofs.Imports.{◌≡◌, ℕ, suc, ◌<◌, true, if◌then◌else◌, List, [], ◌∷◌, ◌++◌, map, refl, ap, sym, ◌∙◌, subst, arith, map-append, Code, Copy, O, A, B, M, Parts, Sorts, IsWellSorted, Copies, has, with_copy, bit_of, set_of, Step, Abs, rest_after, one_copy, rest_well, passed_ready, members, Done, Steps, Summaries, Forks, Loops, move_of, moved_on, move_in, simple_left, rest_no_hole, fewer_after, MoveSays, move_says, TellsSketch, ProductError, drawn, side_by_side, statements_left, IsFilled, is_straight, after_move, move_before, moves_before}
use Rattle.sm_moves.specs.Moves.{Move}
use Rattle.sm_moves.specs.declared.moves.Move as own
use Rattle.sm_moves.proofs.CopiesLemmas.{forked_at}
use Rattle.sm_sketch.specs.declared.error.ProductError.TheVariants as error
use Rattle.sm_sketch.specs.Sketches.{Sketch}
use Rattle.sm_product.proofs.FuelLemmas.{side_by_side_is}
use Rattle.sm_product.proofs.GrowthLemmas.{IsNoLarger, part_large, itself, through, under_node, under_each}
use Rattle.sm_product.proofs.SmallerLemmas.{IsRest, fewer_in, fewer_of, one_smaller, moved_less, moved_smaller}

-- code of a set's copies as what is left, with as many statements as there are
pub rest_is : (set : Copies) (r : Copy → Code) → IsFilled set r → IsRest set r (statements_left r)
rest_is set r is = record { no_hole = is.no_hole; outside = is.outside; enough = omega arith }

pub rest_more : (set : Copies) (r : Copy → Code) → IsFilled set r → IsRest set r (suc (statements_left r))
rest_more set r is = record { no_hole = is.no_hole; outside = is.outside; enough = omega arith }

pub filled_is : (set : Copies) (r : Copy → Code) (n : ℕ) → IsRest set r n → IsFilled set r
filled_is set r n is = record { no_hole = is.no_hole; outside = is.outside }

-- what the move of a set says
pub says_of : (set : Copies) (r : Copy → Code) (m : Move) → IsFilled set r → m ≡ move_of set r → MoveSays set r m
says_of set r m is e = subst (MoveSays set r) (sym e) (move_says set r is.no_hole is.outside)

-- a straight move takes statements away
straight_fewer : (set : Copies) (r : Copy → Code) (m : Move) → IsFilled set r → is_straight m ≡ true → MoveSays set r m →
    IsFilled set (after_move m r) × (statements_left (after_move m r) < statements_left r)
straight_fewer set r Done is one says = absurd cc
straight_fewer set r (Steps c) is one says =
    let k = rest_after 1 (r c) in
    let fewer = fewer_after (r c) (simple_left (r c) says.1) in (
      filled_is set (with_copy r c k) (statements_left r)
          (one_smaller set r (statements_left r) (rest_more set r is) c k says.0 (rest_no_hole (r c) (is.no_hole c)) fewer),
      fewer_of r c k fewer,
    )
straight_fewer set r (Summaries left) is one says =
    let n = statements_left r in
    let more = rest_more set r is in
    let over = λ (c : Copy) (e : has left c ≡ true). (says.1 c e).1 in (
      filled_is set (moved_on left r) n (moved_smaller set r n more left says.0 over),
      fewer_in left (moved_on left r) r says.0
          (λ (c : Copy) (e : has left c ≡ true). (moved_less set r n more left says.0 over c (has left c) refl).0 e)
          (λ (c : Copy). (moved_less set r n more left says.0 over c (has left c) refl).1),
    )
straight_fewer set r (Forks c) is one says = absurd cc
straight_fewer set r (Loops left) is one says = absurd cc

pub straight_leaves : (set : Copies) (r : Copy → Code) (m : Move) → IsFilled set r → is_straight m ≡ true → m ≡ move_of set r →
    IsFilled set (after_move m r) × (statements_left (after_move m r) < statements_left r)
straight_leaves set r m is one e = straight_fewer set r m is one (says_of set r m is e)

-- sorts stay
pub straight_sorted : (sorts : Sorts) (r : Copy → Code) (m : Move) → ((c : Copy) → IsWellSorted sorts (r c)) → (c : Copy) →
    IsWellSorted sorts (after_move m r c)
straight_sorted sorts r Done well = well
straight_sorted sorts r (Steps k) well =
    one_copy (λ (x y : Code) (d : Copy). IsWellSorted sorts x) r r k (rest_after 1 (r k)) (rest_after 1 (r k))
    (rest_well sorts 1 (r k) (well k)) well
straight_sorted sorts r (Summaries left) well = λ (c : Copy). passed_ready sorts (has left c) (r c) (well c)
straight_sorted sorts r (Forks k) well = well
straight_sorted sorts r (Loops left) well = well

-- what is drawn for a straight move
straight_drawn : (t : Parts) (set : Copies) (r : Copy → Code) (next : Sketch) (m : Move) → is_straight m ≡ true →
    drawn t set r next (side_by_side t) m ≡ move_before m (side_by_side t set (after_move m r) next)
straight_drawn t set r next Done one = absurd cc
straight_drawn t set r next (Steps c) one = refl
straight_drawn t set r next (Summaries left) one = refl
straight_drawn t set r next (Forks c) one = absurd cc
straight_drawn t set r next (Loops left) one = absurd cc

-- the mini-product is its move, and what comes then
pub one_drawn : (t : Parts) (set : Copies) (r : Copy → Code) (next : Sketch) (m : Move) → IsFilled set r → m ≡ move_of set r →
    side_by_side t set r next ≡ drawn t set r next (side_by_side t) m
one_drawn t set r next m is e =
    side_by_side_is t (statements_left r) set r next (rest_is set r is) ∙ ap (drawn t set r next (side_by_side t)) (sym e)

pub straight_first : (t : Parts) (set : Copies) (r : Copy → Code) (next : Sketch) (m : Move) → IsFilled set r → is_straight m ≡ true →
    m ≡ move_of set r → side_by_side t set r next ≡ move_before m (side_by_side t set (after_move m r) next)
straight_first t set r next m is one e = one_drawn t set r next m is e ∙ straight_drawn t set r next m one

-- one move more
pub moves_push : (ms : List Move) (m : Move) (p : Sketch) → moves_before (ms ++ m ∷ []) p ≡ moves_before ms (move_before m p)
moves_push [] m p = refl
moves_push (n ∷ ms) m p = ap (move_before n) (moves_push ms m p)

-- the last of the program's moves
pub popped_before : (all fewer : List own.Move) (m : own.Move) (p : Sketch) → all ≡ fewer ++ m ∷ [] →
    moves_before (map move_in all) p ≡ moves_before (map move_in fewer) (move_before (move_in m) p)
popped_before all fewer m p e =
    ap (λ (ms : List own.Move). moves_before (map move_in ms) p) e
    ∙ ap (λ (ms : List Move). moves_before ms p) (map-append move_in fewer (m ∷ []))
    ∙ moves_push (map move_in fewer) (move_in m) p

-- a mini-product that begins with moves, with one more
pub path_more : (t : Parts) (set : Copies) (r : Copy → Code) (next : Sketch) (ms : List Move) (m : Move) (whole : Sketch) →
    IsFilled set r → is_straight m ≡ true → m ≡ move_of set r → whole ≡ moves_before ms (side_by_side t set r next) →
    whole ≡ moves_before (ms ++ m ∷ []) (side_by_side t set (after_move m r) next)
path_more t set r next ms m whole is one e before =
    before
    ∙ ap (moves_before ms) (straight_first t set r next m is one e)
    ∙ sym (moves_push ms m (side_by_side t set (after_move m r) next))

-- what follows moves is no larger than with them
move_grows : (m : Move) (p : Sketch) → IsNoLarger p (move_before m p)
move_grows Done p = itself p
move_grows (Steps c) p = under_node (Step c) p
move_grows (Summaries left) p = under_each (λ (c : Copy). Abs c 1) (members left) p
move_grows (Forks c) p = itself p
move_grows (Loops left) p = itself p

pub moves_grow : (ms : List Move) (p : Sketch) → IsNoLarger p (moves_before ms p)
moves_grow [] p = itself p
moves_grow (m ∷ ms) p =
    through p (moves_before ms p) (move_before m (moves_before ms p)) (moves_grow ms p) (move_grows m (moves_before ms p))

-- what is too large is so with moves before it
pub moves_told : (ms : List Move) (p : Sketch) (e : ProductError) → TellsSketch e p → TellsSketch e (moves_before ms p)
moves_told ms p error.TooMany h = part_large p (moves_before ms p) (moves_grow ms p) h
moves_told ms p error.Memory h = tt
