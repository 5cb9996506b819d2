-- A mini-product is the same for each bound on moves that is no less than the statements left.
use Rattle.sm_product.proofs.Imports.{◌≡◌, ℕ, zero, suc, ◌≤◌, Bool, true, false, List, [], ◌∷◌, refl, ap, sym, ◌∙◌, arith, Code, End, Copy, Parts, Copies, has, is_inhabited, subsets, with_copy, Step, Abs, rest_after, by_first_block, by_second_block, members, Done, Steps, Summaries, Forks, Loops, move_of, moved_on, simple_left, loop_left, rest_no_hole, blocks_no_hole, fewer_after, fewer_ways, MoveSays, move_says, Each, each_of_all, IsWithin, each_subset, loop_templates, LoopSite, Draw, More, ends, then_draw, each_of, forking, turns_then, looped, drawn, mini_product, statements_left, side_by_side}
use Rattle.sm_moves.specs.Moves.{Move}
use Rattle.sm_sketch.specs.Sketches.{Sketch}
use Rattle.sm_product.proofs.FitsLemmas.{bodies_left}
use Rattle.sm_product.proofs.MiniLemmas.{nothing_left}
use Rattle.sm_product.proofs.SmallerLemmas.{IsRest, one_smaller, moved_smaller, bodies_smaller}

-- two ways of drawing are the same for rests with at most n statements
abbrev Agree : (Copies → (Copy → Code) → Sketch → Sketch) → (Copies → (Copy → Code) → Sketch → Sketch) → ℕ → Type 0
Agree go other n = (set : Copies) (r : Copy → Code) (next : Sketch) → IsRest set r n → go set r next ≡ other set r next

same_turns : (turn other : Copies → Sketch) (next : Sketch) (vs : List Copies) → Each (λ (v : Copies). turn v ≡ other v) vs →
    turns_then turn vs next ≡ turns_then other vs next
same_turns turn other next [] h = refl
same_turns turn other next (v ∷ vs) h = λ i. More (h.0 i) (same_turns turn other next vs h.1 i)

module _ (t : Parts) (set : Copies) (r : Copy → Code) (next : Sketch) (n : ℕ) (go other : Copies → (Copy → Code) → Sketch → Sketch)
    (is : IsRest set r (suc n)) (agree : Agree go other n) where
  same_drawn : (m : Move) → MoveSays set r m → drawn t set r next go m ≡ drawn t set r next other m
  same_drawn Done says = refl
  same_drawn (Steps c) says =
      ap (then_draw (Step c))
      (agree set (with_copy r c (rest_after 1 (r c))) next
      (one_smaller set r n is c (rest_after 1 (r c)) says.0 (rest_no_hole (r c) (is.no_hole c))
      (fewer_after (r c) (simple_left (r c) says.1))))
  same_drawn (Summaries left) says =
      ap (each_of (λ (c : Copy). Abs c 1) (members left))
      (agree set (moved_on left r) next (moved_smaller set r n is left says.0 (λ (c : Copy) (e : has left c ≡ true). (says.1 c e).1)))
  same_drawn (Forks c) says =
      let none = blocks_no_hole (r c) (is.no_hole c) in
      let fewer = fewer_ways (r c) says.1 in
      let one = agree set (with_copy r c (by_first_block (r c))) next
      (one_smaller set r n is c (by_first_block (r c)) says.0 none.0 fewer.0) in
      let two = agree set (with_copy r c (by_second_block (r c))) next
      (one_smaller set r n is c (by_second_block (r c)) says.0 none.1 fewer.1) in
      λ i. forking c (one i) (two i)
  same_drawn (Loops left) says =
      let loops = λ (c : Copy) (e : has left c ≡ true). (says.1 c e).1 in
      let after =
      agree set (moved_on left r) next
      (moved_smaller set r n is left says.0 (λ (c : Copy) (e : has left c ≡ true). loop_left (r c) (loops c e))) in
      let turns =
      same_turns (λ (v : Copies). go v (bodies_left r v) ends) (λ (v : Copies). other v (bodies_left r v) ends)
      (go set (moved_on left r) next) (subsets left)
      (each_of_all (λ (v : Copies). (is_inhabited v ≡ true) × IsWithin v left)
      (λ (v : Copies). go v (bodies_left r v) ends ≡ other v (bodies_left r v) ends)
      (λ (v : Copies) (p : (is_inhabited v ≡ true) × IsWithin v left).
      agree v (bodies_left r v) ends (bodies_smaller set r n is left loops v p.0 p.1))
      (subsets left) (each_subset left)) in
      ap (Draw (LoopSite left (loop_templates t left r))) turns
      ∙ ap (looped (loop_templates t left r) left (λ (v : Copies). other v (bodies_left r v) ends)) after

-- where nothing is left, there is no move
done : (set : Copies) (r : Copy → Code) → ((d : Copy) → r d ≡ End) → move_of set r ≡ Done
done set r nothing = ap (move_of set) (λ i (d : Copy). nothing d i) ∙ nowhere set.base set.variant_a set.variant_b set.candidate
  where
    nowhere : (o a b m : Bool) → move_of (record { base = o; variant_a = a; variant_b = b; candidate = m }) (λ (d : Copy). End) ≡ Done
    nowhere true true true true = refl
    nowhere true true true false = refl
    nowhere true true false true = refl
    nowhere true true false false = refl
    nowhere true false true true = refl
    nowhere true false true false = refl
    nowhere true false false true = refl
    nowhere true false false false = refl
    nowhere false true true true = refl
    nowhere false true true false = refl
    nowhere false true false true = refl
    nowhere false true false false = refl
    nowhere false false true true = refl
    nowhere false false true false = refl
    nowhere false false false true = refl
    nowhere false false false false = refl

-- with nothing left, what follows is drawn, by whichever bound
none_drawn : (t : Parts) (m : ℕ) (set : Copies) (r : Copy → Code) (next : Sketch) → ((d : Copy) → r d ≡ End) →
    mini_product t m set r next ≡ next
none_drawn t zero set r next nothing = refl
none_drawn t (suc m) set r next nothing = ap (drawn t set r next (mini_product t m)) (done set r nothing)

-- code with at most n statements has at most as many as are enough for more
more_enough : (set : Copies) (r : Copy → Code) (n m : ℕ) → n ≤ m → IsRest set r n → IsRest set r m
more_enough set r n m h is = record { no_hole = is.no_hole; outside = is.outside; enough = omega (arith, is.enough) }

-- a greater bound draws the same
pub more_moves : (t : Parts) (n m : ℕ) → n ≤ m → Agree (mini_product t n) (mini_product t m) n
more_moves t zero m h set r next is = sym (none_drawn t m set r next (nothing_left set r is))
more_moves t (suc n) zero h set r next is = absurd (omega arith)
more_moves t (suc n) (suc m) h set r next is =
    same_drawn t set r next n (mini_product t n) (mini_product t m) is (more_moves t n m (omega arith)) (move_of set r)
    (move_says set r is.no_hole is.outside)

-- a mini-product by any bound that is enough is that by the statements left
pub enough_moves : (t : Parts) (n : ℕ) (set : Copies) (r : Copy → Code) (next : Sketch) → IsRest set r n →
    mini_product t n set r next ≡ side_by_side t set r next
enough_moves t n set r next is =
    sym (more_moves t (statements_left r) n is.enough set r next
    (record { no_hole = is.no_hole; outside = is.outside; enough = omega arith }))

-- so it is its move and then the mini-product of what is left then
pub side_by_side_is : (t : Parts) (n : ℕ) (set : Copies) (r : Copy → Code) (next : Sketch) → IsRest set r n →
    side_by_side t set r next ≡ drawn t set r next (side_by_side t) (move_of set r)
side_by_side_is t n set r next is =
    sym (enough_moves t (suc n) set r next (more_enough set r n (suc n) (omega arith) is))
    ∙ same_drawn t set r next n (mini_product t n) (side_by_side t) (more_enough set r n (suc n) (omega arith) is)
    (λ (u : Copies) (s : Copy → Code) (after : Sketch) (small : IsRest u s n). enough_moves t n u s after small) (move_of set r)
    (move_says set r is.no_hole is.outside)
