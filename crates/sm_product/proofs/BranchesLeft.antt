-- What forks and loops leave: fewer statements, well sorted and with no hole.
use Rattle.sm_product.proofs.Imports.{◌≡◌, suc, ◌<◌, true, false, refl, arith, Code, End, Skip, Assign, Write, If, While, Hole, Copy, O, A, B, M, Sorts, IsWellSorted, Copies, has, is_inhabited, with_copy, loop_body, one_copy, append_well, bodies_ready, by_first_block, by_second_block, has_hole, all_copies, only_in, Forks, Loops, move_of, moved_on, loop_left, blocks_no_hole, fewer_ways, IsWithin, HaveLoops, statements_left, IsFilled}
use Rattle.sm_product.proofs.FitsLemmas.{bodies_left}
use Rattle.sm_product.proofs.SmallerLemmas.{IsRest, fewer_in, fewer_of, one_smaller, moved_less, moved_smaller, bodies_less, bodies_smaller}
use Rattle.sm_product.proofs.StraightLemmas.{rest_more, filled_is, says_of}

-- the code that goes on is filled and has fewer statements than there were
pub record IsFewer (set : Copies) (code was : Copy → Code) : Type 0 where
  pub filled : IsFilled set code
  pub fewer : statements_left code < statements_left was

-- either way of a fork
module _ (set : Copies) (r : Copy → Code) (c : Copy) (is : IsFilled set r) (e : Forks c ≡ move_of set r) where
  pub first_way : IsFewer set (with_copy r c (by_first_block (r c))) r
  first_way =
      let says = says_of set r (Forks c) is e in
      let none = blocks_no_hole (r c) (is.no_hole c) in
      let fewer = fewer_ways (r c) says.1 in
      let n = statements_left r in
      record {
        filled = filled_is set (with_copy r c (by_first_block (r c))) n
            (one_smaller set r n (rest_more set r is) c (by_first_block (r c)) says.0 none.0 fewer.0);
        fewer = fewer_of r c (by_first_block (r c)) fewer.0;
      }

  pub second_way : IsFewer set (with_copy r c (by_second_block (r c))) r
  second_way =
      let says = says_of set r (Forks c) is e in
      let none = blocks_no_hole (r c) (is.no_hole c) in
      let fewer = fewer_ways (r c) says.1 in
      let n = statements_left r in
      record {
        filled = filled_is set (with_copy r c (by_second_block (r c))) n
            (one_smaller set r n (rest_more set r is) c (by_second_block (r c)) says.0 none.1 fewer.1);
        fewer = fewer_of r c (by_second_block (r c)) fewer.1;
      }

-- after loops
module _ (set : Copies) (r : Copy → Code) (left : Copies) (is : IsFilled set r) (e : Loops left ≡ move_of set r) where
  pub have_loops : HaveLoops left r
  have_loops = λ (c : Copy) (h : has left c ≡ true). ((says_of set r (Loops left) is e).1 c h).1

  pub after_loops : IsFewer set (moved_on left r) r
  after_loops =
      let some = (says_of set r (Loops left) is e).0 in
      let over = λ (c : Copy) (h : has left c ≡ true). loop_left (r c) (have_loops c h) in
      let n = statements_left r in
      let more = rest_more set r is in
      record {
        filled = filled_is set (moved_on left r) n (moved_smaller set r n more left some over);
        fewer = fewer_in left (moved_on left r) r some
            (λ (c : Copy) (h : has left c ≡ true). (moved_less set r n more left some over c (has left c) refl).0 h)
            (λ (c : Copy). (moved_less set r n more left some over c (has left c) refl).1);
      }

-- the bodies of some of the loops
module _ (r : Copy → Code) (no_hole : (c : Copy) → has_hole (r c) ≡ false) (left : Copies) (loops : HaveLoops left r) (v : Copies)
    (some : is_inhabited v ≡ true) (within : IsWithin v left) where
  all_is : (c : Copy) → has all_copies c ≡ false → r c ≡ End
  all_is O h = absurd cc
  all_is A h = absurd cc
  all_is B h = absurd cc
  all_is M h = absurd cc

  pub one_turn : IsFewer v (only_in v (λ (c : Copy). loop_body (r c))) r
  one_turn =
      let n = statements_left r in
      let is : IsRest all_copies r (suc n) = record { no_hole = no_hole; outside = all_is; enough = omega arith } in
      record {
        filled = filled_is v (bodies_left r v) n (bodies_smaller all_copies r n is left loops v some within);
        fewer = fewer_in v (bodies_left r v) r some
            (λ (c : Copy) (h : has v c ≡ true). (bodies_less all_copies r n is left loops v some within c (has v c) refl).0 h)
            (λ (c : Copy). (bodies_less all_copies r n is left loops v some within c (has v c) refl).1);
      }

-- sorts stay
pub first_well : (sorts : Sorts) (code : Code) → IsWellSorted sorts code → IsWellSorted sorts (by_first_block code)
first_well sorts End well = well
first_well sorts (Skip k) well = well
first_well sorts (Assign x v k) well = well
first_well sorts (Write a i v k) well = well
first_well sorts (If b one other k) well = append_well sorts one k well.1 well.3
first_well sorts (While b body k) well = well
first_well sorts (Hole h k) well = well

pub second_well : (sorts : Sorts) (code : Code) → IsWellSorted sorts code → IsWellSorted sorts (by_second_block code)
second_well sorts End well = well
second_well sorts (Skip k) well = well
second_well sorts (Assign x v k) well = well
second_well sorts (Write a i v k) well = well
second_well sorts (If b one other k) well = append_well sorts other k well.2 well.3
second_well sorts (While b body k) well = well
second_well sorts (Hole h k) well = well

module _ (sorts : Sorts) (r : Copy → Code) (well : (c : Copy) → IsWellSorted sorts (r c)) where
  pub first_sorted : (k c : Copy) → IsWellSorted sorts (with_copy r k (by_first_block (r k)) c)
  first_sorted k =
      one_copy (λ (x y : Code) (d : Copy). IsWellSorted sorts x) r r k (by_first_block (r k)) (r k) (first_well sorts (r k) (well k)) well

  pub second_sorted : (k c : Copy) → IsWellSorted sorts (with_copy r k (by_second_block (r k)) c)
  second_sorted k =
      one_copy (λ (x y : Code) (d : Copy). IsWellSorted sorts x) r r k (by_second_block (r k)) (r k) (second_well sorts (r k) (well k)) well

  pub turn_sorted : (v : Copies) (c : Copy) → IsWellSorted sorts (only_in v (λ (d : Copy). loop_body (r d)) c)
  turn_sorted v c = bodies_ready sorts (has v c) (r c) (well c)
