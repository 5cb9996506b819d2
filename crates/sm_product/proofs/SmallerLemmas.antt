-- After each move fewer statements are left.
use Rattle.sm_product.proofs.Imports.{◌≡◌, ℕ, suc, ◌+◌, ◌<◌, ◌≤◌, Bool, true, false, ◌||◌, if◌then◌else◌, refl, ap, arith, Code, End, Copy, O, A, B, M, Copies, has, is_inhabited, with_copy, is_over, rest_after, is_loop, loop_body, one_copy, has_hole, statements_in, moved_on, loop_left, rest_no_hole, body_no_hole, fewer_after, fewer_inside, IsWithin, statements_left}
use Rattle.sm_product.proofs.FitsLemmas.{bodies_left}

-- code of a set's copies, with no hole and nothing for the others, and at most n statements
pub record IsRest (set : Copies) (r : Copy → Code) (n : ℕ) : Type 0 where
  pub no_hole : (c : Copy) → has_hole (r c) ≡ false
  pub outside : (c : Copy) → has set c ≡ false → r c ≡ End
  pub enough : statements_left r ≤ n

-- four numbers, none of which is greater, and those of a set with a copy are less
less_in : (o a b m : Bool) (x y : Copy → ℕ) →
    ((c : Copy) → has (record { base = o; variant_a = a; variant_b = b; candidate = m }) c ≡ true → x c < y c) → ((c : Copy) → x c ≤ y c) →
    (o || (a || (b || m))) ≡ true → x O + x A + x B + x M < y O + y A + y B + y M
less_in true a b m x y less most some =
    let o = less O refl in let a = most A in let b = most B in let m = most M in omega arith
less_in false true b m x y less most some =
    let o = most O in let a = less A refl in let b = most B in let m = most M in omega arith
less_in false false true m x y less most some =
    let o = most O in let a = most A in let b = less B refl in let m = most M in omega arith
less_in false false false true x y less most some =
    let o = most O in let a = most A in let b = most B in let m = less M refl in omega arith
less_in false false false false x y less most some = absurd cc

pub fewer_in : (set : Copies) (r s : Copy → Code) → is_inhabited set ≡ true →
    ((c : Copy) → has set c ≡ true → statements_in (r c) < statements_in (s c)) →
    ((c : Copy) → statements_in (r c) ≤ statements_in (s c)) → statements_left r < statements_left s
fewer_in set r s some less most =
    less_in set.base set.variant_a set.variant_b set.candidate (λ (c : Copy). statements_in (r c))
    (λ (c : Copy). statements_in (s c)) less most some

-- fewer statements of one copy
pub fewer_of : (r : Copy → Code) (c : Copy) (k : Code) → statements_in k < statements_in (r c) →
    statements_left (with_copy r c k) < statements_left r
fewer_of r O k h = omega arith
fewer_of r A k h = omega arith
fewer_of r B k h = omega arith
fewer_of r M k h = omega arith

module _ (set : Copies) (r : Copy → Code) (n : ℕ) (is : IsRest set r (suc n)) where
  -- one copy goes on with other code
  pub one_smaller : (c : Copy) (k : Code) → has set c ≡ true → has_hole k ≡ false → statements_in k < statements_in (r c) →
      IsRest set (with_copy r c k) n
  one_smaller c k in_set none fewer = record {
    no_hole = one_copy (λ (x y : Code) (d : Copy). has_hole x ≡ false) r r c k k none is.no_hole;
    outside = one_copy (λ (x y : Code) (d : Copy). has set d ≡ false → x ≡ End) r r c k k
        (λ (e : has set c ≡ false). absurd cc) is.outside;
    enough = let less = fewer_of r c k fewer in omega (arith, is.enough);
  }

  module _ (left : Copies) (some : is_inhabited left ≡ true) (over : (c : Copy) → has left c ≡ true → is_over (r c) ≡ false) where
    moved_no_hole : (d : Copy) → has_hole (moved_on left r d) ≡ false
    moved_no_hole d = by (has left d)
      where
        by : (b : Bool) → has_hole (if b then rest_after 1 (r d) else r d) ≡ false
        by true = rest_no_hole (r d) (is.no_hole d)
        by false = is.no_hole d

    moved_outside : (d : Copy) → has set d ≡ false → moved_on left r d ≡ End
    moved_outside d e = by (has left d)
      where
        by : (b : Bool) → (if b then rest_after 1 (r d) else r d) ≡ End
        by true = ap (rest_after 1) (is.outside d e)
        by false = is.outside d e

    pub moved_less : (d : Copy) (b : Bool) → has left d ≡ b →
        (b ≡ true → statements_in (if b then rest_after 1 (r d) else r d) < statements_in (r d))
        × (statements_in (if b then rest_after 1 (r d) else r d) ≤ statements_in (r d))
    moved_less d true e =
        let less = fewer_after (r d) (over d e) in ((λ (g : true ≡ true). less), omega arith)
    moved_less d false e = ((λ (g : false ≡ true). absurd cc), omega arith)

    -- some copies have done their first statements
    pub moved_smaller : IsRest set (moved_on left r) n
    moved_smaller = record {
      no_hole = moved_no_hole;
      outside = moved_outside;
      enough =
          let less =
          fewer_in left (moved_on left r) r some (λ (c : Copy) (e : has left c ≡ true). (moved_less c (has left c) refl).0 e)
          (λ (c : Copy). (moved_less c (has left c) refl).1) in
          omega (arith, is.enough);
    }

  module _ (left : Copies) (loops : (c : Copy) → has left c ≡ true → is_loop (r c) ≡ true) (v : Copies)
      (any : is_inhabited v ≡ true) (within : IsWithin v left) where
    bodies_no_hole : (d : Copy) → has_hole (bodies_left r v d) ≡ false
    bodies_no_hole d = by (has v d)
      where
        by : (b : Bool) → has_hole (if b then loop_body (r d) else End) ≡ false
        by true = body_no_hole (r d) (is.no_hole d)
        by false = refl

    pub bodies_less : (d : Copy) (b : Bool) → has v d ≡ b →
        (b ≡ true → statements_in (if b then loop_body (r d) else End) < statements_in (r d))
        × (statements_in (if b then loop_body (r d) else End) ≤ statements_in (r d))
    bodies_less d true e =
        let less = fewer_inside (r d) (loop_left (r d) (loops d (within d e))) in ((λ (g : true ≡ true). less), omega arith)
    bodies_less d false e = ((λ (g : false ≡ true). absurd cc), omega arith)

    -- the bodies of some of the loops
    pub bodies_smaller : IsRest v (bodies_left r v) n
    bodies_smaller = record {
      no_hole = bodies_no_hole;
      outside = λ (d : Copy) (e : has v d ≡ false). ap (λ (b : Bool). if b then loop_body (r d) else End) e;
      enough =
          let less =
          fewer_in v (bodies_left r v) r any (λ (c : Copy) (e : has v c ≡ true). (bodies_less c (has v c) refl).0 e)
          (λ (c : Copy). (bodies_less c (has v c) refl).1) in
          omega (arith, is.enough);
    }
