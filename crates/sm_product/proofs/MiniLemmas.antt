-- A mini-product fits what is left of its copies, where their code has no hole.
use Rattle.sm_product.proofs.Imports.{◌≡◌, ℕ, zero, suc, ◌≤◌, ◌<◌, Bool, true, false, if◌then◌else◌, refl, ap, sym, ◌∙◌, arith, Code, End, Skip, Assign, Write, If, While, Hole, append, Copy, O, A, B, M, Parts, append-End, Copies, has, is_inhabited, with_copy, is_over, rest_after, is_loop, loop_body, one_copy, has_hole, by_first_block, by_second_block, statements_in, Done, Steps, Summaries, Forks, Loops, move_of, moved_on, long_append, rest_append, simple_left, simple_append, fork_append, loop_left, loop_append, rest_no_hole, blocks_no_hole, fewer_after, fewer_ways, MoveSays, move_says, IsWithin, loop_templates, ends, drawn, mini_product}
use Rattle.sm_plan.proofs.StatementsLemmas.{over_is}
use Rattle.sm_moves.specs.Moves.{Move}
use Rattle.sm_sketch.specs.Sketches.{Sketch}
use Rattle.sm_product.proofs.DrawingLemmas.{summaries_fit, looped_fits, ends_fit}
use Rattle.sm_product.proofs.FitsLemmas.{Fits, fits_same, bodies_left}
use Rattle.sm_product.proofs.SmallerLemmas.{IsRest, one_smaller, moved_smaller, bodies_smaller}

-- the code of each copy, and then other code
abbrev pub then_tail : (Copy → Code) → (Copy → Code) → Copy → Code
then_tail r tail d = append (r d) (tail d)

-- nothing is left where no statement is
pub none_left : (c : Code) → statements_in c ≤ 0 → c ≡ End
none_left End h = refl
none_left (Skip k) h = absurd (omega arith)
none_left (Assign x e k) h = absurd (omega arith)
none_left (Write a i e k) h = absurd (omega arith)
none_left (If b one other k) h = absurd (omega arith)
none_left (While b body k) h = absurd (omega arith)
none_left (Hole n k) h = absurd (omega arith)

pub nothing_left : (set : Copies) (r : Copy → Code) → IsRest set r 0 → (d : Copy) → r d ≡ End
nothing_left set r is O = none_left (r O) (omega (arith, is.enough))
nothing_left set r is A = none_left (r A) (omega (arith, is.enough))
nothing_left set r is B = none_left (r B) (omega (arith, is.enough))
nothing_left set r is M = none_left (r M) (omega (arith, is.enough))

-- what is drawn of rests with at most n statements fits
abbrev GoFits : (Copies → (Copy → Code) → Sketch → Sketch) → ℕ → Type 0
GoFits go n =
    (set : Copies) (r : Copy → Code) (next : Sketch) (tail : Copy → Code) → IsRest set r n → Fits next tail →
    Fits (go set r next) (then_tail r tail)

module _ (t : Parts) (set : Copies) (r : Copy → Code) (next : Sketch) (tail : Copy → Code) (n : ℕ)
    (go : Copies → (Copy → Code) → Sketch → Sketch) (is : IsRest set r (suc n)) (goes : GoFits go n) (h : Fits next tail) where
  -- the rests of all
  abbrev whole : Copy → Code
  whole = then_tail r tail

  -- one copy goes on with other code
  one_goes : (c : Copy) (k later : Code) → has set c ≡ true → has_hole k ≡ false → statements_in k < statements_in (r c) →
      append k (tail c) ≡ later → Fits (go set (with_copy r c k) next) (with_copy whole c later)
  one_goes c k later in_set none fewer e =
      fits_same (go set (with_copy r c k) next) (then_tail (with_copy r c k) tail) (with_copy whole c later)
      (one_copy (λ (x y : Code) (d : Copy). append x (tail d) ≡ y) r whole c k later e (λ (d : Copy). refl))
      (goes set (with_copy r c k) next tail (one_smaller set r n is c k in_set none fewer) h)

  -- the copies of a set have done their first statements
  moved_goes : (left : Copies) → is_inhabited left ≡ true → ((c : Copy) → has left c ≡ true → is_over (r c) ≡ false) →
      Fits (go set (moved_on left r) next) (moved_on left whole)
  moved_goes left some over =
      fits_same (go set (moved_on left r) next) (then_tail (moved_on left r) tail) (moved_on left whole)
      (λ (d : Copy). by d (has left d) refl)
      (goes set (moved_on left r) next tail (moved_smaller set r n is left some over) h)
    where
      by : (d : Copy) (b : Bool) → has left d ≡ b →
          append (if b then rest_after 1 (r d) else r d) (tail d)
          ≡ (if b then rest_after 1 (append (r d) (tail d)) else append (r d) (tail d))
      by d true e = sym (rest_append (r d) (tail d) (over d e))
      by d false e = refl

  -- a turn of a subset
  turn_goes : (left : Copies) → ((c : Copy) → has left c ≡ true → is_loop (r c) ≡ true) → (v : Copies) → is_inhabited v ≡ true →
      IsWithin v left → Fits (go v (bodies_left r v) ends) (bodies_left whole v)
  turn_goes left loops v any within =
      fits_same (go v (bodies_left r v) ends) (then_tail (bodies_left r v) (λ (c : Copy). End)) (bodies_left whole v)
      (λ (d : Copy). by d (has v d) refl)
      (goes v (bodies_left r v) ends (λ (c : Copy). End) (bodies_smaller set r n is left loops v any within) ends_fit)
    where
      by : (d : Copy) (b : Bool) → has v d ≡ b →
          append (if b then loop_body (r d) else End) End ≡ (if b then loop_body (append (r d) (tail d)) else End)
      by d true e = append-End (loop_body (r d)) ∙ sym (loop_append (r d) (tail d) (loops d (within d e))).1
      by d false e = refl

  -- each move
  drawn_fits : (m : Move) → MoveSays set r m → Fits (drawn t set r next go m) whole
  drawn_fits Done says =
      fits_same next tail whole (λ (d : Copy). sym (ap (λ (x : Code). append x (tail d)) (over_is (r d) (says d)))) h
  drawn_fits (Steps c) says = (
    simple_append (r c) (tail c) says.1,
    (
      one_goes c (rest_after 1 (r c)) (rest_after 1 (whole c)) says.0 (rest_no_hole (r c) (is.no_hole c))
          (fewer_after (r c) (simple_left (r c) says.1)) (sym (rest_append (r c) (tail c) (simple_left (r c) says.1))),
      tt,
    ),
  )
  drawn_fits (Summaries left) says =
      summaries_fit left (go set (moved_on left r) next) whole
      (λ (c : Copy) (e : has left c ≡ true). long_append (r c) (tail c) (says.1 c e).1)
      (moved_goes left says.0 (λ (c : Copy) (e : has left c ≡ true). (says.1 c e).1))
  drawn_fits (Forks c) says =
      let same = fork_append (r c) (tail c) says.1 in
      let none = blocks_no_hole (r c) (is.no_hole c) in
      let fewer = fewer_ways (r c) says.1 in (
        same.0,
        (
          one_goes c (by_first_block (r c)) (by_first_block (whole c)) says.0 none.0 fewer.0 (sym same.1),
          (
            one_goes c (by_second_block (r c)) (by_second_block (whole c)) says.0 none.1 fewer.1 (sym same.2),
            tt,
          ),
        ),
      )
  drawn_fits (Loops left) says =
      let loops = λ (c : Copy) (e : has left c ≡ true). (says.1 c e).1 in
      looped_fits (loop_templates t left r) left (λ (v : Copies). go v (bodies_left r v) ends) (go set (moved_on left r) next) whole says.0
      (λ (c : Copy) (e : has left c ≡ true). (loop_append (r c) (tail c) (loops c e)).0)
      (turn_goes left loops)
      (moved_goes left says.0 (λ (c : Copy) (e : has left c ≡ true). loop_left (r c) (loops c e)))

-- a mini-product by as many moves as there are statements
pub mini_fits : (t : Parts) (n : ℕ) → GoFits (mini_product t n) n
mini_fits t zero set r next tail is h =
    fits_same next tail (then_tail r tail) (λ (d : Copy). sym (ap (λ (x : Code). append x (tail d)) (nothing_left set r is d))) h
mini_fits t (suc n) set r next tail is h =
    drawn_fits t set r next tail n (mini_product t n) is (mini_fits t n) h (move_of set r) (move_says set r is.no_hole is.outside)
