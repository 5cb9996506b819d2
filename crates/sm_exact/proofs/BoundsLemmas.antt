-- The least variable of a list, the greatest coefficient among upper bounds, bounds without splinters, and the steps of the rules
-- of bounds.
use Rattle.sm_exact.proofs.Imports.{◌≡◌, ◌+◌, ◌<◌, ◌≤◌, ◌/◌, ◌^◌, ◌==◌, ℕ, zero, suc, ℤ, pos, negsuc, neg_ℤ, nat_abs, ◌-ℤ◌, ◌≤ℤ◌, ◌<ℤ◌, int_lt, Bool, true, false, not, ◌&&◌, if◌then◌else◌, IsTrue, Option, None, List, [], ◌∷◌, ◌++◌, map, length, get_or, take, drop, refl, sym, ap, subst, ◌∙◌, arith, lt-ltb, Vec, Global, add-one, All, int_eq, ints, by_lt_z, to_z-of_z, eqb-false, Decides-int_eq, All-head, All-tail, All-more, All-filter, filter_passes, w128, fits_form, Linear, Fits, then_with, computed, Op, Sub, Mul, is_negative, floor_of, Done, go_on, with_result, entered, at, bounds_below, bounds_above, others, lower_bounds, upper_bounds, lesser_first, least_variable, greatest_of, Answer, or_refuted, solved, giving, or_else, greatest_bound, least_bound, greatest_at, numbers_to, splinters_at, by_splinters, by_all_splinters, by_bounds, by_variable, standing, shadows, solved_within, Entry, Below, Above, shown, before, HasNoSplinter, side_bound, told, answer_of, Bounds, Dark, computed_inside, neg_fits}
use Rattle.std.proofs.Common.{ltb-true, eqb-true, drop-cons, drop_of_length-le}
use mir.Val.{SFits, to_z, of_z}
use Rattle.sm_num.proofs.RingLemmas.{sums, one_mul, mul_one}
use Rattle.sm_exact.proofs.EntryLemmas.{standing_before}
use Rattle.sm_exact.proofs.SplittingLemmas.{filter_twice}
use Rattle.sm_omega.proofs.OmegaNumbers.{other_above}
use Rattle.sm_exact.proofs.StepLemmas.{no_more}
use Rattle.sm_exact.proofs.ModularLemmas.{fits_bits}

-- the least variable

-- parts without a part
pub lesser_nothing : (ps : List (ℕ × ℤ)) (other : Option ℕ) → length ps ≡ 0 → lesser_first ps other ≡ other
lesser_nothing [] other none = refl
lesser_nothing (p ∷ ps) other none = absurd (omega arith)

-- the form at a place comes to those behind it
pub least_turn : (i j : ℕ) (fs : List (Linear ℕ)) (f : Linear ℕ) (ps : List (ℕ × ℤ)) (old new : Option ℕ) → i ≡ suc j →
    j < length fs → f ≡ get_or fs j f → ps ≡ f.parts → old ≡ least_variable (drop i fs) → new ≡ lesser_first ps old →
    new ≡ least_variable (drop j fs)
least_turn i j fs f ps old new next within here parts before after =
    after
    ∙ ap (λ l. lesser_first l old) parts
    ∙ ap (lesser_first f.parts) (before ∙ ap (λ n. least_variable (drop n fs)) next)
    ∙ ap (λ (g : Linear ℕ). lesser_first g.parts (least_variable (drop (suc j) fs))) here
    ∙ sym (ap least_variable (drop-cons fs j f within))

-- the greatest coefficient

-- another form has not
not_above_zero : (z : ℤ) → (not (int_eq z (pos 0)) && not (is_negative z)) ≡ false → z ≤ℤ pos 0
not_above_zero (pos n) e = by (int_eq (pos n) (pos 0)) refl e
  where
    by : (b : Bool) → int_eq (pos n) (pos 0) ≡ b → (not b && not false) ≡ false → pos n ≤ℤ pos 0
    by true is e = let zero : pos n ≡ pos 0 = (Decides-int_eq (pos n) (pos 0)).0 is in omega (arith, ints)
    by false is e = absurd cc
not_above_zero (negsuc n) e = omega (arith, ints)

-- which of two numbers is greater
greater_second : (y z : ℤ) → y <ℤ z → (if int_lt y z then z else y) ≡ z
greater_second y z h = grind (arith, ints)

greater_first : (y z : ℤ) → z ≤ℤ y → (if int_lt y z then z else y) ≡ y
greater_first y z h = grind (arith, ints)

-- the greatest coefficient, from 0 on
pub top_is : (t : ℕ) (fs : List (Linear ℕ)) → greatest_at t (upper_bounds t fs) ≡ greatest_of (pos 0) (map (at t) (upper_bounds t fs))
top_is t [] = refl
top_is t (f ∷ fs) = by (bounds_above t f) refl (top_is t fs)
  where
    by : (b : Bool) → bounds_above t f ≡ b →
        greatest_at t (upper_bounds t fs) ≡ greatest_of (pos 0) (map (at t) (upper_bounds t fs)) →
        greatest_at t (if b then f ∷ upper_bounds t fs else upper_bounds t fs)
        ≡ greatest_of (pos 0) (map (at t) (if b then f ∷ upper_bounds t fs else upper_bounds t fs))
    by true e more =
        ap (λ z. greatest_of z (map (at t) (upper_bounds t fs))) (sym (greater_second (pos 0) (at t f) (other_above (at t f) e)))
    by false e more = more

-- the next form
pub top_turn : (t i : ℕ) (fs : List (Linear ℕ)) (f : Linear ℕ) (y : ℤ) → i < length fs → f ≡ get_or fs i f → pos 0 ≤ℤ y →
    greatest_of y (map (at t) (upper_bounds t (drop i fs)))
    ≡ greatest_of (if int_lt y (at t f) then at t f else y) (map (at t) (upper_bounds t (drop (suc i) fs)))
top_turn t i fs f y within here least =
    ap (λ l. greatest_of y (map (at t) (upper_bounds t l))) (drop-cons fs i f within)
    ∙ ap (λ (g : Linear ℕ). greatest_of y (map (at t) (upper_bounds t (g ∷ drop (suc i) fs)))) (sym here)
    ∙ by (bounds_above t f) refl
  where
    rest : List (Linear ℕ)
    rest = upper_bounds t (drop (suc i) fs)

    by : (b : Bool) → bounds_above t f ≡ b → greatest_of y (map (at t) (if b then f ∷ rest else rest))
        ≡ greatest_of (if int_lt y (at t f) then at t f else y) (map (at t) rest)
    by true e = refl
    by false e =
        let low = not_above_zero (at t f) e in
        ap (λ z. greatest_of z (map (at t) rest)) (sym (greater_first y (at t f) (omega (arith, ints))))

-- the greater of two numbers is in the range, and is at least the first
pub greater_fits : (y z : ℤ) → IsTrue (fits_form y) → IsTrue (fits_form z) → IsTrue (fits_form (if int_lt y z then z else y))
greater_fits y z first second = by (int_lt y z)
  where
    by : (b : Bool) → IsTrue (fits_form (if b then z else y))
    by true = second
    by false = first

pub greater_least : (y z : ℤ) → pos 0 ≤ℤ y → pos 0 ≤ℤ (if int_lt y z then z else y)
greater_least y z least =
    by_lt_z y z (λ (h : y <ℤ z). rw (greater_second y z h) (omega (arith, ints))) (λ (h : z ≤ℤ y). rw (greater_first y z h) least)

-- what is kept of a greatest coefficient so far: with those from here on it is that of all, in the range and at least 0
pub record IsTop (t : ℕ) (fs rest : List (Linear ℕ)) (y : ℤ) : Type 0 where
  pub value : greatest_of (pos 0) (map (at t) (upper_bounds t fs)) ≡ greatest_of y (map (at t) (upper_bounds t rest))
  pub range : IsTrue (fits_form y)
  pub least : pos 0 ≤ℤ y

-- the next
pub top_more : (t i : ℕ) (fs : List (Linear ℕ)) (f : Linear ℕ) (y z w : ℤ) → i < length fs → f ≡ get_or fs i f → z ≡ at t f →
    IsTrue (fits_form z) → w ≡ (if int_lt y z then z else y) → IsTop t fs (drop i fs) y → IsTop t fs (drop (i + 1) fs) w
top_more t i fs f y z w within here is fits step top =
    subst (λ (x : ℤ). IsTop t fs (drop (i + 1) fs) x) (sym step)
    (record {
      value = top.value
          ∙ top_turn t i fs f y within here top.least
          ∙ ap (λ (x : ℤ). greatest_of (if int_lt y x then x else y) (map (at t) (upper_bounds t (drop (suc i) fs)))) (sym is)
          ∙ ap (λ (n : ℕ). greatest_of (if int_lt y z then z else y) (map (at t) (upper_bounds t (drop n fs)))) (sym (add-one i));
      range = greater_fits y z top.range fits;
      least = greater_least y z top.least;
    })

-- the last
pub top_end : (t i : ℕ) (fs : List (Linear ℕ)) (y : ℤ) → IsTop t fs (drop i fs) y → length fs ≤ i → y ≡ greatest_at t (upper_bounds t fs)
top_end t i fs y top past =
    sym (top_is t fs ∙ top.value ∙ ap (λ l. greatest_of y (map (at t) (upper_bounds t l))) (drop_of_length-le fs past))

-- a coefficient more is in the range
pub numbers_more : (t i : ℕ) (fs : List (Linear ℕ)) (f : Linear ℕ) (z : ℤ) → i < length fs → f ≡ get_or fs i f → z ≡ at t f →
    IsTrue (fits_form z) → All (λ (f : Linear ℕ). IsTrue (fits_form (at t f))) (take i fs) →
    All (λ (f : Linear ℕ). IsTrue (fits_form (at t f))) (take (i + 1) fs)
numbers_more t i fs f z within here is fits all =
    All-more (λ (f : Linear ℕ). IsTrue (fits_form (at t f))) fs i f within all
    (subst (λ (x : ℤ). IsTrue (fits_form x)) (is ∙ ap (at t) here) fits)

-- splinters

-- how many splinters there are, by the operations
pub splinters_by : (m b x y z : ℤ) (n : ℕ) → computed Mul m b ≡ Fits x → computed Sub x m ≡ Fits y → computed Sub y b ≡ Fits z →
    numbers_to (floor_of z (nat_abs m)) ≡ n → splinters_at m b ≡ Fits n
splinters_by m b x y z n first second third number =
    ap (λ o. then_with o (λ (x : ℤ). then_with (computed Sub x m)
    (λ (y : ℤ). then_with (computed Sub y b) (λ (z : ℤ). Fits (numbers_to (floor_of z (nat_abs m))))))) first
    ∙ ap (λ o. then_with o (λ (y : ℤ). then_with (computed Sub y b) (λ (z : ℤ). Fits (numbers_to (floor_of z (nat_abs m)))))) second
    ∙ ap (λ o. then_with o (λ (z : ℤ). Fits (numbers_to (floor_of z (nat_abs m))))) third
    ∙ ap Fits number

-- -1 divided is below 0
minus_one : (d : ℕ) → numbers_to (floor_of (negsuc 0) d) ≡ 0
minus_one d = by (d == 0)
  where
    by : (b : Bool) → numbers_to (if b then negsuc 0 else negsuc (0 / d)) ≡ 0
    by true = refl
    by false = refl

-- a lesser number is in the range
lesser_fits : (n : ℕ) → IsTrue (fits_form (pos (suc n))) → IsTrue (fits_form (pos n))
lesser_fits n fits = lt-ltb n (2 ^ 127) (omega (arith, ltb-true (suc n) (2 ^ 127) fits))

-- the greatest upper bound's coefficient is 1
no_splinter_above : (n : ℕ) → IsTrue (fits_form (pos (suc n))) → splinters_at (pos 1) (pos (suc n)) ≡ Fits 0
no_splinter_above n fits =
    splinters_by (pos 1) (pos (suc n)) (pos (suc n)) (pos n) (negsuc 0) 0
    (computed_inside Mul (pos 1) (pos (suc n)) (pos (suc n)) (one_mul (pos (suc n))) fits)
    (computed_inside Sub (pos (suc n)) (pos 1) (pos n) (omega (arith, sums)) (lesser_fits n fits))
    (computed_inside Sub (pos n) (pos (suc n)) (negsuc 0) (omega (arith, sums)) refl)
    (minus_one 1)

-- a lower bound's coefficient has size 1
no_splinter_below : (m : ℤ) → IsTrue (fits_form m) → splinters_at m (pos 1) ≡ Fits 0
no_splinter_below m fits =
    splinters_by m (pos 1) m (pos 0) (negsuc 0) 0
    (computed_inside Mul m (pos 1) m (mul_one m) fits)
    (computed_inside Sub m m (pos 0) (omega (arith, sums)) refl)
    (computed_inside Sub (pos 0) (pos 1) (negsuc 0) (omega (arith, sums)) refl)
    (minus_one (nat_abs m))

-- no bound has a splinter
without_splinters : (limit : ℕ) (solve : List (Linear ℕ) → ℕ → Answer) (fs : List (Linear ℕ)) (t : ℕ) (m : ℤ) (ls : List (Linear ℕ))
    (c : ℕ) →
    All (λ (l : Linear ℕ). splinters_at m (neg_ℤ (at t l)) ≡ Fits 0) ls → by_all_splinters limit solve fs t m ls c ≡ Done c None
without_splinters limit solve fs t m [] c each = refl
without_splinters limit solve fs t m (l ∷ ls) c each =
    ap (λ o. with_result o (λ (n : ℕ). by_splinters limit solve fs l n 0 (by_all_splinters limit solve fs t m ls) c))
    (All-head (λ (l : Linear ℕ). splinters_at m (neg_ℤ (at t l)) ≡ Fits 0) l ls each)
    ∙ without_splinters limit solve fs t m ls c (All-tail (λ (l : Linear ℕ). splinters_at m (neg_ℤ (at t l)) ≡ Fits 0) l ls each)

-- two facts of each
both : (P Q R : Linear ℕ → Type 0) (fs : List (Linear ℕ)) → ((f : Linear ℕ) → P f → Q f → R f) → All P fs → All Q fs → All R fs
both P Q R fs step first second = λ k d within. step _ (first k d within) (second k d within)

-- the coefficient of a lower bound turned round
turned : (z : ℤ) → IsTrue (fits_form z) → is_negative z ≡ true → splinters_at (pos 1) (neg_ℤ z) ≡ Fits 0
turned (pos n) fits below = absurd cc
turned (negsuc n) fits below = no_splinter_above n fits

-- it is -1 where it isn't less
unit : (z : ℤ) → negsuc 0 ≤ℤ z → is_negative z ≡ true → z ≡ negsuc 0
unit (pos n) least below = absurd cc
unit (negsuc n) least below = omega (arith, ints)

-- where the greatest upper coefficient is 1
pub none_above : (t : ℕ) (fs : List (Linear ℕ)) → greatest_at t (upper_bounds t fs) ≡ pos 1 →
    All (λ (f : Linear ℕ). IsTrue (fits_form (at t f))) fs → HasNoSplinter t fs
none_above t fs one numbers = λ limit c solve.
    without_splinters limit solve fs t (greatest_at t (upper_bounds t fs)) (lower_bounds t fs) c
    (both (λ (f : Linear ℕ). IsTrue (fits_form (at t f))) (λ (f : Linear ℕ). bounds_below t f ≡ true)
    (λ (l : Linear ℕ). splinters_at (greatest_at t (upper_bounds t fs)) (neg_ℤ (at t l)) ≡ Fits 0) (lower_bounds t fs)
    (λ f fits below. ap (λ m. splinters_at m (neg_ℤ (at t f))) one ∙ turned (at t f) fits below)
    (All-filter (bounds_below t) (λ (f : Linear ℕ). IsTrue (fits_form (at t f))) fs numbers)
    (filter_passes (bounds_below t) fs))

-- where no lower coefficient is below -1
pub none_below : (t : ℕ) (fs : List (Linear ℕ)) → IsTrue (fits_form (greatest_at t (upper_bounds t fs))) →
    All (λ (f : Linear ℕ). negsuc 0 ≤ℤ at t f) fs → HasNoSplinter t fs
none_below t fs range least = λ limit c solve.
    without_splinters limit solve fs t (greatest_at t (upper_bounds t fs)) (lower_bounds t fs) c
    (both (λ (f : Linear ℕ). negsuc 0 ≤ℤ at t f) (λ (f : Linear ℕ). bounds_below t f ≡ true)
    (λ (l : Linear ℕ). splinters_at (greatest_at t (upper_bounds t fs)) (neg_ℤ (at t l)) ≡ Fits 0) (lower_bounds t fs)
    (λ f least below. ap (λ z. splinters_at (greatest_at t (upper_bounds t fs)) (neg_ℤ z)) (unit (at t f) least below)
    ∙ no_splinter_below (greatest_at t (upper_bounds t fs)) range)
    (All-filter (bounds_below t) (λ (f : Linear ℕ). negsuc 0 ≤ℤ at t f) fs least)
    (filter_passes (bounds_below t) fs))

-- the rules of bounds

-- bounds by their lists
with_none_above : (limit : ℕ) (solve : List (Linear ℕ) → ℕ → Answer) (fs : List (Linear ℕ)) (c t : ℕ) (ls us : List (Linear ℕ)) →
    length us ≡ 0 → by_bounds limit solve fs c t ls us ≡ giving t (greatest_bound t ls) (solve (others t fs) c)
with_none_above limit solve fs c t ls [] none = refl
with_none_above limit solve fs c t ls (u ∷ us) none = absurd (omega arith)

with_none_below : (limit : ℕ) (solve : List (Linear ℕ) → ℕ → Answer) (fs : List (Linear ℕ)) (c t : ℕ) (ls us : List (Linear ℕ)) →
    0 < length us → length ls ≡ 0 → by_bounds limit solve fs c t ls us ≡ giving t (least_bound t us) (solve (others t fs) c)
with_none_below limit solve fs c t ls [] some none = absurd (omega arith)
with_none_below limit solve fs c t [] (u ∷ us) some none = refl
with_none_below limit solve fs c t (l ∷ ls) (u ∷ us) some none = absurd (omega arith)

with_both : (limit : ℕ) (solve : List (Linear ℕ) → ℕ → Answer) (fs : List (Linear ℕ)) (c t : ℕ) (ls us : List (Linear ℕ)) →
    0 < length us → 0 < length ls →
    by_bounds limit solve fs c t ls us
    ≡ or_else (giving t (greatest_bound t ls) (solved limit solve (standing (others t fs) ++ shadows t ls us) c))
    (by_all_splinters limit solve fs t (greatest_at t us) ls)
with_both limit solve fs c t ls [] above below = absurd (omega arith)
with_both limit solve fs c t [] (u ∷ us) above below = absurd (omega arith)
with_both limit solve fs c t (l ∷ ls) (u ∷ us) above below = refl

-- there are no bounds from above
pub by_below : (limit depth s : ℕ) (fs : List (Linear ℕ)) (c t : ℕ) (os ls us : List (Linear ℕ)) → os ≡ others t fs →
    ls ≡ lower_bounds t fs → us ≡ upper_bounds t fs → length us ≡ 0 →
    by_variable limit (solved_within limit depth s) fs c t ≡ giving t (side_bound Below t ls) (solved_within limit depth s os c)
by_below limit depth s fs c t os ls us first second third none =
    ap (by_bounds limit (solved_within limit depth s) fs c t (lower_bounds t fs)) (sym third)
    ∙ with_none_above limit (solved_within limit depth s) fs c t (lower_bounds t fs) us none
    ∙ ap (λ l. giving t (greatest_bound t l) (solved_within limit depth s (others t fs) c))
    (sym (filter_twice (bounds_below t) fs) ∙ ap (lower_bounds t) (sym second))
    ∙ ap (λ l. giving t (greatest_bound t (lower_bounds t ls)) (solved_within limit depth s l c)) (sym first)

-- there are none from below
pub by_above : (limit depth s : ℕ) (fs : List (Linear ℕ)) (c t : ℕ) (os ls us : List (Linear ℕ)) → os ≡ others t fs →
    ls ≡ lower_bounds t fs → us ≡ upper_bounds t fs → 0 < length us → length ls ≡ 0 →
    by_variable limit (solved_within limit depth s) fs c t ≡ giving t (side_bound Above t us) (solved_within limit depth s os c)
by_above limit depth s fs c t os ls us first second third some none =
    ap (λ l. by_bounds limit (solved_within limit depth s) fs c t l (upper_bounds t fs)) (sym second)
    ∙ ap (by_bounds limit (solved_within limit depth s) fs c t ls) (sym third)
    ∙ with_none_below limit (solved_within limit depth s) fs c t ls us some none
    ∙ ap (λ l. giving t (least_bound t l) (solved_within limit depth s (others t fs) c))
    (third ∙ sym (filter_twice (bounds_above t) fs) ∙ ap (upper_bounds t) (sym third))
    ∙ ap (λ l. giving t (least_bound t (upper_bounds t us)) (solved_within limit depth s l c)) (sym first)

-- the shadows that entered are decided
shadows_solved : (limit depth s : ℕ) (fs : List (Linear ℕ)) (c t : ℕ) (os ls us : List (Linear ℕ)) (e : Entry) → os ≡ others t fs →
    ls ≡ lower_bounds t fs → us ≡ upper_bounds t fs → before os (entered limit (shadows t ls us) c) ≡ shown e →
    solved limit (solved_within limit depth s) (standing (others t fs) ++ shadows t (lower_bounds t fs) (upper_bounds t fs)) c
    ≡ answer_of limit depth s e
shadows_solved limit depth s fs c t os ls us e first second third is =
    ap (λ x. go_on x (or_refuted (solved_within limit depth s)))
    (standing_before limit (others t fs) (shadows t (lower_bounds t fs) (upper_bounds t fs)) c
    ∙ ap (λ l. before l (entered limit (shadows t (lower_bounds t fs) (upper_bounds t fs)) c)) (sym first)
    ∙ ap (λ l. before os (entered limit (shadows t l (upper_bounds t fs)) c)) (sym second)
    ∙ ap (λ l. before os (entered limit (shadows t ls l) c)) (sym third)
    ∙ is)

-- there are from both sides, and the list is kept
pub by_dark : (limit depth s : ℕ) (fs : List (Linear ℕ)) (c t : ℕ) (os ls us : List (Linear ℕ)) (e : Entry)
    (kept : Vec (Linear ℕ) Global) →
    os ≡ others t fs → ls ≡ lower_bounds t fs → us ≡ upper_bounds t fs → 0 < length us → 0 < length ls →
    before os (entered limit (shadows t ls us) c) ≡ shown e → kept.items ≡ fs →
    by_variable limit (solved_within limit depth s) fs c t ≡ told limit depth (Dark s t kept) (answer_of limit depth s e)
by_dark limit depth s fs c t os ls us e kept first second third above below is same =
    with_both limit (solved_within limit depth s) fs c t (lower_bounds t fs) (upper_bounds t fs) (subst (λ l. 0 < length l) third above)
    (subst (λ l. 0 < length l) second below)
    ∙ ap (λ a. or_else (giving t (greatest_bound t (lower_bounds t fs)) a)
    (by_all_splinters limit (solved_within limit depth s) fs t (greatest_at t (upper_bounds t fs)) (lower_bounds t fs)))
    (shadows_solved limit depth s fs c t os ls us e first second third is)
    ∙ ap (λ l. or_else (giving t (greatest_bound t (lower_bounds t l)) (answer_of limit depth s e))
    (by_all_splinters limit (solved_within limit depth s) l t (greatest_at t (upper_bounds t l)) (lower_bounds t l)))
    (sym same)

-- there are, and no splinters
pub by_close : (limit depth s : ℕ) (fs : List (Linear ℕ)) (c t : ℕ) (os ls us : List (Linear ℕ)) (lower : Vec (Linear ℕ) Global)
    (e : Entry) →
    os ≡ others t fs → ls ≡ lower_bounds t fs → us ≡ upper_bounds t fs → 0 < length us → 0 < length ls →
    before os (entered limit (shadows t ls us) c) ≡ shown e → lower.items ≡ lower_bounds t fs → HasNoSplinter t fs →
    by_variable limit (solved_within limit depth s) fs c t ≡ told limit depth (Bounds t Below lower) (answer_of limit depth s e)
by_close limit depth s fs c t os ls us lower e first second third above below is same none =
    with_both limit (solved_within limit depth s) fs c t (lower_bounds t fs) (upper_bounds t fs) (subst (λ l. 0 < length l) third above)
    (subst (λ l. 0 < length l) second below)
    ∙ no_more _ _ (λ n. none limit n (solved_within limit depth s))
    ∙ ap (giving t (greatest_bound t (lower_bounds t fs)))
    (shadows_solved limit depth s fs c t os ls us e first second third is)
    ∙ ap (λ l. giving t (greatest_bound t l) (answer_of limit depth s e))
    (sym (filter_twice (bounds_below t) fs) ∙ ap (lower_bounds t) (sym same))

-- whether a list is empty, by the test of its length
pub none_by_test : (n : ℕ) (l : List (Linear ℕ)) (b : Bool) → n ≡ length l → b ≡ (n == 0) → b ≡ true → length l ≡ 0
none_by_test n l b long is none = sym long ∙ eqb-true n 0 (sym is ∙ none)

pub some_by_test : (n : ℕ) (l : List (Linear ℕ)) (b : Bool) → n ≡ length l → b ≡ (n == 0) → b ≡ false → 0 < length l
some_by_test n l b long is none = let apart = eqb-false n 0 (sym is ∙ none) in omega arith

one_less : (n : ℕ) → pos (suc n) -ℤ pos 1 ≡ pos n
one_less n = omega (arith, sums)

pub less_one_fits : (z : ℤ) → IsTrue (fits_form z) → SFits w128 (z -ℤ pos 1)
less_one_fits (pos zero) fits = record { sfits = omega arith }
less_one_fits (pos (suc n)) fits = subst (SFits w128) (sym (one_less n)) (fits_bits (pos n) (lesser_fits n fits))
less_one_fits (negsuc n) fits = record { sfits = let more = ltb-true (suc n) (2 ^ 127) fits in omega arith }

-- numbers as calls pass them
pub passed : (z : ℤ) → IsTrue (fits_form z) → to_z w128 (of_z w128 z) ≡ z
passed z fits = to_z-of_z w128 z (fits_bits z fits)

-- 0 less a number
pub zero_less : (z : ℤ) → pos 0 -ℤ z ≡ neg_ℤ z
zero_less z = omega (arith, ints)

pub zero_less_fits : (z : ℤ) → IsTrue (fits_form z) → SFits w128 (pos 0 -ℤ to_z w128 (of_z w128 z))
zero_less_fits z fits =
    subst (λ (x : ℤ). SFits w128 (pos 0 -ℤ x)) (sym (passed z fits))
    (subst (SFits w128) (sym (zero_less z)) (fits_bits (neg_ℤ z) (neg_fits z fits)))

-- a number turned round, as calls pass it
pub passed_turned : (z y : ℤ) → IsTrue (fits_form z) → z ≡ y → to_z w128 (of_z w128 (pos 0 -ℤ to_z w128 (of_z w128 z))) ≡ neg_ℤ y
passed_turned z y fits is =
    ap (λ (x : ℤ). to_z w128 (of_z w128 (pos 0 -ℤ x))) (passed z fits)
    ∙ ap (λ (x : ℤ). to_z w128 (of_z w128 x)) (zero_less z)
    ∙ passed (neg_ℤ z) (neg_fits z fits)
    ∙ ap neg_ℤ is

-- a number less 1, as calls pass it
pub passed_less : (z y : ℤ) → IsTrue (fits_form y) → z ≡ y → to_z w128 (of_z w128 (z -ℤ pos 1)) ≡ z -ℤ pos 1
passed_less z y fits is = to_z-of_z w128 (z -ℤ pos 1) (subst (λ (x : ℤ). SFits w128 (x -ℤ pos 1)) (sym is) (less_one_fits y fits))
