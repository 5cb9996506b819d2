-- Cited by public clauses: the rules of inequalities of the Omega test. A variable without bounds
-- from one side goes with its forms. Of one that is bounded from both, the dark shadow is what surely
-- leaves it a whole number; a solution that the dark shadow misses is near a lower bound, on one of
-- its splinters.
use Rattle.std.specs.Prelude.{ℕ, zero, suc, ℤ, pos, negsuc, neg_ℤ, nat_abs, ◌-ℤ◌, None, List, [], ◌∷◌, ◌++◌, map}
use Rattle.sm_num.specs.Forms.{Linear}
use Rattle.sm_num.specs.declared.kind.Kind.TheVariants.{Le, Eq}
use Rattle.sm_num.specs.Combining.{Outcome, Fits, then_with, computed, combined}
use Rattle.sm_num.specs.declared.op.Op.TheVariants.{Add, Sub, Mul}
use Rattle.sm_num.specs.Eliminating.{floor_of}
use Rattle.sm_omega.specs.Counting.{Done, with_result, Item, Stay, Count}
use Rattle.sm_omega.specs.Solving.{Values, at, lower_bounds, upper_bounds, others, bounds_of, greatest, least}
use Rattle.sm_omega.specs.Rules.{Answer, solved, giving, or_else}

-- the dark shadow of a lower and an upper bound of t
abbrev pub shadow : ℕ → Linear ℕ → Linear ℕ → Outcome (Linear ℕ)
shadow t l u =
    let a = at t u in
    let b = neg_ℤ (at t l) in
    then_with (combined l a u b Le) (λ (h : Linear ℕ).
    then_with (computed Mul (a -ℤ pos 1) (b -ℤ pos 1)) (λ (y : ℤ).
    then_with (computed Add y h.constant) (λ (z : ℤ).
    Fits (record { parts = h.parts; constant = z; kind = Le }))))

-- the dark shadows of lower bounds, each with each of the upper bounds
abbrev pub shadows : ℕ → List (Linear ℕ) → List (Linear ℕ) → List Item
shadows t [] us = []
shadows t (l ∷ ls) us = map (λ u. Count (shadow t l u)) us ++ shadows t ls us

-- forms that stand in a list
abbrev pub standing : List (Linear ℕ) → List Item
standing fs = map Stay fs

-- the greatest coefficient at t
abbrev pub greatest_at : ℕ → List (Linear ℕ) → ℤ
greatest_at t us = greatest (map (at t) us)

-- how many numbers there are from 0 to this one
abbrev pub numbers_to : ℤ → ℕ
numbers_to (pos n) = suc n
numbers_to (negsuc n) = 0

-- how many splinters a lower bound has whose coefficient has size b, where the greatest of the
-- upper bounds is m
abbrev pub splinters_at : ℤ → ℤ → Outcome ℕ
splinters_at m b =
    then_with (computed Mul m b) (λ (x : ℤ).
    then_with (computed Sub x m) (λ (y : ℤ).
    then_with (computed Sub y b) (λ (z : ℤ). Fits (numbers_to (floor_of z (nat_abs m))))))

-- a splinter: the variable is this near to its lower bound
abbrev pub splinter : Linear ℕ → ℕ → Outcome (Linear ℕ)
splinter l i =
    then_with (computed Add l.constant (pos i)) (λ (z : ℤ).
    Fits (record { parts = l.parts; constant = z; kind = Eq }))

-- tries so many splinters of a lower bound, from the ith on
abbrev pub by_splinters :
    ℕ → (List (Linear ℕ) → ℕ → Answer) → List (Linear ℕ) → Linear ℕ → ℕ → ℕ → (ℕ → Answer) → ℕ →
    Answer
by_splinters limit solve fs l zero i next c = next c
by_splinters limit solve fs l (suc more) i next c =
    or_else (solved limit solve (standing fs ++ Count (splinter l i) ∷ []) c)
    (by_splinters limit solve fs l more (suc i) next)

-- tries the splinters of each lower bound
abbrev pub by_all_splinters :
    ℕ → (List (Linear ℕ) → ℕ → Answer) → List (Linear ℕ) → ℕ → ℤ → List (Linear ℕ) → ℕ → Answer
by_all_splinters limit solve fs t m [] c = Done c None
by_all_splinters limit solve fs t m (l ∷ ls) c =
    with_result (splinters_at m (neg_ℤ (at t l))) (λ (n : ℕ).
    by_splinters limit solve fs l n 0 (by_all_splinters limit solve fs t m ls) c)

-- the greatest lower bound of a variable, and the least upper bound
abbrev pub greatest_bound : ℕ → List (Linear ℕ) → Values → Outcome ℤ
greatest_bound t fs v = then_with (bounds_of t v fs) (λ (zs : List ℤ). Fits (greatest zs))

abbrev pub least_bound : ℕ → List (Linear ℕ) → Values → Outcome ℤ
least_bound t fs v = then_with (bounds_of t v fs) (λ (zs : List ℤ). Fits (least zs))

-- decides by the bounds of a variable: without their forms, where there are none from one side;
-- else by the dark shadows, and by the splinters where those have no solution
abbrev pub by_bounds :
    ℕ → (List (Linear ℕ) → ℕ → Answer) → List (Linear ℕ) → ℕ → ℕ → List (Linear ℕ) →
    List (Linear ℕ) → Answer
by_bounds limit solve fs c t ls [] = giving t (greatest_bound t ls) (solve (others t fs) c)
by_bounds limit solve fs c t [] (u ∷ us) =
    giving t (least_bound t (u ∷ us)) (solve (others t fs) c)
by_bounds limit solve fs c t (l ∷ ls) (u ∷ us) =
    or_else
    (giving t (greatest_bound t (l ∷ ls))
    (solved limit solve (standing (others t fs) ++ shadows t (l ∷ ls) (u ∷ us)) c))
    (by_all_splinters limit solve fs t (greatest_at t (u ∷ us)) (l ∷ ls))

-- decides by a variable
abbrev pub by_variable : ℕ → (List (Linear ℕ) → ℕ → Answer) → List (Linear ℕ) → ℕ → ℕ → Answer
by_variable limit solve fs c t =
    by_bounds limit solve fs c t (lower_bounds t fs) (upper_bounds t fs)
