-- Forms computed by hand and by the definitions.
use Rattle.sm_num.proofs.Imports.{◌≡◌, ◌^◌, ◌-◌, ℕ, ℤ, pos, negsuc, true, false, List, [], ◌∷◌, refl, fits, fits_form, Linear, Kind, Le, Eq, Fits, Leaves, combined, combined_number, Add, Mul, eliminated, elimination, floor_of, ceiling_of, can_cancel, tightened, is_contradictory, same_atom}
use Rattle.sm_num.specs.Eliminating.{gcd}

-- a form
abbrev form : List (ℕ × ℤ) → ℤ → Kind → Linear ℕ
form parts constant kind = record { parts = parts; constant = constant; kind = kind }

-- -2x + 3y + 1 <= 0 and 5x - 7 <= 0 give 5y - 3 <= 0 (15y + 5 - 14, divided by 3)
eliminates : eliminated (form ((0, negsuc 1) ∷ (1, pos 3) ∷ []) (pos 1) Le) (form ((0, pos 5) ∷ []) (negsuc 6) Le) 0 ≡ Fits
    (form ((1, pos 5) ∷ []) (negsuc 2) Le)
unfolding gcd
eliminates = refl

-- over any atoms too
eliminates_any : elimination same_atom (form ((0, negsuc 1) ∷ (1, pos 3) ∷ []) (pos 1) Le) (form ((0, pos 5) ∷ []) (negsuc 6) Le) 0 ≡ Fits
    (form ((1, pos 5) ∷ []) (negsuc 2) Le)
unfolding gcd
eliminates_any = refl

-- 5y - 3 <= 0 says y <= 0
tightens : tightened (form ((1, pos 5) ∷ []) (negsuc 2) Le) ≡ form ((1, pos 1) ∷ []) (pos 0) Le
unfolding gcd
tightens = refl

-- 2x - 4 = 0 and 3x + y <= 0 give y + 6 <= 0
eliminates_equation : eliminated (form ((0, pos 2) ∷ []) (negsuc 3) Eq) (form ((0, pos 3) ∷ (1, pos 1) ∷ []) (pos 0) Le) 0 ≡ Fits
    (form ((1, pos 1) ∷ []) (pos 6) Le)
unfolding gcd
eliminates_equation = refl

-- the other way round too
eliminates_by_equation : eliminated (form ((0, pos 3) ∷ (1, pos 1) ∷ []) (pos 0) Le) (form ((0, pos 2) ∷ []) (negsuc 3) Eq) 0 ≡ Fits
    (form ((1, pos 1) ∷ []) (pos 6) Le)
unfolding gcd
eliminates_by_equation = refl

-- 2x + y = 0 and 3x - 4 = 0: two equations of equal signs, of which the second's multiplier is below 0
eliminates_equations : eliminated (form ((0, pos 2) ∷ (1, pos 1) ∷ []) (pos 0) Eq) (form ((0, pos 3) ∷ []) (negsuc 3) Eq) 0 ≡ Fits
    (form ((1, pos 3) ∷ []) (pos 8) Eq)
unfolding gcd
eliminates_equations = refl

-- 2x - 2y - 1 = 0 never holds
tightens_to_one : tightened (form ((0, pos 2) ∷ (1, negsuc 1) ∷ []) (negsuc 0) Eq) ≡ form [] (pos 1) Eq
unfolding gcd
tightens_to_one = refl

-- 2x - 2y - 4 = 0 says x - y - 2 = 0
tightens_equation : tightened (form ((0, pos 2) ∷ (1, negsuc 1) ∷ []) (negsuc 3) Eq) ≡ form ((0, pos 1) ∷ (1, negsuc 0) ∷ []) (negsuc 1) Eq
unfolding gcd
tightens_equation = refl

-- a product that leaves the range is named, its multiplier first
names_the_product : combined_number (pos 2) (pos (2 ^ 126)) (pos 0) (pos 0) ≡ Leaves Mul (pos 2) (pos (2 ^ 126))
names_the_product = refl

-- then a sum
names_the_sum : combined_number (pos 1) (pos (2 ^ 126)) (pos 1) (pos (2 ^ 126)) ≡ Leaves Add (pos (2 ^ 126)) (pos (2 ^ 126))
names_the_sum = refl

-- of the sum of 2x + 2^126 y <= 0 and -3x <= 0 nothing is divided before a product leaves the range
names_the_product_of_elim :
    eliminated (form ((0, pos 2) ∷ (1, pos (2 ^ 126)) ∷ []) (pos 0) Le) (form ((0, negsuc 2) ∷ []) (pos 0) Le) 0 ≡ Leaves Mul (pos 3)
    (pos (2 ^ 126))
unfolding gcd
names_the_product_of_elim = refl

-- the parts go before the constant
names_a_part_first : combined (form ((3, pos (2 ^ 126)) ∷ []) (pos (2 ^ 126)) Le) (pos 4) (form [] (pos 0) Le) (pos 0) Le ≡ Leaves Mul
    (pos 4) (pos (2 ^ 126))
names_a_part_first = refl

-- parts whose coefficient is 0 go
drops_zero : combined (form ((3, pos 1) ∷ (4, pos 2) ∷ []) (pos 5) Le) (pos 1) (form ((3, negsuc 0) ∷ (5, pos 1) ∷ []) (pos 5) Le) (pos 1)
    Le ≡ Fits (form ((4, pos 2) ∷ (5, pos 1) ∷ []) (pos 10) Le)
drops_zero = refl

-- the least number of 128 bits isn't in the range of forms, and the next is
least_is_out : fits_form (negsuc (2 ^ 127 - 1)) ≡ false
least_is_out = refl

least_of_128_bits : fits (negsuc (2 ^ 127 - 1)) ≡ true
least_of_128_bits = refl

next_is_in : fits_form (negsuc (2 ^ 127 - 2)) ≡ true
next_is_in = refl

greatest_is_in : fits_form (pos (2 ^ 127 - 1)) ≡ true
greatest_is_in = refl

greater_is_out : fits_form (pos (2 ^ 127)) ≡ false
greater_is_out = refl

-- -7 / 2 is -4 rounded down and -3 rounded up; -6 / 2 is -3
floors : floor_of (negsuc 6) 2 ≡ negsuc 3
floors = refl

rises : ceiling_of (negsuc 6) 2 ≡ negsuc 2
rises = refl

floors_exactly : floor_of (negsuc 5) 2 ≡ negsuc 2
floors_exactly = refl

rises_exactly : ceiling_of (negsuc 5) 2 ≡ negsuc 2
rises_exactly = refl

rises_above : ceiling_of (pos 7) 2 ≡ pos 4
rises_above = refl

-- two bounds of one sign don't cancel, and an equation cancels with either
cancels_no_bounds : can_cancel same_atom (form ((0, pos 2) ∷ []) (pos 0) Le) (form ((0, pos 3) ∷ []) (pos 0) Le) 0 ≡ false
cancels_no_bounds = refl

cancels_an_equation : can_cancel same_atom (form ((0, pos 2) ∷ []) (pos 0) Le) (form ((0, pos 3) ∷ []) (pos 0) Eq) 0 ≡ true
cancels_an_equation = refl

-- 1 <= 0 is a contradiction and 0 <= 0 isn't
contradicts : is_contradictory (form [] (pos 1) Le) ≡ true
contradicts = refl

holds : is_contradictory (form [] (pos 0) Le) ≡ false
holds = refl
