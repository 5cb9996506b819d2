-- Lines of arithmetic worked by hand: each once good, and once bad for each part of its condition.
use Rattle.sm_theory.proofs.Imports.{◌≡◌, ◌^◌, ◌-◌, ℕ, zero, suc, ℤ, pos, negsuc, Option, Some, None, List, [], ◌∷◌, refl, Sorts, Num, Arr, Linear, Kind, Fits, combination, floor_of, ceiling_of, Tree, Lit, Start, Neg, Add, Sub, Mul, same_tree, Ne, Le, Lt, BranchFact, Formal, Sum, linear_of, atom_form, constant_form, CertificateLine, Same, Apart, Lin, Elim, Tight, Close, arithmetic_adds, ways}
use Rattle.sm_num.specs.declared.kind.Kind.TheVariants as kind
use Rattle.sm_num.specs.Eliminating.{gcd}
use Rattle.sm_term.specs.Assertions.{Eq}

-- names 0 and 1 are numbers, each other name is an array
abbrev declared : Sorts
declared zero = Some Num
declared (suc zero) = Some Num
declared (suc (suc n)) = Some Arr

-- two numbers and an array
abbrev x : Tree
x = Start 0

abbrev y : Tree
y = Start 1

abbrev a : Tree
a = Start 2

-- whole numbers as terms
abbrev natural : ℕ → Tree
natural n = Lit (pos n)

-- a form
abbrev form : List (Tree × ℤ) → ℤ → Kind → Linear Tree
form parts constant k = record { parts = parts; constant = constant; kind = k }

-- one form as a fact, and two
abbrev one : Linear Tree → List BranchFact
one f = Sum f ∷ []

abbrev two : Linear Tree → Linear Tree → List BranchFact
two f g = Sum f ∷ Sum g ∷ []

-- what a line adds to facts
abbrev adds : List BranchFact → CertificateLine → Option BranchFact
adds facts line = arithmetic_adds declared facts line

-- 2 * (x + 3) - y is 2x - y + 6
multiplies_out : linear_of (Sub (Mul (natural 2) (Add x (natural 3))) y) ≡ form ((x, pos 2) ∷ (y, negsuc 0) ∷ []) (pos 6) kind.Eq
multiplies_out = refl

-- the number may stand after
multiplies_from_behind : linear_of (Mul (Add x (natural 3)) (natural 2)) ≡ form ((x, pos 2) ∷ []) (pos 6) kind.Eq
multiplies_from_behind = refl

-- x - x is 0
cancels_out : linear_of (Sub x x) ≡ constant_form (pos 0)
cancels_out = refl

-- 0 times a term is 0
multiplies_by_zero : linear_of (Mul (natural 0) (Mul x y)) ≡ constant_form (pos 0)
multiplies_by_zero = refl

-- a product of two terms that aren't numbers is an atom
product_is_an_atom : linear_of (Mul x y) ≡ atom_form (Mul x y)
product_is_an_atom = refl

-- the contrary of -x + 1 is x - 1
turns_round : linear_of (Neg (Add (Neg x) (natural 1))) ≡ form ((x, pos 1) ∷ []) (negsuc 0) kind.Eq
turns_round = refl

-- the least literal is out of the range of forms and is an atom
least_literal_is_an_atom : linear_of (Lit (negsuc (2 ^ 127 - 1))) ≡ atom_form (Lit (negsuc (2 ^ 127 - 1)))
least_literal_is_an_atom = refl

-- the next is a number
next_literal_is_a_number : linear_of (Lit (negsuc (2 ^ 127 - 2))) ≡ constant_form (negsuc (2 ^ 127 - 2))
next_literal_is_a_number = refl

-- a product whose coefficient leaves the range is an atom
wide_product_is_an_atom : linear_of (Mul (natural (2 ^ 126)) (Mul (natural 2) x)) ≡ atom_form (Mul (natural (2 ^ 126)) (Mul (natural 2) x))
wide_product_is_an_atom = refl

-- a sum whose constant leaves the range is an atom
wide_sum_is_an_atom : linear_of (Add (natural (2 ^ 126)) (natural (2 ^ 126))) ≡ atom_form (Add (natural (2 ^ 126)) (natural (2 ^ 126)))
wide_sum_is_an_atom = refl

-- x + y and y + x are one number
same_in_another_order : adds [] (Same (Add x y) (Add y x)) ≡ Some (Formal (Eq Num (Add x y) (Add y x)))
same_in_another_order = refl

-- not where the constants differ
same_wants_the_constant : adds [] (Same x (Add x (natural 1))) ≡ None
same_wants_the_constant = refl

-- x and 2x aren't told to be one number, as a coefficient differs
same_wants_the_coefficients : adds [] (Same x (Mul (natural 2) x)) ≡ None
same_wants_the_coefficients = refl

-- x and x + y aren't told to be one number, as the second has a part more
same_wants_each_part : adds [] (Same x (Add x y)) ≡ None
same_wants_each_part = refl

-- x + y and x aren't told to be one number, as the first has a part more
same_wants_no_more : adds [] (Same (Add x y) x) ≡ None
same_wants_no_more = refl

-- arrays aren't compared
same_wants_numbers : adds [] (Same a a) ≡ None
same_wants_numbers = refl

-- x and x + 1 differ
apart_by_the_constant : adds [] (Apart x (Add x (natural 1))) ≡ Some (Formal (Ne Num x (Add x (natural 1))))
apart_by_the_constant = refl

-- not where the constants are equal
apart_wants_another_constant : adds [] (Apart (Add x y) (Add y x)) ≡ None
apart_wants_another_constant = refl

-- x and y + 1 aren't told apart, as their parts differ
apart_wants_equal_parts : adds [] (Apart x (Add y (natural 1))) ≡ None
apart_wants_equal_parts = refl

-- arrays aren't told apart
apart_wants_numbers : adds [] (Apart a a) ≡ None
apart_wants_numbers = refl

-- x < y says x - y + 1 <= 0
strict_has_its_one : adds (Formal (Lt x y) ∷ []) (Lin 0) ≡ Some (Sum (form ((x, pos 1) ∷ (y, negsuc 0) ∷ []) (pos 1) kind.Le))
strict_has_its_one = refl

-- x <= y says x - y <= 0
bound_has_none : adds (Formal (Le x y) ∷ []) (Lin 0) ≡ Some (Sum (form ((x, pos 1) ∷ (y, negsuc 0) ∷ []) (pos 0) kind.Le))
bound_has_none = refl

-- x = y says x - y = 0
equation_is_one : adds (Formal (Eq Num x y) ∷ []) (Lin 0) ≡ Some (Sum (form ((x, pos 1) ∷ (y, negsuc 0) ∷ []) (pos 0) kind.Eq))
equation_is_one = refl

-- an equation of arrays has no form
lin_wants_numbers : adds (Formal (Eq Arr a a) ∷ []) (Lin 0) ≡ None
lin_wants_numbers = refl

-- the contrary of an equation has no form
lin_wants_no_contrary : adds (Formal (Ne Num x y) ∷ []) (Lin 0) ≡ None
lin_wants_no_contrary = refl

-- a form isn't made a form again
lin_wants_a_formula : adds (one (form [] (pos 0) kind.Le)) (Lin 0) ≡ None
lin_wants_a_formula = refl

-- the fact has to be there
lin_wants_a_fact : adds (Formal (Le x y) ∷ []) (Lin 1) ≡ None
lin_wants_a_fact = refl

-- a difference that leaves the range is refused
lin_wants_a_difference_in_range : adds (Formal (Le (Add x (natural (2 ^ 127 - 1))) (Lit (negsuc 0))) ∷ []) (Lin 0) ≡ None
lin_wants_a_difference_in_range = refl

-- a strict inequality is refused where its 1 more leaves the range
lin_wants_one_more_in_range : adds (Formal (Lt (Add x (natural (2 ^ 127 - 1))) y) ∷ []) (Lin 0) ≡ None
lin_wants_one_more_in_range = refl

-- x - y + 1 <= 0 and y - x <= 0 give 1 <= 0
elim_of_bounds :
    adds (two (form ((x, pos 1) ∷ (y, negsuc 0) ∷ []) (pos 1) kind.Le)
    (form ((y, pos 1) ∷ (x, negsuc 0) ∷ []) (pos 0) kind.Le)) (Elim 0 1 x)
    ≡ Some (Sum (form [] (pos 1) kind.Le))
unfolding gcd
elim_of_bounds = refl

-- 2x + y <= 0 and -3x + y <= 0 give 5y <= 0, divided y <= 0
elim_divides :
    adds (two (form ((x, pos 2) ∷ (y, pos 1) ∷ []) (pos 0) kind.Le)
    (form ((x, negsuc 2) ∷ (y, pos 1) ∷ []) (pos 0) kind.Le)) (Elim 0 1 x)
    ≡ Some (Sum (form ((y, pos 1) ∷ []) (pos 0) kind.Le))
unfolding gcd
elim_divides = refl

-- two bounds of one sign would be multiplied by a number below 0
elim_of_alike_bounds :
    adds (two (form ((x, pos 1) ∷ (y, pos 1) ∷ []) (pos 0) kind.Le) (form ((x, pos 1) ∷ []) (pos 0) kind.Le)) (Elim 0 1 x)
    ≡ None
unfolding gcd
elim_of_alike_bounds = refl

-- of an equation any multiple may be taken, whichever stands first
elim_of_an_equation :
    adds (two (form ((x, pos 1) ∷ (y, pos 1) ∷ []) (pos 0) kind.Le) (form ((x, pos 1) ∷ []) (pos 3) kind.Eq)) (Elim 0 1 x)
    ≡ Some (Sum (form ((y, pos 1) ∷ []) (negsuc 2) kind.Le))
unfolding gcd
elim_of_an_equation = refl

-- of an equation any multiple may be taken where it stands first
elim_by_an_equation :
    adds (two (form ((x, pos 1) ∷ (y, pos 1) ∷ []) (pos 0) kind.Le) (form ((x, pos 1) ∷ []) (pos 3) kind.Eq)) (Elim 1 0 x)
    ≡ Some (Sum (form ((y, pos 1) ∷ []) (negsuc 2) kind.Le))
unfolding gcd
elim_by_an_equation = refl

-- two equations give one
elim_of_equations :
    adds (two (form ((x, pos 1) ∷ (y, pos 1) ∷ []) (pos 0) kind.Eq) (form ((x, pos 1) ∷ []) (pos 3) kind.Eq)) (Elim 0 1 x)
    ≡ Some (Sum (form ((y, pos 1) ∷ []) (negsuc 2) kind.Eq))
unfolding gcd
elim_of_equations = refl

-- both have to have the term
elim_wants_it_in_the_first :
    adds (two (form ((y, pos 1) ∷ []) (pos 0) kind.Eq) (form ((x, pos 1) ∷ []) (pos 3) kind.Eq)) (Elim 0 1 x)
    ≡ None
unfolding gcd
elim_wants_it_in_the_first = refl

-- the second too
elim_wants_it_in_the_second :
    adds (two (form ((y, pos 1) ∷ []) (pos 0) kind.Eq) (form ((x, pos 1) ∷ []) (pos 3) kind.Eq)) (Elim 1 0 x)
    ≡ None
unfolding gcd
elim_wants_it_in_the_second = refl

-- both have to be forms
elim_wants_forms : adds (Formal (Eq Num x (natural 0)) ∷ Sum (form ((x, pos 1) ∷ []) (pos 3) kind.Eq) ∷ []) (Elim 0 1 x) ≡ None
elim_wants_forms = refl

-- of either number
elim_wants_both_forms : adds (Formal (Eq Num x (natural 0)) ∷ Sum (form ((x, pos 1) ∷ []) (pos 3) kind.Eq) ∷ []) (Elim 1 0 x) ≡ None
elim_wants_both_forms = refl

-- a sum that leaves the range is refused
elim_wants_the_range :
    adds (two (form ((x, pos 1) ∷ []) (pos (2 ^ 126)) kind.Le) (form ((x, negsuc 0) ∷ []) (pos (2 ^ 126)) kind.Le)) (Elim 0 1 x)
    ≡ None
unfolding gcd
elim_wants_the_range = refl

-- 2x + 1 <= 0 says x + 1 <= 0: a half is rounded up
tight_rounds_up : adds (one (form ((x, pos 2) ∷ []) (pos 1) kind.Le)) (Tight 0) ≡ Some (Sum (form ((x, pos 1) ∷ []) (pos 1) kind.Le))
unfolding gcd
tight_rounds_up = refl

-- 3x - 7 <= 0 says x - 2 <= 0: so is -7/3
tight_rounds_a_negative_up :
    adds (one (form ((x, pos 3) ∷ []) (negsuc 6) kind.Le)) (Tight 0)
    ≡ Some (Sum (form ((x, pos 1) ∷ []) (negsuc 1) kind.Le))
unfolding gcd
tight_rounds_a_negative_up = refl

-- 2x - 4 = 0 says x - 2 = 0
tight_divides_an_equation :
    adds (one (form ((x, pos 2) ∷ []) (negsuc 3) kind.Eq)) (Tight 0)
    ≡ Some (Sum (form ((x, pos 1) ∷ []) (negsuc 1) kind.Eq))
unfolding gcd
tight_divides_an_equation = refl

-- 2x - 3 = 0 says 1 = 0
tight_of_no_whole_number : adds (one (form ((x, pos 2) ∷ []) (negsuc 2) kind.Eq)) (Tight 0) ≡ Some (Sum (form [] (pos 1) kind.Eq))
unfolding gcd
tight_of_no_whole_number = refl

-- a form without parts stays
tight_of_a_constant : adds (one (form [] (pos 7) kind.Le)) (Tight 0) ≡ Some (Sum (form [] (pos 7) kind.Le))
tight_of_a_constant = refl

-- a formula isn't made tight
tight_wants_a_form : adds (Formal (Le x y) ∷ []) (Tight 0) ≡ None
tight_wants_a_form = refl

-- -7/3 rounded down and up
floor_of_a_negative : floor_of (negsuc 6) 3 ≡ negsuc 2
floor_of_a_negative = refl

-- up
ceiling_of_a_negative : ceiling_of (negsuc 6) 3 ≡ negsuc 1
ceiling_of_a_negative = refl

-- 1 <= 0 closes
closes_a_contradiction : ways declared (one (form [] (pos 1) kind.Le)) (Close 0) ≡ Some []
closes_a_contradiction = refl

-- so does -1 = 0
closes_a_wrong_equation : ways declared (one (form [] (negsuc 0) kind.Eq)) (Close 0) ≡ Some []
closes_a_wrong_equation = refl

-- 0 <= 0 doesn't
closes_no_true_bound : ways declared (one (form [] (pos 0) kind.Le)) (Close 0) ≡ None
closes_no_true_bound = refl

-- -1 <= 0 doesn't close
closes_no_lesser_bound : ways declared (one (form [] (negsuc 0) kind.Le)) (Close 0) ≡ None
closes_no_lesser_bound = refl

-- a form with a part doesn't close
closes_no_form_with_a_part : ways declared (one (form ((x, pos 1) ∷ []) (pos 1) kind.Le)) (Close 0) ≡ None
closes_no_form_with_a_part = refl

-- where a form has a term twice the sum is wrong: of 2x and x it makes 4x, and so such a form is no
-- sorted fact
wrong_of_a_term_twice :
    combination same_tree (form ((x, pos 1) ∷ (x, pos 1) ∷ []) (pos 0) kind.Eq) (pos 1)
    (form ((x, pos 1) ∷ []) (pos 0) kind.Eq) (pos 1) kind.Eq
    ≡ Fits (form ((x, pos 2) ∷ (x, pos 2) ∷ []) (pos 0) kind.Eq)
wrong_of_a_term_twice = refl
