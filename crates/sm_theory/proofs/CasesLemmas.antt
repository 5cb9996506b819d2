-- Worked cases: each line that is no arithmetic where its condition is met, and where each part of the
-- condition fails.
use Rattle.sm_theory.proofs.Imports.{◌≡◌, ℕ, zero, suc, pos, Some, None, List, [], ◌∷◌, refl, Code, Sorts, Num, Arr, Kind, Tree, Start, Read, Write, Neg, Add, Sub, Mul, Fun, Over, Given, Assertion, Yes, No, Ne, Le, Lt, And, Or, Formal, Sum, as_facts, CertificateLine, Both, Either, Cases, Order, Refl, Sym, Trans, Subst, Cong, Hit, Miss, Close, Clash, Ways, ways}
use Rattle.sm_syntax.specs.claim.Syntax as syntax
use Rattle.sm_num.specs.declared.kind.Kind.TheVariants as kind
use Rattle.sm_term.specs.Assertions.{Eq}

-- names 0 to 2 are numbers, 3 and 4 arrays
abbrev declared : Sorts
declared zero = Some Num
declared (suc zero) = Some Num
declared (suc (suc zero)) = Some Num
declared (suc (suc (suc zero))) = Some Arr
declared (suc (suc (suc (suc zero)))) = Some Arr
declared x = None

-- three numbers and two arrays
abbrev x : Tree
x = Start 0

abbrev y : Tree
y = Start 1

abbrev z : Tree
z = Start 2

abbrev a : Tree
a = Start 3

abbrev b : Tree
b = Start 4

-- what a line does to a branch with these formulas
abbrev after : List Assertion → CertificateLine → Ways
after fs line = ways declared (as_facts fs) line

-- what a line does to a branch with one linear form, which says that a number is at most 0
abbrev after_sum : CertificateLine → Ways
after_sum line = ways declared (Sum (record { parts = (x, pos 1) ∷ []; constant = pos 0; kind = kind.Le }) ∷ []) line

-- what a line does to a branch with one constant form
abbrev after_constant : ℕ → Kind → CertificateLine → Ways
after_constant n k line = ways declared (Sum (record { parts = []; constant = pos n; kind = k }) ∷ []) line

-- the branch goes on with one formula more
abbrev adds_one : Assertion → Ways
adds_one f = Some ((Formal f ∷ []) ∷ [])

-- the branch splits
abbrev splits : Assertion → Assertion → Ways
splits f g = Some ((Formal f ∷ []) ∷ (Formal g ∷ []) ∷ [])

-- the branch is closed
abbrev closes : Ways
closes = Some []

-- both: of a conjunction alone
both_adds : after (And (Le x y) (Lt y z) ∷ []) (Both 0) ≡ Some ((Formal (Le x y) ∷ Formal (Lt y z) ∷ []) ∷ [])
both_adds = refl

both_of_a_disjunction : after (Or (Le x y) (Lt y z) ∷ []) (Both 0) ≡ None
both_of_a_disjunction = refl

both_of_no_fact : after (And (Le x y) (Lt y z) ∷ []) (Both 1) ≡ None
both_of_no_fact = refl

both_of_a_form : after_sum (Both 0) ≡ None
both_of_a_form = refl

-- either: of a disjunction alone
either_splits : after (Or (Le x y) (Lt y z) ∷ []) (Either 0) ≡ splits (Le x y) (Lt y z)
either_splits = refl

either_of_a_conjunction : after (And (Le x y) (Lt y z) ∷ []) (Either 0) ≡ None
either_of_a_conjunction = refl

either_of_no_fact : after [] (Either 0) ≡ None
either_of_no_fact = refl

-- cases: of two numbers
cases_split : after [] (Cases x (Add y z)) ≡ splits (Eq Num x (Add y z)) (Ne Num x (Add y z))
cases_split = refl

cases_of_an_array_first : after [] (Cases a x) ≡ None
cases_of_an_array_first = refl

cases_of_an_array_second : after [] (Cases x a) ≡ None
cases_of_an_array_second = refl

-- order: of numbers that aren't equal
order_splits : after (Ne Num x y ∷ []) (Order 0) ≡ splits (Lt x y) (Lt y x)
order_splits = refl

order_of_equal_numbers : after (Eq Num x y ∷ []) (Order 0) ≡ None
order_of_equal_numbers = refl

order_of_arrays : after (Ne Arr a b ∷ []) (Order 0) ≡ None
order_of_arrays = refl

-- refl: of each term, as what it is
refl_of_a_number : after [] (Refl (Neg x)) ≡ adds_one (Eq Num (Neg x) (Neg x))
refl_of_a_number = refl

refl_of_an_array : after [] (Refl (Write a x y)) ≡ adds_one (Eq Arr (Write a x y) (Write a x y))
refl_of_an_array = refl

-- sym: of an equation or its contrary
sym_of_an_equation : after (Eq Arr a b ∷ []) (Sym 0) ≡ adds_one (Eq Arr b a)
sym_of_an_equation = refl

sym_of_a_contrary : after (Ne Num x y ∷ []) (Sym 0) ≡ adds_one (Ne Num y x)
sym_of_a_contrary = refl

sym_of_an_inequality : after (Le x y ∷ []) (Sym 0) ≡ None
sym_of_an_inequality = refl

sym_of_a_form : after_sum (Sym 0) ≡ None
sym_of_a_form = refl

-- trans: of two equations that join
trans_adds : after (Eq Num x y ∷ Eq Num y z ∷ []) (Trans 0 1) ≡ adds_one (Eq Num x z)
trans_adds = refl

trans_through_different_terms : after (Eq Num x y ∷ Eq Num z x ∷ []) (Trans 0 1) ≡ None
trans_through_different_terms = refl

trans_the_other_way : after (Eq Num x y ∷ Eq Num y z ∷ []) (Trans 1 0) ≡ None
trans_the_other_way = refl

trans_of_a_contrary_first : after (Ne Num x y ∷ Eq Num y z ∷ []) (Trans 0 1) ≡ None
trans_of_a_contrary_first = refl

trans_of_a_contrary_second : after (Eq Num x y ∷ Ne Num y z ∷ []) (Trans 0 1) ≡ None
trans_of_a_contrary_second = refl

-- subst: of a contrary's first side
subst_adds : after (Ne Num x y ∷ Eq Num x z ∷ []) (Subst 0 1) ≡ adds_one (Ne Num z y)
subst_adds = refl

subst_of_the_second_side : after (Ne Num x y ∷ Eq Num y z ∷ []) (Subst 0 1) ≡ None
subst_of_the_second_side = refl

subst_of_an_equation_turned_round : after (Ne Num x y ∷ Eq Num z x ∷ []) (Subst 0 1) ≡ None
subst_of_an_equation_turned_round = refl

subst_into_an_equation : after (Eq Num x y ∷ Eq Num x z ∷ []) (Subst 0 1) ≡ None
subst_into_an_equation = refl

subst_of_a_contrary : after (Ne Num x y ∷ Ne Num x z ∷ []) (Subst 0 1) ≡ None
subst_of_a_contrary = refl

-- two summaries of one piece of code
abbrev skips : Code
skips = syntax.Skip syntax.End

abbrev summary : Code → ℕ → ℕ → Tree → Tree → Tree
summary c w v t u = Fun c w (Given v t (Given 3 u Over))

-- cong: of operations and summaries with one head and equal arguments in order
cong_of_sums : after (Eq Num x y ∷ Eq Num z x ∷ []) (Cong (Add x z) (Add y x) (0 ∷ 1 ∷ [])) ≡ adds_one (Eq Num (Add x z) (Add y x))
cong_of_sums = refl

cong_of_differences : after (Eq Num x y ∷ []) (Cong (Sub x x) (Sub y y) (0 ∷ 0 ∷ [])) ≡ adds_one (Eq Num (Sub x x) (Sub y y))
cong_of_differences = refl

cong_of_products : after (Eq Num x y ∷ []) (Cong (Mul x x) (Mul y y) (0 ∷ 0 ∷ [])) ≡ adds_one (Eq Num (Mul x x) (Mul y y))
cong_of_products = refl

cong_of_negatives : after (Eq Num x y ∷ []) (Cong (Neg x) (Neg y) (0 ∷ [])) ≡ adds_one (Eq Num (Neg x) (Neg y))
cong_of_negatives = refl

cong_of_reads : after (Eq Arr a b ∷ Eq Num x y ∷ []) (Cong (Read a x) (Read b y) (0 ∷ 1 ∷ [])) ≡ adds_one (Eq Num (Read a x) (Read b y))
cong_of_reads = refl

cong_of_writes : after (Eq Arr a b ∷ Eq Num x y ∷ []) (Cong (Write a x x) (Write b y y) (0 ∷ 1 ∷ 1 ∷ [])) ≡
    adds_one (Eq Arr (Write a x x) (Write b y y))
cong_of_writes = refl

cong_of_summaries : after (Eq Num x y ∷ Eq Arr a b ∷ []) (Cong (summary skips 0 0 x a) (summary skips 0 0 y b) (0 ∷ 1 ∷ [])) ≡
    adds_one (Eq Num (summary skips 0 0 x a) (summary skips 0 0 y b))
cong_of_summaries = refl

cong_of_other_operations : after (Eq Num x y ∷ []) (Cong (Add x x) (Sub y y) (0 ∷ 0 ∷ [])) ≡ None
cong_of_other_operations = refl

cong_of_other_code : after (Eq Num x y ∷ Eq Arr a b ∷ []) (Cong (summary skips 0 0 x a) (summary syntax.End 0 0 y b) (0 ∷ 1 ∷ [])) ≡ None
cong_of_other_code = refl

cong_of_another_name : after (Eq Num x y ∷ Eq Arr a b ∷ []) (Cong (summary skips 0 0 x a) (summary skips 1 0 y b) (0 ∷ 1 ∷ [])) ≡ None
cong_of_another_name = refl

cong_of_another_argument_name : after (Eq Num x y ∷ Eq Arr a b ∷ [])
    (Cong (summary skips 0 0 x a) (summary skips 0 1 y b) (0 ∷ 1 ∷ [])) ≡ None
cong_of_another_argument_name = refl

cong_of_an_argument_less : after (Eq Num x y ∷ [])
    (Cong (Fun skips 0 (Given 0 x Over)) (Fun skips 0 (Given 0 y (Given 1 y Over))) (0 ∷ [])) ≡ None
cong_of_an_argument_less = refl

cong_with_a_fact_too_few : after (Eq Num x y ∷ []) (Cong (Add x x) (Add y y) (0 ∷ [])) ≡ None
cong_with_a_fact_too_few = refl

cong_with_a_fact_too_many : after (Eq Num x y ∷ []) (Cong (Neg x) (Neg y) (0 ∷ 0 ∷ [])) ≡ None
cong_with_a_fact_too_many = refl

cong_with_facts_exchanged : after (Eq Num x y ∷ Eq Num z x ∷ []) (Cong (Add x z) (Add y x) (1 ∷ 0 ∷ [])) ≡ None
cong_with_facts_exchanged = refl

cong_with_a_fact_of_another_argument : after (Eq Num x y ∷ Eq Num z y ∷ []) (Cong (Neg x) (Neg y) (1 ∷ [])) ≡ None
cong_with_a_fact_of_another_argument = refl

cong_with_a_fact_turned_round : after (Eq Num y x ∷ []) (Cong (Neg x) (Neg y) (0 ∷ [])) ≡ None
cong_with_a_fact_turned_round = refl

cong_with_a_contrary : after (Ne Num x y ∷ []) (Cong (Neg x) (Neg y) (0 ∷ [])) ≡ None
cong_with_a_contrary = refl

cong_of_no_facts : after [] (Cong (Fun skips 0 Over) (Fun skips 0 Over) []) ≡ None
cong_of_no_facts = refl

cong_of_names : after (Eq Num x x ∷ []) (Cong x x (0 ∷ [])) ≡ None
cong_of_names = refl

-- hit: of a read at the index that was written
hit_adds : after (Eq Num x y ∷ []) (Hit (Read (Write a x z) y) 0) ≡ adds_one (Eq Num (Read (Write a x z) y) z)
hit_adds = refl

hit_on_another_index : after (Eq Num x z ∷ []) (Hit (Read (Write a x z) y) 0) ≡ None
hit_on_another_index = refl

hit_with_the_fact_turned_round : after (Eq Num y x ∷ []) (Hit (Read (Write a x z) y) 0) ≡ None
hit_with_the_fact_turned_round = refl

hit_with_a_contrary : after (Ne Num x y ∷ []) (Hit (Read (Write a x z) y) 0) ≡ None
hit_with_a_contrary = refl

hit_on_an_array_that_is_not_written : after (Eq Num x y ∷ []) (Hit (Read a y) 0) ≡ None
hit_on_an_array_that_is_not_written = refl

hit_without_a_read : after (Eq Num x y ∷ []) (Hit (Write a x z) 0) ≡ None
hit_without_a_read = refl

-- miss: of a read at another index
miss_adds : after (Ne Num x y ∷ []) (Miss (Read (Write a x z) y) (Read a y) 0) ≡ adds_one (Eq Num (Read (Write a x z) y) (Read a y))
miss_adds = refl

miss_at_the_index_itself : after (Eq Num x y ∷ []) (Miss (Read (Write a x z) y) (Read a y) 0) ≡ None
miss_at_the_index_itself = refl

miss_without_the_fact : after [] (Miss (Read (Write a x z) y) (Read a y) 0) ≡ None
miss_without_the_fact = refl

miss_with_the_fact_turned_round : after (Ne Num y x ∷ []) (Miss (Read (Write a x z) y) (Read a y) 0) ≡ None
miss_with_the_fact_turned_round = refl

miss_on_another_array : after (Ne Num x y ∷ []) (Miss (Read (Write a x z) y) (Read b y) 0) ≡ None
miss_on_another_array = refl

miss_on_another_index : after (Ne Num x y ∷ []) (Miss (Read (Write a x z) y) (Read a x) 0) ≡ None
miss_on_another_index = refl

miss_on_what_was_written : after (Ne Num x y ∷ []) (Miss (Read (Write a x z) y) z 0) ≡ None
miss_on_what_was_written = refl

miss_on_an_array_that_is_not_written : after (Ne Num x y ∷ []) (Miss (Read a y) (Read a y) 0) ≡ None
miss_on_an_array_that_is_not_written = refl

-- close: by what can't hold
close_by_nothing_holds : after (No ∷ []) (Close 0) ≡ closes
close_by_nothing_holds = refl

close_by_a_term_unequal_to_itself : after (Ne Arr a a ∷ []) (Close 0) ≡ closes
close_by_a_term_unequal_to_itself = refl

close_by_a_form : after_constant 1 kind.Le (Close 0) ≡ closes
close_by_a_form = refl

close_by_another_form : after_constant 1 kind.Eq (Close 0) ≡ closes
close_by_another_form = refl

close_by_different_terms : after (Ne Num x y ∷ []) (Close 0) ≡ None
close_by_different_terms = refl

close_by_an_equation : after (Eq Num x x ∷ []) (Close 0) ≡ None
close_by_an_equation = refl

close_by_what_holds : after (Yes ∷ []) (Close 0) ≡ None
close_by_what_holds = refl

close_by_a_form_that_holds : after_constant 0 kind.Le (Close 0) ≡ None
close_by_a_form_that_holds = refl

close_by_a_form_with_parts : after_sum (Close 0) ≡ None
close_by_a_form_with_parts = refl

close_by_no_fact : after (No ∷ []) (Close 1) ≡ None
close_by_no_fact = refl

-- clash: of an equation and its contrary, in this order
clash_closes : after (Ne Num x y ∷ Eq Num x y ∷ []) (Clash 1 0) ≡ closes
clash_closes = refl

clash_with_sides_exchanged : after (Ne Num y x ∷ Eq Num x y ∷ []) (Clash 1 0) ≡ None
clash_with_sides_exchanged = refl

clash_with_facts_exchanged : after (Ne Num x y ∷ Eq Num x y ∷ []) (Clash 0 1) ≡ None
clash_with_facts_exchanged = refl

clash_of_other_terms : after (Ne Num x z ∷ Eq Num x y ∷ []) (Clash 1 0) ≡ None
clash_of_other_terms = refl

clash_of_two_equations : after (Eq Num x y ∷ Eq Num x y ∷ []) (Clash 1 0) ≡ None
clash_of_two_equations = refl
