-- The exact line worked by hand: once good, and once bad for each part of its condition.
use Rattle.sm_theory.proofs.Imports.{◌≡◌, ℕ, suc, ℤ, pos, negsuc, Some, None, List, [], ◌∷◌, refl, Sorts, Num, Linear, Kind, Tree, Lit, Start, Add, Mul, No, Le, BranchFact, Formal, Sum, Exact, all_terms, forms_of_branch, moved_line, Ways, ways}
use Rattle.sm_num.specs.declared.kind.Kind.TheVariants as kind
use Rattle.sm_num.specs.Eliminating.{gcd}
use Rattle.sm_omega.specs.Exact.{exact}
use Rattle.sm_term.specs.Assertions.{Eq}

-- each name is a number
abbrev declared : Sorts
declared n = Some Num

-- two numbers
abbrev x : Tree
x = Start 0

abbrev y : Tree
y = Start 1

-- twice a number, and twice another with 1
abbrev even : Tree
even = Mul (Lit (pos 2)) x

abbrev odd : Tree
odd = Add (Mul (Lit (pos 2)) y) (Lit (pos 1))

-- a form over terms, and over places
abbrev form : List (Tree × ℤ) → ℤ → Kind → BranchFact
form parts constant k = Sum (record { parts = parts; constant = constant; kind = k })

abbrev placed_form : List (ℕ × ℤ) → ℤ → Kind → Linear ℕ
placed_form parts constant k = record { parts = parts; constant = constant; kind = k }

-- 2x = 2y + 1, as a formula and as a form
abbrev even_is_odd : List BranchFact
even_is_odd = Formal (Eq Num even odd) ∷ form ((x, pos 2) ∷ (y, negsuc 1) ∷ []) (negsuc 0) kind.Eq ∷ []

-- nothing holds
abbrev nothing : Ways
nothing = Some ((Formal No ∷ []) ∷ [])

-- terms stand after their arguments, each once
terms_in_order : all_terms (Eq Num even odd ∷ Le y x ∷ []) ≡ Lit (pos 2) ∷ x ∷ even ∷ y ∷ Mul (Lit (pos 2)) y ∷ Lit (pos 1) ∷ odd ∷ []
terms_in_order = refl

-- an atom's number is its place
atoms_by_places : forms_of_branch even_is_odd ≡ Some (placed_form ((1, pos 2) ∷ (3, negsuc 1) ∷ []) (negsuc 0) kind.Eq ∷ [])
atoms_by_places = refl

-- parts go by the places, in whatever order they stood
parts_by_places :
    forms_of_branch (Formal (Le y x) ∷ form ((x, pos 1) ∷ (y, pos 2) ∷ []) (pos 0) kind.Le ∷ [])
    ≡ Some (placed_form ((0, pos 2) ∷ (1, pos 1) ∷ []) (pos 0) kind.Le ∷ [])
parts_by_places = refl

-- a number is never twice another and 1, which takes no step
refutes : ways declared even_is_odd (Exact 0) ≡ nothing
unfolding exact gcd
refutes = refl

-- a line `exact` may allow 1,000,000 steps
allows_a_million : ways declared even_is_odd (Exact 1000000) ≡ nothing
unfolding exact gcd
allows_a_million = refl

-- more aren't allowed
allows_no_more : ways declared even_is_odd (Exact 1000001) ≡ None
unfolding exact gcd
allows_no_more = refl

-- an atom has to be a term of a formula
wants_a_place : ways declared (form ((x, pos 2) ∷ (y, negsuc 1) ∷ []) (negsuc 0) kind.Eq ∷ []) (Exact 0) ≡ None
wants_a_place = refl

-- it is one by a line `refl`
takes_a_place :
    ways declared (Formal (Eq Num x x) ∷ Formal (Eq Num y y) ∷ form ((x, pos 2) ∷ (y, negsuc 1) ∷ []) (negsuc 0) kind.Eq ∷ []) (Exact 0)
    ≡ nothing
unfolding exact gcd
takes_a_place = refl

-- what has a solution isn't refuted
wants_a_refutation : ways declared (Formal (Eq Num even y) ∷ form ((x, pos 2) ∷ (y, negsuc 0) ∷ []) (pos 0) kind.Eq ∷ []) (Exact 1000000) ≡ None
unfolding exact gcd
wants_a_refutation = refl

-- Pugh's example: no whole numbers satisfy 27 <= 11x + 13y <= 45 and -10 <= 7x - 9y <= 4
pughs : List BranchFact
pughs =
    Formal (Le x y) ∷
    form ((x, negsuc 10) ∷ (y, negsuc 12) ∷ []) (pos 27) kind.Le ∷
    form ((x, pos 11) ∷ (y, pos 13) ∷ []) (negsuc 44) kind.Le ∷
    form ((x, negsuc 6) ∷ (y, pos 9) ∷ []) (negsuc 9) kind.Le ∷
    form ((x, pos 7) ∷ (y, negsuc 8) ∷ []) (negsuc 3) kind.Le ∷ []

-- which takes 291 steps
takes_its_steps : ways declared pughs (Exact 291) ≡ nothing
unfolding exact gcd pughs
takes_its_steps = refl

-- 290 steps are too few for Pugh's example
wants_all_steps : ways declared pughs (Exact 290) ≡ None
unfolding exact gcd pughs
wants_all_steps = refl

-- a number of steps is no fact's
steps_stay : moved_line {T = Tree} (λ (n : ℕ). suc n) (Exact 7) ≡ Exact 7
steps_stay = refl
