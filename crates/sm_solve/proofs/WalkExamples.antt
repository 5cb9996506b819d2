-- Small walks, each with what it comes to, worked by hand.
use Rattle.sm_solve.proofs.Imports.{◌≡◌, ℕ, true, false, refl, [], ◌∷◌, pos, Sorts, Num, Tree, Start, Lit, Add, Closes, Opens, TooFar, walk, Reach}
use Rattle.std.specs.Prelude.{Some}
use Rattle.sm_term.specs.Assertions.{Eq, Ne, Le, Lt, And, Yes, No}
use Rattle.sm_num.specs.Eliminating.{gcd}
use Rattle.sm_omega.specs.Exact.{exact}
use Rattle.sm_cc.specs.Rounds.{are_equal}

-- all names are numbers
abbrev numbers : Sorts
numbers x = Some Num

-- within so many steps, with no forms decided exactly
abbrev within : ℕ → Reach
within n = record { steps = n; exact = false }

-- within so many steps, with the forms of an open branch decided exactly
abbrev exactly : ℕ → Reach
exactly n = record { steps = n; exact = true }

abbrev x : Tree
x = Start 0

abbrev y : Tree
y = Start 1

-- x = x needs no more than the visit of one branch
reflexive : walk numbers (within 1) [] (Eq Num x x) ≡ Closes 1
unfolding are_equal gcd
reflexive = refl

-- which is one step too many here
no_steps : walk numbers (within 0) [] (Eq Num x x) ≡ TooFar
no_steps = refl

-- nothing says that x = y: the contrary is split by order, and the first part stays open
open_leaf : walk numbers (within 100) [] (Eq Num x y) ≡ Opens (Ne Num x y ∷ Lt x y ∷ [])
unfolding are_equal gcd
open_leaf = refl

-- x = y turned round
turned : walk numbers (within 1) (Eq Num x y ∷ []) (Eq Num y x) ≡ Closes 1
unfolding are_equal gcd
turned = refl

-- x < y and the contrary y <= x of y > x: one visit and one sum
less : walk numbers (within 2) (Lt x y ∷ []) (Lt x y) ≡ Closes 2
unfolding are_equal gcd
less = refl

-- the sum is counted before it is made
less_short : walk numbers (within 1) (Lt x y ∷ []) (Lt x y) ≡ TooFar
unfolding are_equal gcd
less_short = refl

-- x <= y and y <= x give x = y: a visit and a sum, then for each part of the contrary a visit, that sum
-- once more, and one that can't hold
both_ways : walk numbers (within 100) (Le x y ∷ Le y x ∷ []) (Eq Num x y) ≡ Closes 8
unfolding are_equal gcd
both_ways = refl

-- No closes a branch, and a conjunction is taken apart
no_in_and : walk numbers (within 1) (And (Le x y) No ∷ []) (Eq Num x y) ≡ Closes 1
unfolding are_equal gcd
no_in_and = refl

-- 2x = 2y + 1 of whole numbers: no sum shows that it can't hold
parity_open : walk numbers (within 1) (Eq Num (Add x x) (Add (Add y y) (Lit (pos 1))) ∷ []) No
    ≡ Opens (Eq Num (Add x x) (Add (Add y y) (Lit (pos 1))) ∷ Yes ∷ [])
unfolding are_equal gcd
parity_open = refl

-- the exact decision does, which computes no form
parity : walk numbers (exactly 1) (Eq Num (Add x x) (Add (Add y y) (Lit (pos 1))) ∷ []) No ≡ Closes 1
unfolding are_equal gcd exact
parity = refl
