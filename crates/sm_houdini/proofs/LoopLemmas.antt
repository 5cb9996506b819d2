-- Lists up to a place, and one more.
use Rattle.sm_houdini.proofs.Imports.{◌≡◌, ℕ, zero, suc, ◌+◌, ◌<◌, List, [], ◌∷◌, ◌++◌, length, take, get_or, refl, sym, ap, ◌∙◌, arith, take_more}

pub taken : {X : Type 0} (xs : List X) (i : ℕ) (x : X) → i < length xs → x ≡ get_or xs i x → take (i + 1) xs ≡ take i xs ++ x ∷ []
taken {X} xs i x h e = take_more xs i x h ∙ ap (λ (y : X). take i xs ++ y ∷ []) (sym e)

-- what is at a place, whatever else is told for a place past the end
pub get_any : {X : Type 0} (xs : List X) (i : ℕ) (x y : X) → i < length xs → get_or xs i x ≡ get_or xs i y
get_any {X} [] i x y h = absurd (let no : i < 0 = h in omega arith)
get_any {X} (z ∷ xs) zero x y h = refl
get_any {X} (z ∷ xs) (suc i) x y h = let less : i < length xs = omega (arith, h) in get_any xs i x y less

abbrev pub at_place : {X : Type 0} (xs : List X) (i : ℕ) → i < length xs → X
at_place {X} [] i h = absurd (let no : i < 0 = h in omega arith)
at_place {X} (x ∷ xs) zero h = x
at_place {X} (x ∷ xs) (suc i) h = let less : i < length xs = omega (arith, h) in at_place xs i less

pub at_place_is : {X : Type 0} (xs : List X) (i : ℕ) (h : i < length xs) → at_place xs i h ≡ get_or xs i (at_place xs i h)
at_place_is {X} [] i h = absurd (let no : i < 0 = h in omega arith)
at_place_is {X} (x ∷ xs) zero h = refl
at_place_is {X} (x ∷ xs) (suc i) h = let less : i < length xs = omega (arith, h) in at_place_is xs i less
