-- Decisions computed by hand and by the definition.
use Rattle.sm_omega.proofs.Imports.{◌≡◌, ℕ, ℤ, pos, negsuc, Option, Some, None, List, [], ◌∷◌, refl, Linear, Kind, Le, Eq, Decision, Done, Passed, Outside, Shallow, Values}
use Rattle.sm_num.specs.Eliminating.{gcd}
use Rattle.sm_omega.specs.Exact.{exact}

-- a form
abbrev form : List (ℕ × ℤ) → ℤ → Kind → Linear ℕ
form parts constant kind = record { parts = parts; constant = constant; kind = kind }

-- the count with which there is said to be no solution, and none otherwise
abbrev refuted_at : Decision (Option Values) → Option ℕ
refuted_at (Done c None) = Some c
refuted_at (Done c (Some v)) = None
refuted_at Passed = None
refuted_at (Outside op y z) = None
refuted_at Shallow = None

-- the values of two variables with the count, and none otherwise
abbrev solved_at : Decision (Option Values) → Option (ℕ × ℤ × ℤ)
solved_at (Done c None) = None
solved_at (Done c (Some v)) = Some (c, v 0, v 1)
solved_at Passed = None
solved_at (Outside op y z) = None
solved_at Shallow = None

-- Pugh's example: no whole numbers satisfy 27 <= 11x + 13y <= 45 and -10 <= 7x - 9y <= 4
pughs : List (Linear ℕ)
pughs =
    form ((0, negsuc 10) ∷ (1, negsuc 12) ∷ []) (pos 27) Le ∷
    form ((0, pos 11) ∷ (1, pos 13) ∷ []) (negsuc 44) Le ∷
    form ((0, negsuc 6) ∷ (1, pos 9) ∷ []) (negsuc 9) Le ∷
    form ((0, pos 7) ∷ (1, negsuc 8) ∷ []) (negsuc 3) Le ∷ []

refutes_pughs : refuted_at (exact pughs 1000) ≡ Some 291
unfolding exact gcd pughs
refutes_pughs = refl

-- 3x - 5y - 1 = 0 and 10 - x <= 0 have the solution (12, 7)
line_and_bound : List (Linear ℕ)
line_and_bound =
    form ((0, pos 3) ∷ (1, negsuc 4) ∷ []) (negsuc 0) Eq ∷ form ((0, negsuc 0) ∷ []) (pos 10) Le ∷ []

solves : solved_at (exact line_and_bound 1000) ≡ Some (3, pos 12, pos 7)
unfolding exact gcd line_and_bound
solves = refl
