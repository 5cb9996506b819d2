-- Eliminations worked by hand and by the definitions.
use Rattle.sm_fm.proofs.Imports.{◌≡◌, ℕ, ℤ, pos, negsuc, true, false, List, [], ◌∷◌, refl, Linear, Kind, Le, Eq, Cancels, GoesBeyond, events}
use Rattle.sm_num.specs.declared.op.Op.TheVariants.{Add}
use Rattle.sm_num.specs.Eliminating.{gcd}

-- a form
abbrev form : List (ℕ × ℤ) → ℤ → Kind → Linear ℕ
form parts constant kind = record { parts = parts; constant = constant; kind = kind }

-- x + 1 <= 0 and -x <= 0: the second, whose coefficient is below 0, comes first; they give 1 <= 0
no_number : events (form ((0, pos 1) ∷ []) (pos 1) Le ∷ form ((0, negsuc 0) ∷ []) (pos 0) Le ∷ []) 1 ≡ Cancels 1 0 0 false true ∷ []
unfolding gcd
no_number = refl

-- x - y = 0, x - 2 <= 0 and 3 - y <= 0: the first is the pivot of x; y - 2 <= 0 is kept at place 3, and with 3 - y <= 0 gives 1 <= 0
through_pivot : events
    (form ((0, pos 1) ∷ (1, negsuc 0) ∷ []) (pos 0) Eq ∷ form ((0, pos 1) ∷ []) (negsuc 1) Le ∷ form ((1, negsuc 0) ∷ []) (pos 3) Le ∷ []) 2
    ≡ Cancels 1 0 0 true false ∷ Cancels 2 3 1 false true ∷ []
unfolding gcd
through_pivot = refl

-- where y - 2 <= 0 is there already, at place 2, the sum isn't kept
there_already : events
    (form ((0, pos 1) ∷ (1, negsuc 0) ∷ []) (pos 0) Eq
    ∷ form ((0, pos 1) ∷ []) (negsuc 1) Le
    ∷ form ((1, pos 1) ∷ []) (negsuc 1) Le
    ∷ form ((1, negsuc 0) ∷ []) (pos 3) Le
    ∷ []) 2 ≡ Cancels 1 0 0 false false ∷ Cancels 3 2 1 false true ∷ []
unfolding gcd
there_already = refl

-- x - 1 <= 0 and -x <= 0 give -1 <= 0, which has no parts and isn't kept; then nothing is left
all_quiet : events (form ((0, pos 1) ∷ []) (negsuc 0) Le ∷ form ((0, negsuc 0) ∷ []) (pos 0) Le ∷ []) 3 ≡ Cancels 1 0 0 false false ∷ []
unfolding gcd
all_quiet = refl

-- M - x <= 0 and x + M <= 0, where M is 2^127 - 1: M + M leaves the range
beyond : events
    (form ((0, negsuc 0) ∷ []) (pos 170141183460469231731687303715884105727) Le
    ∷ form ((0, pos 1) ∷ []) (pos 170141183460469231731687303715884105727) Le
    ∷ []) 1 ≡ GoesBeyond Add (pos 170141183460469231731687303715884105727) (pos 170141183460469231731687303715884105727) ∷ []
unfolding gcd
beyond = refl
