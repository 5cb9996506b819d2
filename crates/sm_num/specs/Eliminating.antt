-- Cited by public clauses: the sum of two forms in which an atom cancels, forms divided by what
-- divides them, and contradictions.
use Rattle.std.specs.Prelude.{ℕ, zero, suc, ◌/◌, ◌%◌, ◌==◌, ℤ, pos, negsuc, neg_ℤ, nat_abs, Bool, true, false, ◌&&◌, ◌||◌, not, if◌then◌else◌, List, [], ◌∷◌, map}
use Rattle.std.specs.Ordering.{int_eq}
use Rattle.sm_num.specs.Forms.{Linear, coefficient, without, Kind, Le, Eq}
use Rattle.sm_num.specs.Combining.{Outcome, Fits, then_with, combined, combination}

-- Euclid's algorithm, in at most n steps
abbrev pub gcd_within : ℕ → ℕ → ℕ → ℕ
gcd_within zero a b = a
gcd_within (suc n) a zero = a
gcd_within (suc n) a (suc b) = gcd_within n (suc b) (a % suc b)

-- the greatest common divisor, 0 of 0 and 0
unfoldable pub gcd : ℕ → ℕ → ℕ
gcd a b = gcd_within (suc b) a b

-- whether a form says that its sum is 0
abbrev pub is_equation : Kind → Bool
is_equation Le = false
is_equation Eq = true

-- whether a number is below 0
abbrev pub is_negative : ℤ → Bool
is_negative (pos n) = false
is_negative (negsuc n) = true

-- whether two numbers that aren't 0 have one sign
abbrev pub signs_alike : ℤ → ℤ → Bool
signs_alike y z = if is_negative y then is_negative z else not (is_negative z)

-- whether an atom can be cancelled between two forms
abbrev pub can_cancel : {A : Type 0} → (A → A → Bool) → Linear A → Linear A → A → Bool
can_cancel same f g t =
    let a = coefficient same t f.parts in
    let b = coefficient same t g.parts in
    not (int_eq a (pos 0))
    && (not (int_eq b (pos 0))
    && (is_equation f.kind || (is_equation g.kind || not (signs_alike a b))))

-- the multipliers of two forms with which coefficients a and b cancel: where the signs are alike,
-- that of an equation is below 0
abbrev pub multipliers : ℤ → ℤ → Kind → ℤ × ℤ
multipliers a b kind_of_g =
    let d = gcd (nat_abs a) (nat_abs b) in
    let p = pos (nat_abs b / d) in
    let q = pos (nat_abs a / d) in
    if signs_alike a b then (if is_equation kind_of_g then (p, neg_ℤ q) else (neg_ℤ p, q))
    else (p, q)

-- the kind of a sum of two forms
abbrev pub kind_of_sum : Kind → Kind → Kind
kind_of_sum Le kind = Le
kind_of_sum Eq kind = kind

-- the number divided, its quotient rounded down; not divided by 0
abbrev pub floor_of : ℤ → ℕ → ℤ
floor_of (pos n) d = if d == 0 then pos n else pos (n / d)
floor_of (negsuc n) d = if d == 0 then negsuc n else negsuc (n / d)

-- the number divided, its quotient rounded up; not divided by 0
abbrev pub ceiling_of : ℤ → ℕ → ℤ
ceiling_of z d = neg_ℤ (floor_of (neg_ℤ z) d)

-- the greatest common divisor of the coefficients
abbrev pub divisor_of_parts : {A : Type 0} → List (A × ℤ) → ℕ
divisor_of_parts [] = 0
divisor_of_parts (p ∷ ps) = gcd (nat_abs p.1) (divisor_of_parts ps)

-- the parts with their coefficients divided
abbrev pub divided_parts : {A : Type 0} → ℕ → List (A × ℤ) → List (A × ℤ)
divided_parts d ps = map (λ p. (p.0, floor_of p.1 d)) ps

-- a form divided by the greatest common divisor of all its numbers
abbrev pub divided : {A : Type 0} → Linear A → Linear A
divided f =
    let d = gcd (nat_abs f.constant) (divisor_of_parts f.parts) in
    record { parts = divided_parts d f.parts; constant = floor_of f.constant d; kind = f.kind }

-- goes on with a form that is divided
abbrev pub then_divided : {A : Type 0} → Outcome (Linear A) → Outcome (Linear A)
then_divided outcome = then_with outcome (λ h. Fits (divided h))

-- the sum of two forms in which an atom cancels; nothing is computed for that atom
abbrev pub eliminated : Linear ℕ → Linear ℕ → ℕ → Outcome (Linear ℕ)
eliminated f g t =
    let same = λ (a b : ℕ). a == b in
    let m = multipliers (coefficient same t f.parts) (coefficient same t g.parts) g.kind in
    then_divided
    (combined (without same t f) m.0 (without same t g) m.1 (kind_of_sum f.kind g.kind))

-- the sum of two forms over any atoms in which one cancels; nothing is computed for that atom
abbrev pub elimination :
    {A : Type 0} → (A → A → Bool) → Linear A → Linear A → A → Outcome (Linear A)
elimination same f g t =
    let m = multipliers (coefficient same t f.parts) (coefficient same t g.parts) g.kind in
    then_divided
    (combination same (without same t f) m.0 (without same t g) m.1 (kind_of_sum f.kind g.kind))
