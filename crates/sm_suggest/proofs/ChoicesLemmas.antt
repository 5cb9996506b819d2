-- Digits that are taken from the last hole on, and turned round.
use Rattle.sm_suggest.proofs.Imports.{◌≡◌, ℕ, suc, ◌+◌, ◌-◌, ◌/◌, ◌%◌, ◌^◌, ◌<◌, ◌≤◌, zero, List, [], ◌∷◌, ◌++◌, map, length, length-append, reverse, refl, sym, ap, ◌∙◌, append_assoc, arith, lit<, Copy, CopyName, copy_named, choices, copy_of_digit}
use Rattle.std.proofs.Math.Nat.{pow-suc}
use Rattle.std.proofs.lemmas.List.{length-map, reverse-append}

-- one digit more is taken of what is left, and stands before those that were taken
choices_more : (left rest : ℕ) (taken : List Copy) → 0 < left →
    choices left rest ++ taken ≡ choices (left - 1) (rest / 3) ++ (copy_of_digit (rest % 3) ∷ taken)
choices_more zero rest taken some = absurd (omega arith)
choices_more (suc left) rest taken some =
    append_assoc (choices left (rest / 3)) (copy_of_digit (rest % 3) ∷ []) taken
    ∙ ap (λ (n : ℕ). choices n (rest / 3) ++ (copy_of_digit (rest % 3) ∷ taken)) (let e : left ≡ suc left - 1 = omega arith in e)

-- the copy of that digit goes to the end of a list that is turned round
pub digit_taken : (left rest : ℕ) (list : List CopyName) (x : CopyName) → 0 < left → copy_named x ≡ copy_of_digit (rest % 3)
    → choices (left - 1) (rest / 3) ++ map copy_named (reverse (list ++ x ∷ []))
    ≡ choices left rest ++ map copy_named (reverse list)
digit_taken left rest list x some named =
    let taken = map copy_named (reverse list) in
    let before = choices (left - 1) (rest / 3) in
    ap (λ (xs : List CopyName). before ++ map copy_named xs) (reverse-append list (x ∷ []))
    ∙ ap (λ (c : Copy). before ++ (c ∷ taken)) named
    ∙ sym (choices_more left rest taken some)

-- each hole has one copy
choices_length : (holes k : ℕ) → length (choices holes k) ≡ holes
choices_length zero k = refl
choices_length (suc holes) k =
    length-append (choices holes (k / 3)) (copy_of_digit (k % 3) ∷ [])
    ∙ (let e : length (choices holes (k / 3)) ≡ holes = choices_length holes (k / 3) in omega arith)

-- copies that are chosen for holes are as many as the holes
pub as_many : (copies : List CopyName) (holes k : ℕ) → map copy_named copies ≡ choices holes k → length copies ≡ holes
as_many copies holes k e = sym (length-map copies copy_named) ∙ ap length e ∙ choices_length holes k

-- a power of 3 is no greater than one with a greater exponent
powers_rise : (n d : ℕ) → 3 ^ n ≤ 3 ^ (n + d)
powers_rise n zero = let e : n + 0 ≡ n = omega arith in rw e (omega arith)
powers_rise n (suc d) =
    let e : n + suc d ≡ suc (n + d) = omega arith in
    rw (e, pow-suc 3 (n + d)) (omega (arith, powers_rise n d))

-- up to 8 the power fits into 64 bits
pub power_fits : (n : ℕ) → n ≤ 8 → 3 ^ n < 2 ^ 64
power_fits n few =
    let e : n + (8 - n) ≡ 8 = omega arith in
    let most : 3 ^ n ≤ 3 ^ 8 = rw e at (powers_rise n (8 - n)) in
    let bound : 3 ^ 8 < 2 ^ 64 = lit< tt in
    omega arith
