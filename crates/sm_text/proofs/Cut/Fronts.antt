-- Runs of bytes at the front of a text, and the numbers that digits write.
use Rattle.sm_text.proofs.Imports.{◌≡◌, ℕ, ◌+◌, ◌*◌, ◌<◌, ◌≤◌, ◌^◌, ◌-◌, nat_lt, Bool, true, false, List, length, take, get_or, ap, ◌∙◌, get_or-take, length-take, arith, nat_tests, prefix_len_passes, is_ascii_digit, digit_value, prefix_len, AllPass, IsAscii, digits_value, is_word_byte}
use Rattle.std.proofs.lemmas.Int.Digits.{digits_value_more}
use Rattle.std.proofs.lemmas.Str.Parse.{digits_value-take-le}
use Rattle.std.proofs.lemmas.Str.Ascii.{IsAscii-from_all}

-- each byte of a run passes
pub AllPass-run : (p : ℕ → Bool) (bytes : List ℕ) → AllPass p (take (prefix_len p bytes) bytes)
AllPass-run p bytes k d h =
    let within : k < prefix_len p bytes = omega (arith, length-take (prefix_len p bytes) bytes) in
    ap p (get_or-take (prefix_len p bytes) bytes k d within) ∙ prefix_len_passes p bytes k d within

-- a run of word bytes is ASCII
pub IsAscii-run : (bytes : List ℕ) → IsAscii (take (prefix_len is_word_byte bytes) bytes)
IsAscii-run bytes = IsAscii-from_all _
    (λ k d h. narrow (get_or (take (prefix_len is_word_byte bytes) bytes) k d) (AllPass-run is_word_byte bytes k d h))
  where
    narrow : (b : ℕ) → is_word_byte b ≡ true → b < 128
    narrow b h = grind (arith, nat_tests)

-- one more digit
pub digits_value-next : (ds : List ℕ) (i v u : ℕ) → AllPass is_ascii_digit ds → i < length ds → v ≡ digits_value 10 (take i ds) →
    u ≡ get_or ds i 0 - 48 → 10 * v + u ≡ digits_value 10 (take (i + 1) ds)
digits_value-next ds i v u digits h so_far unit =
    let d : is_ascii_digit (get_or ds i 0) ≡ true = digits i 0 h in
    let e = digits_value_more 10 ds i h in
    let w : digit_value (get_or ds i 0) ≡ get_or ds i 0 - 48 = digit_value-digit (get_or ds i 0) d in
    omega (arith, e, w, so_far, unit)
  where
    digit_value-digit : (c : ℕ) → is_ascii_digit c ≡ true → digit_value c ≡ c - 48
    digit_value-digit c h = grind (arith, nat_tests)

-- a number whose first digits write too much is too wide
pub too_wide : (ds : List ℕ) (i w : ℕ) → w ≡ digits_value 10 (take i ds) → 2 ^ 127 ≤ w → nat_lt (digits_value 10 ds) (2 ^ 127) ≡ false
too_wide ds i w e h = let l = digits_value-take-le 10 ds i (omega arith) in grind (arith, nat_tests, l, e)
