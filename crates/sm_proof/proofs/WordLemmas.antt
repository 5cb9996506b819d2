-- The first word of bytes and what is behind it, as the code finds them.
use Rattle.sm_proof.proofs.Imports.{◌≡◌, ℕ, suc, ◌+◌, ◌-◌, ◌<◌, Bool, true, false, not, ◌==◌, cond, if◌then◌else◌, List, [], ◌∷◌, length, take, drop, count_by, refl, sym, ap, ◌∙◌, arith, take_all, prefix_len, behind, with_byte}
use Rattle.std.proofs.lemmas.List.Recursion.{is_count_by}
use Rattle.sm_proof.specs.Numbers.{words_of}

-- bytes are split at the first space
split_first : (bytes : List ℕ)
    → words_of bytes ≡ take (prefix_len (λ (b : ℕ). not (b == 32)) bytes) bytes ∷ behind (drop (prefix_len (λ (b : ℕ). not
    (b == 32)) bytes) bytes)
unfolding words_of
split_first [] = refl
split_first (byte ∷ bytes) = by (byte == 32) (prefix_len (λ (b : ℕ). not (b == 32)) bytes) (split_first bytes)
  where
    by : (b : Bool) (k : ℕ) → words_of bytes ≡ take k bytes ∷ behind (drop k bytes)
        → (if b then [] ∷ words_of bytes else with_byte byte (words_of bytes))
        ≡ take (cond (not b) (1 + k) 0) (byte ∷ bytes) ∷ behind (drop (cond (not b) (1 + k) 0) (byte ∷ bytes))
    by true k more = refl
    by false k more =
        let e : 1 + k ≡ suc k = omega arith in
        ap (with_byte byte) more ∙ ap (λ (j : ℕ). take j (byte ∷ bytes) ∷ behind (drop j (byte ∷ bytes))) (sym e)

pub split_at : (bytes : List ℕ) (k : ℕ) → k ≡ prefix_len (λ (b : ℕ). not (b == 32)) bytes
    → words_of bytes ≡ take k bytes ∷ behind (drop k bytes)
split_at bytes k is = split_first bytes ∙ ap (λ (j : ℕ). take j bytes ∷ behind (drop j bytes)) (sym is)

-- there is a word before each space, and one more
abbrev spaces_in : List ℕ → ℕ
spaces_in [] = 0
spaces_in (byte ∷ bytes) = cond (byte == 32) (1 + spaces_in bytes) (spaces_in bytes)

words_length : (bytes : List ℕ) → length (words_of bytes) ≡ suc (spaces_in bytes)
unfolding words_of
words_length [] = refl
words_length (byte ∷ bytes) = by (byte == 32) (words_length bytes)
  where
    front : (ws : List (List ℕ)) → 0 < length ws → length (with_byte byte ws) ≡ length ws
    front [] some = absurd (omega arith)
    front (w ∷ ws) some = refl

    by : (b : Bool) → length (words_of bytes) ≡ suc (spaces_in bytes)
        → length (if b then [] ∷ words_of bytes else with_byte byte (words_of bytes)) ≡ suc (cond b (1 + spaces_in bytes) (spaces_in bytes))
    by true more = omega (arith, more)
    by false more = front (words_of bytes) (omega (arith, more)) ∙ more

pub count_behind : (rest : List ℕ) (n : ℕ) → 0 < length rest → n ≡ count_by (λ (b : ℕ). b == 32) (take (length rest - 1) (drop 1 rest))
    → n + 1 ≡ length (behind rest)
count_behind [] n some is = absurd (omega arith)
count_behind (space ∷ bytes) n some is =
    let whole : take (length (space ∷ bytes) - 1) bytes ≡ bytes = take_all (length (space ∷ bytes) - 1) bytes (omega arith) in
    let same : n ≡ count_by (λ (b : ℕ). b == 32) bytes = is ∙ ap (count_by (λ (b : ℕ). b == 32)) whole in
    omega (arith, words_length bytes, same, is_count_by spaces_in (λ (b : ℕ). b == 32) refl (λ x xs. refl) bytes)

-- what is behind a word begins with a space
pub behind_from : (rest : List ℕ) → 0 < length rest → behind rest ≡ words_of (take (length rest - 1) (drop 1 rest))
behind_from [] some = absurd (omega arith)
behind_from (space ∷ bytes) some = ap words_of (sym (take_all (length (space ∷ bytes) - 1) bytes (omega arith)))
