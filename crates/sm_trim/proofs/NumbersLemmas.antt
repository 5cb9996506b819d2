-- New numbers of facts.
use Rattle.sm_trim.proofs.Imports.{◌≡◌, ◌⊎◌, ◌<◌, ◌≤◌, ◌+◌, ◌-◌, ℕ, List, ◌++◌, length, get_or, ap, sym, ◌∙◌, arith, inl, inr, range_with_len, length-append, get_or-append-add, get_or_past, new_number, numbered_on}
use Rattle.std.proofs.Math.ListN.{get_or-append}
use Rattle.std.proofs.lemmas.List.FromFn.{length-range_with_len, get_or-range_with_len}

-- the numbers up to fact `at`
abbrev pub padded : List ℕ → ℕ → List ℕ
padded moved at = moved ++ range_with_len (length moved) (at - length moved)

pub padded_length : (moved : List ℕ) (at : ℕ) → length moved ≤ at → length (padded moved at) ≡ at
padded_length moved at short =
    let a = length-append moved (range_with_len (length moved) (at - length moved)) in
    let b = length-range_with_len (length moved) (at - length moved) in omega arith

-- how many there are then
pub numbered_length : (moved : List ℕ) (at to k : ℕ) → length moved ≤ at → length (numbered_on moved at to k) ≡ at + k
numbered_length moved at to k short =
    let a = length-append (padded moved at) (range_with_len to k) in
    let b = padded_length moved at short in
    let d = length-range_with_len to k in omega arith

-- a number is less than another, or not
pub less_or_not : (n m : ℕ) → (n < m) ⊎ (m ≤ n)
less_or_not n m = grind arith

-- what isn't told keeps its number
padded_same : (moved : List ℕ) (at n : ℕ) → n < at → length moved ≤ at → get_or (padded moved at) n n ≡ get_or moved n n
padded_same moved at n less short = of (less_or_not n (length moved))
  where
    of : (n < length moved) ⊎ (length moved ≤ n) → get_or (padded moved at) n n ≡ get_or moved n n
    of (inl h) = get_or-append moved (range_with_len (length moved) (at - length moved)) n n h
    of (inr h) =
        let there : n ≡ length moved + (n - length moved) = omega arith in
        let within : n - length moved < at - length moved = omega arith in
        ap (λ (i : ℕ). get_or (padded moved at) i n) there
        ∙ get_or-append-add moved (range_with_len (length moved) (at - length moved)) (n - length moved) n
        ∙ get_or-range_with_len (length moved) (at - length moved) (n - length moved) n within
        ∙ sym there
        ∙ sym (get_or_past moved n n h)

-- a fact before number `at` keeps its new number
pub number_before : (moved : List ℕ) (at to k n : ℕ) → length moved ≤ at → n < at →
    new_number (numbered_on moved at to k) n ≡ new_number moved n
number_before moved at to k n short less =
    let long = padded_length moved at short in
    get_or-append (padded moved at) (range_with_len to k) n n (let within : n < length (padded moved at) = omega arith in within)
    ∙ padded_same moved at n less short

-- those from there on get the next
pub number_there : (moved : List ℕ) (at to k j : ℕ) → length moved ≤ at → j < k →
    new_number (numbered_on moved at to k) (at + j) ≡ to + j
number_there moved at to k j short less =
    let long : at + j ≡ length (padded moved at) + j = let l = padded_length moved at short in omega arith in
    ap (λ (i : ℕ). get_or (numbered_on moved at to k) i (at + j)) long
    ∙ get_or-append-add (padded moved at) (range_with_len to k) j (at + j)
    ∙ get_or-range_with_len to k j (at + j) less

-- what is past them keeps its number
pub number_past : (moved : List ℕ) (at to k n : ℕ) → length moved ≤ at → at + k ≤ n → new_number (numbered_on moved at to k) n ≡ n
number_past moved at to k n short more =
    let long = numbered_length moved at to k short in
    get_or_past (numbered_on moved at to k) n n (let within : length (numbered_on moved at to k) ≤ n = omega arith in within)

-- where a fact stands, as its number is seen from fact `at`
pub data Place (at k n : ℕ) : Type 0 where
  Before : n < at → Place at k n
  There : (j : ℕ) → j < k → n ≡ at + j → Place at k n
  Past : at + k ≤ n → Place at k n

pub place : (at k n : ℕ) → Place at k n
place at k n = of (less_or_not n at) (less_or_not n (at + k))
  where
    of : (n < at) ⊎ (at ≤ n) → (n < at + k) ⊎ (at + k ≤ n) → Place at k n
    of (inl h) later = Before h
    of (inr h) (inl g) = There (n - at) (let a : n - at < k = omega arith in a) (let b : n ≡ at + (n - at) = omega arith in b)
    of (inr h) (inr g) = Past g
