-- The texts of the names differ from each other, and each is a word that isn't reserved.
use Rattle.sm_gen.proofs.Imports.{◌≡◌, ℕ, zero, suc, ◌+◌, ◌<◌, ◌≤◌, ◌^◌, Bool, true, false, ◌||◌, not, cond, Some, List, [], ◌∷◌, map, slice_get, refl, sym, ap, ap₂, ◌∙◌, arith, lit<, decimal_injective, map-range_with_len_more, decimal, range_with_len, position_or_len, bytes_eq, is_among, with_text, bytes_eq-refl, with_text-new, name_of}
use Rattle.std.proofs.lemmas.Slice.Eq.{bytes_eq-Decides}

-- the first byte, and the others
abbrev first_byte : List ℕ → ℕ
first_byte [] = 0
first_byte (b ∷ u) = b

abbrev later_bytes : List ℕ → List ℕ
later_bytes [] = []
later_bytes (b ∷ u) = u

-- two numbers with one text are one
one_name : (m n : ℕ) → m < 1000000 → n < 1000000 → name_of m ≡ name_of n → m ≡ n
one_name zero zero few less same = refl
one_name zero (suc zero) few less same = let no : 105 ≡ 110 = ap first_byte same in absurd (omega (arith, no))
one_name zero (suc (suc n)) few less same = let no : 105 ≡ 120 = ap first_byte same in absurd (omega (arith, no))
one_name (suc zero) zero few less same = let no : 110 ≡ 105 = ap first_byte same in absurd (omega (arith, no))
one_name (suc zero) (suc zero) few less same = refl
one_name (suc zero) (suc (suc n)) few less same = let no : 110 ≡ 120 = ap first_byte same in absurd (omega (arith, no))
one_name (suc (suc m)) zero few less same = let no : 120 ≡ 105 = ap first_byte same in absurd (omega (arith, no))
one_name (suc (suc m)) (suc zero) few less same = let no : 120 ≡ 110 = ap first_byte same in absurd (omega (arith, no))
one_name (suc (suc m)) (suc (suc n)) few less same =
    let digits : decimal (suc m) ≡ decimal (suc n) = ap later_bytes same in
    let wide : 1000000 < 2 ^ 64 = lit< tt in
    ap suc (decimal_injective (suc m) (suc n) (omega (arith, few, wide)) (omega (arith, less, wide)) digits)

-- so two names have two texts
apart : (m n : ℕ) → m < n → n < 1000000 → bytes_eq (name_of n) (name_of m) ≡ false
apart m n below few = by (bytes_eq (name_of n) (name_of m)) refl
  where
    by : (b : Bool) → bytes_eq (name_of n) (name_of m) ≡ b → bytes_eq (name_of n) (name_of m) ≡ false
    by false e = e
    by true e =
        let same = one_name n m few (omega (arith, below, few)) ((bytes_eq-Decides (name_of n) (name_of m)).0 e) in
        absurd (omega (arith, same, below))

-- a name is none of those before it
fresh : (a k n : ℕ) → a + k ≤ n → n < 1000000 → is_among (map name_of (range_with_len a k)) (name_of n) ≡ false
fresh a zero n before few = refl
fresh a (suc k) n before few =
    ap₂ (λ (x y : Bool). x || y) (apart a n (omega (arith, before)) few) (fresh (a + 1) k n (omega (arith, before)) few)

-- one more name is one more text
pub names_more : (n : ℕ) → n < 1000000 → with_text (map name_of (range_with_len 0 n)) (name_of n) ≡ map name_of (range_with_len 0 (n + 1))
names_more n few =
    with_text-new (map name_of (range_with_len 0 n)) (name_of n) (fresh 0 n n (omega arith) few)
    ∙ sym (map-range_with_len_more name_of 0 n n (omega arith))

-- the text at a place
pub text_at : (a k i : ℕ) → i < k → slice_get (map name_of (range_with_len a k)) i ≡ Some (name_of (a + i))
text_at a zero i here = absurd (omega (arith, here))
text_at a (suc k) zero here = let e : a ≡ a + 0 = omega arith in ap (λ (n : ℕ). Some (name_of n)) e
text_at a (suc k) (suc i) here =
    let e : a + 1 + i ≡ a + suc i = omega arith in
    text_at (a + 1) k i (omega (arith, here)) ∙ ap (λ (n : ℕ). Some (name_of n)) e

-- a name's text is at its number
pub place_of : (a k i n : ℕ) → a + i ≡ n → i < k → n < 1000000 →
    position_or_len (bytes_eq (name_of n)) (map name_of (range_with_len a k)) ≡ i
place_of a zero i n at here few = absurd (omega (arith, here))
place_of a (suc k) zero n at here few =
    let e : a ≡ n = omega (arith, at) in
    ap (λ (b : Bool). cond (not b) (1 + position_or_len (bytes_eq (name_of n)) (map name_of (range_with_len (a + 1) k))) 0)
    (ap (λ (m : ℕ). bytes_eq (name_of n) (name_of m)) e ∙ bytes_eq-refl (name_of n))
place_of a (suc k) (suc i) n at here few =
    let more = place_of (a + 1) k i n (omega (arith, at)) (omega (arith, here)) few in
    let e : 1 + i ≡ suc i = omega arith in
    ap (λ (b : Bool). cond (not b) (1 + position_or_len (bytes_eq (name_of n)) (map name_of (range_with_len (a + 1) k))) 0)
    (apart a n (omega (arith, at)) few)
    ∙ ap (λ (j : ℕ). 1 + j) more ∙ e

-- a name's text is among the texts
pub stands : (a k i n : ℕ) → a + i ≡ n → i < k → is_among (map name_of (range_with_len a k)) (name_of n) ≡ true
stands a zero i n at here = absurd (omega (arith, here))
stands a (suc k) zero n at here =
    let e : a ≡ n = omega (arith, at) in
    ap (λ (b : Bool). b || is_among (map name_of (range_with_len (a + 1) k)) (name_of n))
    (ap (λ (m : ℕ). bytes_eq (name_of n) (name_of m)) e ∙ bytes_eq-refl (name_of n))
stands a (suc k) (suc i) n at here =
    ap (λ (b : Bool). bytes_eq (name_of n) (name_of a) || b) (stands (a + 1) k i n (omega (arith, at)) (omega (arith, here)))
    ∙ or_true (bytes_eq (name_of n) (name_of a))
  where
    or_true : (b : Bool) → (b || true) ≡ true
    or_true true = refl
    or_true false = refl
