-- Numbers that are short, one after the other.
use Rattle.sm_write.proofs.Imports.{ℕ, zero, suc, ◌+◌, ◌<◌, ◌^◌, List, [], ◌∷◌, ◌++◌, length, take, get_or, sym, subst, arith, take_more, AreShortNumbers}

numbers_more : (ns : List ℕ) (n : ℕ) → AreShortNumbers ns → n < 2 ^ 63 → AreShortNumbers (ns ++ n ∷ [])
numbers_more [] n all low = (low, tt)
numbers_more (m ∷ ns) n all low = (all.0, numbers_more ns n all.1 low)

-- one number more
pub numbers_low : (ns : List ℕ) (i d : ℕ) → AreShortNumbers (take i ns) → i < length ns → get_or ns i d < 2 ^ 63 →
    AreShortNumbers (take (i + 1) ns)
numbers_low ns i d all h low = subst AreShortNumbers (sym (take_more ns i d h)) (numbers_more (take i ns) (get_or ns i d) all low)

-- each of several short numbers is
pub number_low : (ns : List ℕ) (i d : ℕ) → AreShortNumbers ns → i < length ns → get_or ns i d < 2 ^ 63
number_low [] i d all h = absurd (omega arith)
number_low (n ∷ ns) zero d all h = all.0
number_low (n ∷ ns) (suc i) d all h = number_low ns i d all.1 (omega arith)
