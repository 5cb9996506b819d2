-- Cited by public clauses: the words of bytes, and the numbers that words spell.
use Rattle.std.specs.Prelude.{ℕ, ℤ, nat_le, ◌==◌, ◌&&◌, if◌then◌else◌, Option, Some, None, List, [], ◌∷◌}
use Rattle.std.specs.Fmt.{decimal, signed_decimal}
use Rattle.std.specs.Str.{bytes_eq}
use Rattle.std.specs.Str.Parse.{digits_value, signed_digits_value}
use Rattle.sm_num.specs.Range.{fits}
use Rattle.sm_theory.specs.Lines.{followed}

-- a byte before words: it stands in the first
abbrev pub with_byte : ℕ → List (List ℕ) → List (List ℕ)
with_byte byte [] = (byte ∷ []) ∷ []
with_byte byte (word ∷ words) = (byte ∷ word) ∷ words

-- the words of bytes: what stands before, between and behind the single spaces
unfoldable pub words_of : List ℕ → List (List ℕ)
words_of [] = [] ∷ []
words_of (byte ∷ bytes) =
    if byte == 32 then [] ∷ words_of bytes else with_byte byte (words_of bytes)

-- the number, at most `most`, whose decimal text a word is
unfoldable pub number_in : ℕ → List ℕ → Option ℕ
number_in most word =
    let n = digits_value 10 word in
    if nat_le n most && bytes_eq (decimal n) word then Some n else None

-- the number of 128 bits whose decimal text a word is
unfoldable pub literal_in : List ℕ → Option ℤ
literal_in word =
    let z = signed_digits_value 10 word in
    if fits z && bytes_eq (signed_decimal z) word then Some z else None

-- the numbers, each at most `most`, whose decimal texts words are
unfoldable pub numbers_in : ℕ → List (List ℕ) → Option (List ℕ)
numbers_in most [] = Some []
numbers_in most (word ∷ words) =
    followed (number_in most word)
    (λ (n : ℕ). followed (numbers_in most words) (λ (ns : List ℕ). Some (n ∷ ns)))
