-- Cited by public clauses: the numbers of a line, field by field.
use Rattle.std.specs.Prelude.{ℕ, ◌==◌, ◌-◌, ◌^◌, length, Result, Ok, Err, List, [], ◌∷◌}
use Rattle.sm_proof.specs.Lines.{ProofLine}
use Rattle.sm_proof.specs.Named.{found_or, tested_or, Word, BadLine, BadNumber}
use Rattle.sm_proof.specs.Numbers.{number_in}

-- the greatest numbers of fields: any number, a copy, a side, a set of copies
abbrev pub any : ℕ
any = 2 ^ 64 - 1

abbrev pub copy : ℕ
copy = 3

abbrev pub side : ℕ
side = 1

abbrev pub set : ℕ
set = 255

-- a line that is made of numbers, as many as there are fields
abbrev pub Takes : List ℕ → Type 0
Takes [] = ProofLine
Takes (most ∷ fields) = ℕ → Takes fields

-- the line of the numbers that words spell, where these are as many as there are fields
abbrev pub filled : (fields : List ℕ) → Takes fields → List (List ℕ) → Result ProofLine Word
filled [] made words = Ok made
filled (most ∷ fields) made [] = Err BadLine
filled (most ∷ fields) made (word ∷ words) =
    found_or (number_in most word) BadNumber (λ (n : ℕ). filled fields (made n) words)

-- the line of the numbers that words spell
unfoldable pub taking : (fields : List ℕ) → Takes fields → List (List ℕ) → Result ProofLine Word
taking fields made words =
    tested_or (length words == length fields) BadLine (filled fields made words)
