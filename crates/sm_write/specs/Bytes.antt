-- Private: the bytes that are put behind a text.
use Rattle.std.specs.Prelude.{ℕ, List, [], ◌∷◌, ◌++◌}
use Rattle.std.specs.Fmt.{decimal}
use Rattle.sm_proof.specs.Lines.{ProofLine}
use Rattle.sm_proof.specs.Spelling.{spelled}

-- numbers, each behind a space
abbrev pub numbers_text : List ℕ → List ℕ
numbers_text [] = []
numbers_text (n ∷ ns) = (32 ∷ decimal n) ++ numbers_text ns

-- a line of one word and numbers
abbrev pub one_word : List ℕ → List ℕ → List ℕ
one_word word ns = word ++ (numbers_text ns ++ 10 ∷ [])

-- a line of two words and numbers
abbrev pub two_words : List ℕ → List ℕ → List ℕ → List ℕ
two_words first second ns = first ++ (32 ∷ second ++ (numbers_text ns ++ 10 ∷ []))

-- a line
abbrev pub line_text : ProofLine → List ℕ
line_text line = spelled line ++ 10 ∷ []
