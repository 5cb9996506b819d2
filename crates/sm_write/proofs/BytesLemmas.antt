-- The bytes of words and numbers are those of lines.
use Rattle.sm_write.proofs.Imports.{◌≡◌, ℕ, ℤ, List, [], ◌∷◌, ◌++◌, map, refl, ap, sym, ◌∙◌, decimal, signed_decimal, version_word, ProofLine, Header, line_words, numbers_text, one_word, two_words, line_text}
use Rattle.std.proofs.lemmas.List.{append_assoc, append-nil}
use Rattle.sm_proof.specs.Lines.{Term}
use Rattle.sm_proof.specs.declared.line.TermLine.TheVariants.{Lit}
use Rattle.sm_proof.specs.Spelling.{spaced, spelled}

-- words that are parted by spaces
spaced_numbers : (word : List ℕ) (ns : List ℕ) → spaced (word ∷ map decimal ns) ≡ word ++ numbers_text ns
unfolding spaced
spaced_numbers word [] = sym (append-nil word)
spaced_numbers word (n ∷ ns) = ap (λ (b : List ℕ). word ++ (32 ∷ b)) (spaced_numbers (decimal n) ns)

-- a line of one word and numbers
pub one_word_line : (line : ProofLine) (word : List ℕ) (ns : List ℕ) → line_words line ≡ word ∷ map decimal ns →
    one_word word ns ≡ line_text line
unfolding spelled
one_word_line line word ns e =
    sym (append_assoc word (numbers_text ns) (10 ∷ []))
    ∙ ap (λ (b : List ℕ). b ++ 10 ∷ []) (sym (spaced_numbers word ns) ∙ ap spaced (sym e))

-- a line of two words and numbers
pub two_words_line : (line : ProofLine) (first second : List ℕ) (ns : List ℕ) → line_words line ≡ first ∷ second ∷ map decimal ns →
    two_words first second ns ≡ line_text line
unfolding spelled spaced
two_words_line line first second ns e =
    ap (λ (b : List ℕ). first ++ (32 ∷ b)) (sym (append_assoc second (numbers_text ns) (10 ∷ [])))
    ∙ (sym (append_assoc first (32 ∷ (second ++ numbers_text ns)) (10 ∷ []))
    ∙ ap (λ (b : List ℕ). b ++ 10 ∷ [])
    (ap (λ (b : List ℕ). first ++ (32 ∷ b)) (sym (spaced_numbers second ns)) ∙ ap spaced (sym e)))

-- a literal's line
pub literal_line : (z : ℤ) → (116 ∷ 32 ∷ 108 ∷ 105 ∷ 116 ∷ 32 ∷ []) ++ (signed_decimal z ++ 10 ∷ []) ≡ line_text (Term (Lit z))
unfolding spelled spaced
literal_line z = refl

-- the version line
pub version_line : (n : ℕ) → one_word version_word (n ∷ []) ≡ line_text (Header n)
version_line n = one_word_line (Header n) version_word (n ∷ []) refl

-- the numbers of two lists
pub numbers_of_both : (ms ns : List ℕ) → numbers_text (ms ++ ns) ≡ numbers_text ms ++ numbers_text ns
numbers_of_both [] ns = refl
numbers_of_both (m ∷ ms) ns =
    ap (λ (b : List ℕ). (32 ∷ decimal m) ++ b) (numbers_of_both ms ns)
    ∙ sym (append_assoc (32 ∷ decimal m) (numbers_text ms) (numbers_text ns))
