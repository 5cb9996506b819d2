-- How lines are read, number by number.
use Rattle.sm_proof.proofs.Imports.{◌≡◌, ◌≢◌, ℕ, ◌<◌, ◌≤◌, ◌-◌, ◌^◌, Bool, true, false, pos, negsuc, to_z, of_z, Option, Some, Ok, Err, List, [], ◌∷◌, length, take, drop, refl, sym, ap, ◌∙◌, arith, Decides-eqb, Decides-ltb, ne_eqb, to_z-of_z, bytes_eq-Decides, bytes_eq, w128, fits, MatchResult, codes, Fault, behind, fault_word, line_in, IsNextWord, IsNoNumber, Takes, filled, ProofLine, Header, Term, found_or, tested_or, BadLine, BadNumber, words_of, number_in, literal_in}
use Rattle.std.specs.Int.RustNames.{FitsSigned}
use Rattle.std.specs.Prelude.{Result, ℤ}
use Rattle.sm_proof.specs.declared.error.Fault.TheVariants as fault
use Rattle.sm_proof.specs.Fields.{taking}
use Rattle.sm_proof.specs.Lines.{Lit}
use Rattle.sm_proof.specs.Reading.{read_literal, read_second, read_version}
use Rattle.sm_proof.specs.Named.{Word}
use Rattle.sm_proof.proofs.NumberLemmas.{number_back, literal_back}
use Rattle.sm_proof.proofs.WordLemmas.{behind_from}

-- the word behind one, as it was split off
pub next_word : (most : ℕ) (rest word : List ℕ) (found : Option ℕ) (more : List (List ℕ)) → 0 < length rest
    → words_of (take (length rest - 1) (drop 1 rest)) ≡ word ∷ more → found ≡ number_in most word → IsNextWord most rest found more
next_word most rest word found more some split is = record {
  word = word;
  words = behind_from rest some ∙ split;
  number = sym is;
}

pub no_word : (rest : List ℕ) → length rest ≡ 0 → behind rest ≡ []
no_word [] e = refl
no_word (b ∷ bs) e = absurd (omega arith)

-- it is at most its limit
pub next_small : (most n : ℕ) (rest : List ℕ) (more : List (List ℕ)) → IsNextWord most rest (Some n) more → n ≤ most
next_small most n rest more w = (number_back most n w.word w.number).0

-- one more number is filled in, or it is ill spelled
pub filled_next : (most : ℕ) (fields : List ℕ) (made : Takes (most ∷ fields)) (rest : List ℕ) (n : ℕ) (more : List (List ℕ))
    → IsNextWord most rest (Some n) more → filled (most ∷ fields) made (behind rest) ≡ filled fields (made n) more
filled_next most fields made rest n more w =
    ap (filled (most ∷ fields) made) w.words
    ∙ ap (λ (o : Option ℕ). found_or o BadNumber (λ (m : ℕ). filled fields (made m) more)) w.number

pub filled_none : (most : ℕ) (fields : List ℕ) (made : Takes (most ∷ fields)) (rest : List ℕ) (e : Fault)
    → IsNoNumber most rest e → filled (most ∷ fields) made (behind rest) ≡ Err (fault_word e)
filled_none most fields made rest fault.Line h = ap (filled (most ∷ fields) made) h
filled_none most fields made rest fault.Number (more, w) =
    ap (filled (most ∷ fields) made) w.words
    ∙ ap (λ (o : Option ℕ). found_or o BadNumber (λ (m : ℕ). filled fields (made m) more)) w.number

-- as many words as there are fields, or not
pub taking_full : (fields : List ℕ) (made : Takes fields) (words : List (List ℕ)) → length words ≡ length fields
    → taking fields made words ≡ filled fields made words
unfolding taking
taking_full fields made words same =
    ap (λ (b : Bool). tested_or b BadLine (filled fields made words)) ((Decides-eqb (length words) (length fields)).1 same)

pub taking_other : (fields : List ℕ) (made : Takes fields) (words : List (List ℕ)) → length words ≢ length fields
    → taking fields made words ≡ Err BadLine
unfolding taking
taking_other fields made words other =
    ap (λ (b : Bool). tested_or b BadLine (filled fields made words)) (ne_eqb (length words) (length fields) other)

-- what a fault makes of a line
pub told_fault : {T : Type 0} (read : Result ProofLine Word) (r : Result T Fault) (f : T → ProofLine) (e : Fault)
    → read ≡ Err (fault_word e) → r ≡ Err e → read ≡ line_in r f
told_fault {T} read r f e is same = is ∙ ap (λ (q : Result T Fault). line_in q f) (sym same)

pub line_fault : (e : Fault) (read : Result ProofLine Word) → read ≡ Err BadLine → e ≡ fault.Line → read ≡ Err (fault_word e)
line_fault e read is same = is ∙ ap (λ (d : Fault). Err (fault_word d)) (sym same)

-- no numbers at all
pub none_taken : {T : Type 0} (made : ProofLine) (words : List (List ℕ)) (r : Result T Fault)
    → MatchResult r (λ _. length words ≡ 0) (λ (e : Fault). (length words ≢ 0) × (e ≡ fault.Line))
    → taking [] made words ≡ line_in r (λ _. made)
none_taken made words (Ok x) h = taking_full [] made words h
none_taken made words (Err e) h = line_fault e (taking [] made words) (taking_other [] made words h.0) h.1

-- literals
pub literal_other : (words : List (List ℕ)) → length words ≢ 1 → read_literal words ≡ Err BadLine
unfolding read_literal
literal_other [] other = refl
literal_other (word ∷ []) other = absurd (other refl)
literal_other (word ∷ next ∷ words) other = refl

pub literal_read : (words : List (List ℕ)) (word : List ℕ) (more : List (List ℕ)) (o : Option ℤ) → length words ≡ 1 → words ≡ word ∷ more
    → o ≡ literal_in word → read_literal words ≡ found_or o BadNumber (λ (z : ℤ). Ok (Term (Lit z)))
unfolding read_literal
literal_read [] word more o one is value = absurd (omega arith)
literal_read (w ∷ next ∷ words) word more o one is value = absurd (omega arith)
literal_read (w ∷ []) word more o one is value =
    let same : w ≡ word = cc in
    ap (λ (v : List ℕ). found_or (literal_in v) BadNumber (λ (z : ℤ). Ok (Term (Lit z)))) same
    ∙ ap (λ (p : Option ℤ). found_or p BadNumber (λ (z : ℤ). Ok (Term (Lit z)))) (sym value)

pub some_behind : (rest : List ℕ) → length (behind rest) ≡ 1 → 0 < length rest
some_behind [] one = absurd (omega arith)
some_behind (b ∷ bs) one = omega arith

-- a literal is the number that its 128 bits hold
fits_bits : (z : ℤ) → fits z ≡ true → FitsSigned w128 z
fits_bits (pos n) f = record { sfits = (Decides-ltb n (2 ^ 127)).0 f }
fits_bits (negsuc n) f = record { sfits = (Decides-ltb n (2 ^ 127)).0 f }

pub same_literal : (word : List ℕ) (z : ℤ) → Some z ≡ literal_in word → to_z w128 (of_z w128 z) ≡ z
same_literal word z is = to_z-of_z w128 z (fits_bits z (literal_back z word (sym is)).0)

-- versions
pub version_other : (words : List (List ℕ)) → length words ≢ 1 → read_version words ≡ Err BadLine
unfolding read_version
version_other [] other = refl
version_other (word ∷ []) other = absurd (other refl)
version_other (word ∷ next ∷ words) other = refl

version_alone : (words : List (List ℕ)) (word : List ℕ) (more : List (List ℕ)) → length words ≡ 1 → words ≡ word ∷ more → words ≡ word ∷ []
version_alone [] word more one is = absurd (omega arith)
version_alone (w ∷ next ∷ words) word more one is = absurd (omega arith)
version_alone (w ∷ []) word more one is = let same : w ≡ word = cc in ap (λ (v : List ℕ). v ∷ []) same

pub version_read : (words : List (List ℕ)) (word : List ℕ) (more : List (List ℕ)) (r : Result ProofLine Word) → length words ≡ 1
    → words ≡ word ∷ more → read_version (word ∷ []) ≡ r → read_version words ≡ r
version_read words word more r one is value = ap read_version (version_alone words word more one is) ∙ value

pub version_known : (word : List ℕ) → ((word ≡ codes "1") → read_version (word ∷ []) ≡ Ok (Header 1))
    × ((word ≡ codes "2") → read_version (word ∷ []) ≡ Ok (Header 2)) × ((word ≡ codes "3") → read_version (word ∷ []) ≡ Ok (Header 3))
unfolding read_version
version_known word = (
  λ e. ap (λ (w : List ℕ). read_version (w ∷ [])) e,
  λ e. ap (λ (w : List ℕ). read_version (w ∷ [])) e,
  λ e. ap (λ
      (w : List ℕ). read_version (w ∷ [])) e,
)

-- bytes that differ, to a test
pub unequal : (v w : List ℕ) → w ≢ v → bytes_eq v w ≡ false
unequal v w other = by (bytes_eq v w) refl
  where
    by : (b : Bool) → bytes_eq v w ≡ b → b ≡ false
    by true e = absurd (other (sym ((bytes_eq-Decides v w).0 e)))
    by false e = refl

pub version_unknown : (word : List ℕ) → word ≢ codes "1" → word ≢ codes "2" → word ≢ codes "3" → read_version (word ∷ []) ≡ Err BadLine
unfolding read_version
version_unknown word a b c = rw (unequal (codes "1") word a, unequal (codes "2") word b, unequal (codes "3") word c) refl

-- second words
pub second_none : {K : Type 0} (kind_of : List ℕ → Option K) (each : K → List (List ℕ) → Result ProofLine Word) (words : List (List ℕ))
    → words ≡ [] → read_second kind_of each words ≡ Err BadLine
unfolding read_second
second_none kind_of each words is = ap (read_second kind_of each) is

pub second_word : {K : Type 0} (kind_of : List ℕ → Option K) (each : K → List (List ℕ)
    → Result ProofLine Word) (words : List (List ℕ)) (word : List ℕ)
    (more : List (List ℕ)) (o : Option K) → words ≡ word ∷ more → o ≡ kind_of word
    → read_second kind_of each words ≡ found_or o BadLine (λ (k : K). each k more)
unfolding read_second
second_word {K} kind_of each words word more o is same =
    ap (read_second kind_of each) is ∙ ap (λ (p : Option K). found_or p BadLine (λ (k : K). each k more)) (sym same)
