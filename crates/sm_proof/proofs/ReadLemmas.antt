-- What a line is read as, as the code goes through its words.
use Rattle.sm_proof.proofs.Imports.{◌≡◌, ◌≢◌, ◌⊎◌, ℕ, suc, ◌+◌, ◌<◌, ◌≤◌, Bool, true, false, not, ◌==◌, cond, if◌then◌else◌, nat_le, Option, Some, None, option_map, Ok, Err, List, [], ◌∷◌, ◌++◌, length, take, refl, sym, ap, subst, ◌∙◌, inl, inr, arith, append_assoc, length-take-le, nat_tests, prefix_len, IfOk, IfErr, codes, bytes_eq, followed, Fault, behind, fault_error, fault_word, IsAnswer, IsNextWord, IsNoNumber, IsWithinFields, any, head_of, version_word, ProofLine, Cert, found_or, tested_or, BadLine, BadNumber, words_of, number_in, read_rest, read_version, are_exact}
use mathlib.Core.List.{append-nil}
use Rattle.std.specs.Prelude.{Result}
use Rattle.sm_proof.specs.declared.error.Fault.TheVariants as fault
use Rattle.sm_proof.specs.declared.error.LineError.{LineError}
use Rattle.sm_proof.specs.declared.error.LineError.TheVariants as error
use Rattle.sm_proof.specs.declared.word.Head.TheVariants as head
use Rattle.sm_proof.specs.Lines as line
use Rattle.sm_proof.specs.Named.{Word, Head}
use Rattle.sm_proof.specs.Numbers.{numbers_in}
use Rattle.sm_proof.specs.Reading.{first_line, read, read_cong, read_words}
use Rattle.sm_proof.specs.Versions.{begins_exact}
use Rattle.sm_proof.proofs.ReadIsSpelled.{read_spelled}
use Rattle.sm_proof.proofs.SplitLemmas.{some_words}
use Rattle.sm_proof.proofs.TakingLemmas.{unequal}

-- a read that is another, and the fault of one
pub same_answer : {T : Type 0} (read other : Result ProofLine Word) (r : Result T LineError) (f : T → ProofLine)
    → read ≡ other → IsAnswer other r f → IsAnswer read r f
same_answer read other r f same h = subst (λ (q : Result ProofLine Word). IsAnswer q r f) (sym same) h

fault_told : {T : Type 0} (read : Result ProofLine Word) (f : T → ProofLine) (e : Fault) → read ≡ Err (fault_word e)
    → IsAnswer read (Err (fault_error e)) f
fault_told read f fault.Line is = is
fault_told read f fault.Number is = is

pub fault_answer : {T : Type 0} (read : Result ProofLine Word) (r : Result T LineError) (f : T → ProofLine) (e : Fault)
    → read ≡ Err (fault_word e) → r ≡ Err (fault_error e) → IsAnswer read r f
fault_answer {T} read r f e is same = subst (λ (q : Result T LineError). IsAnswer read q f) (sym same) (fault_told read f e is)

-- by the first word
pub words_version : (words : List (List ℕ)) (word : List ℕ) (more : List (List ℕ)) → words ≡ word ∷ more → word ≡ version_word
    → read_words words ≡ read_version more
unfolding read_words
words_version words word more is same = ap read_words is ∙ ap (λ (w : List ℕ). read_words (w ∷ more)) same

pub words_headed : (words : List (List ℕ)) (word : List ℕ) (more : List (List ℕ)) (o : Option Head) → words ≡ word ∷ more
    → word ≢ version_word
    → o ≡ head_of word → read_words words ≡ found_or o BadLine (λ (h : Head). read_rest h more)
unfolding read_words
words_headed words word more o is other same =
    ap read_words is
    ∙ ap (λ (b : Bool). if b then read_version more else found_or (head_of word) BadLine (λ (h : Head). read_rest h more))
    (unequal version_word word other)
    ∙ ap (λ (p : Option Head). found_or p BadLine (λ (h : Head). read_rest h more)) (sym same)

-- bytes begin with the word of lines `exact` where their first word is that
pub begins_is : (bytes word : List ℕ) (more : List (List ℕ)) (b : Bool) → words_of bytes ≡ word ∷ more
    → (b ≡ true → word ≡ codes "exact") → (b ≡ false → word ≢ codes "exact") → b ≡ begins_exact bytes
unfolding begins_exact
begins_is bytes word more true is same other = sym (ap are_exact is ∙ ap (bytes_eq (codes "exact")) (same refl))
begins_is bytes word more false is same other = sym (ap are_exact is ∙ unequal (codes "exact") word (other refl))

-- the line feed
first_split : (bytes : List ℕ) → (k : ℕ) → k ≡ prefix_len (λ (b : ℕ). not (b == 10)) bytes
    → ((k ≡ length bytes) × (first_line bytes ≡ None)) ⊎ ((k < length bytes) × (first_line bytes ≡ Some (take k bytes)))
unfolding first_line
first_split [] k is = inl (is, refl)
first_split (byte ∷ bytes) k is = by (byte == 10) k (prefix_len (λ (b : ℕ). not (b == 10)) bytes) is (first_split bytes _ refl)
  where
    by : (b : Bool) (k j : ℕ) → k ≡ cond (not b) (1 + j) 0
        → ((j ≡ length bytes) × (first_line bytes ≡ None)) ⊎ ((j < length bytes) × (first_line bytes ≡ Some (take j bytes)))
        → ((k ≡ length (byte ∷ bytes)) × ((if b then Some [] else option_map (λ (line : List ℕ). byte ∷ line) (first_line bytes)) ≡ None))
        ⊎ ((k < length (byte ∷ bytes)) × ((if b then Some [] else option_map (λ (line : List ℕ). byte ∷ line) (first_line bytes)) ≡ Some
        (take k (byte ∷ bytes))))
    by true k j e h = inr (omega (arith, e), ap (λ (i : ℕ). Some (take i (byte ∷ bytes))) (sym e))
    by false k j e (inl h) = inl (omega (arith, e, h.0), ap (option_map (λ (line : List ℕ). byte ∷ line)) h.1)
    by false k j e (inr h) =
        let next : k ≡ suc j = omega (arith, e) in
        inr (
          omega (arith, e, h.0),
          ap (option_map (λ (line : List ℕ). byte ∷ line)) h.1 ∙ ap (λ (i : ℕ). Some (take i (byte ∷ bytes))) (sym next),
        )

pub first_none : (bytes : List ℕ) (k : ℕ) → k ≡ prefix_len (λ (b : ℕ). not (b == 10)) bytes → k ≡ length bytes → first_line bytes ≡ None
first_none bytes k is all = by (first_split bytes k is)
  where
    by : ((k ≡ length bytes) × (first_line bytes ≡ None)) ⊎ ((k < length bytes) × (first_line bytes ≡ Some (take k bytes)))
        → first_line bytes ≡ None
    by (inl h) = h.1
    by (inr h) = absurd (omega (arith, h.0, all))

pub first_some : (bytes : List ℕ) (k : ℕ) → k ≡ prefix_len (λ (b : ℕ). not (b == 10)) bytes → k ≢ length bytes
    → first_line bytes ≡ Some (take k bytes)
first_some bytes k is other = by (first_split bytes k is)
  where
    by : ((k ≡ length bytes) × (first_line bytes ≡ None)) ⊎ ((k < length bytes) × (first_line bytes ≡ Some (take k bytes)))
        → first_line bytes ≡ Some (take k bytes)
    by (inl h) = absurd (other h.0)
    by (inr h) = h.1

-- whole lines
pub long_line : (bytes : List ℕ) → 4096 < length bytes → read bytes ≡ Err BadLine
unfolding read
long_line bytes long = ap (λ (b : Bool). tested_or b BadLine (read_words (words_of bytes))) (no_test (length bytes) 4096 long)
  where
    no_test : (a b : ℕ) → b < a → nat_le a b ≡ false
    no_test a b h = grind (arith, nat_tests)

pub short_line : (bytes : List ℕ) → length bytes ≤ 4096 → read bytes ≡ read_words (words_of bytes)
unfolding read
short_line bytes short = ap (λ (b : Bool). tested_or b BadLine (read_words (words_of bytes))) (test (length bytes) 4096 short)
  where
    test : (a b : ℕ) → a ≤ b → nat_le a b ≡ true
    test a b h = grind (arith, nat_tests)

pub within_fields : (bytes : List ℕ) (l : ProofLine) → read bytes ≡ Ok l → IsWithinFields l
within_fields bytes l is = (read_spelled bytes l is).1

-- a line `cong`
pub cong_short : (words : List (List ℕ)) → length words < 2 → read_cong words ≡ Err BadLine
unfolding read_cong
cong_short [] short = refl
cong_short (t ∷ []) short = refl
cong_short (t ∷ u ∷ facts) short = absurd (omega arith)

pub cong_read : (words : List (List ℕ)) (t u : List ℕ) (facts : List (List ℕ)) (p q : Option ℕ) (ns : Option (List ℕ))
    → words ≡ t ∷ u ∷ facts
    → number_in any t ≡ p → number_in any u ≡ q → numbers_in any facts ≡ ns
    → read_cong words ≡ found_or p BadNumber (λ (m : ℕ). found_or q BadNumber (λ (n : ℕ). found_or ns BadNumber (λ (ks : List ℕ). Ok (Cert
    (line.Cong m n ks)))))
unfolding read_cong
cong_read words t u facts p q ns is first second rest = rw (is, first, second, rest) refl

-- the numbers of facts, one by one
pub no_facts : (left : List ℕ) → length left ≡ 0 → numbers_in any (behind left) ≡ Some []
unfolding numbers_in
no_facts [] e = refl
no_facts (b ∷ bs) e = absurd (omega arith)

pub next_fact : (left : List ℕ) (n : ℕ) (more : List (List ℕ)) (so_far : List ℕ) → IsNextWord any left (Some n) more
    → option_map (λ (ns : List ℕ). so_far ++ ns) (numbers_in any (behind left)) ≡ option_map (λ (ns : List ℕ). (so_far ++ (n ∷ [])) ++ ns)
    (numbers_in any more)
unfolding numbers_in
next_fact left n more so_far w =
    ap (λ (ws : List (List ℕ)). option_map (λ (ns : List ℕ). so_far ++ ns) (numbers_in any ws)) w.words
    ∙ ap (λ (o : Option ℕ). option_map (λ (ns : List ℕ). so_far ++ ns) (followed o (λ (m : ℕ). followed (numbers_in any more) (λ
    (ns : List ℕ). Some (m ∷ ns))))) w.number
    ∙ by (numbers_in any more)
  where
    by : (o : Option (List ℕ)) → option_map (λ (ns : List ℕ). so_far ++ ns) (followed o (λ (ns : List ℕ). Some (n ∷ ns)))
        ≡ option_map (λ (ns : List ℕ). (so_far ++ (n ∷ [])) ++ ns) o
    by None = refl
    by (Some ns) = ap Some (sym (append_assoc so_far (n ∷ []) ns))

pub bad_fact : (left : List ℕ) (e : Fault) (so_far : List ℕ) → 0 < length left → IsNoNumber any left e
    → (e ≡ fault.Number) × (option_map (λ (ns : List ℕ). so_far ++ ns) (numbers_in any (behind left)) ≡ None)
unfolding numbers_in
bad_fact [] e so_far some h = absurd (omega arith)
bad_fact (b ∷ bs) fault.Line so_far some h = let s = some_words bs in absurd (never s.0 s.1.0 (sym s.1.1 ∙ h))
  where
    never : (w : List ℕ) (ws : List (List ℕ)) → w ∷ ws ≡ [] → ⊥
    never w ws e = cc
bad_fact (b ∷ bs) fault.Number so_far some (more, w) = (
  refl,
  ap (λ (ws : List (List ℕ)). option_map (λ (ns : List ℕ). so_far ++ ns) (numbers_in any ws)) w.words
      ∙ ap (λ (o : Option ℕ). option_map (λ (ns : List ℕ). so_far ++ ns) (followed o (λ (m : ℕ). followed (numbers_in any more) (λ
      (ns : List ℕ). Some (m ∷ ns))))) w.number,
)

pub all_read : (items left : List ℕ) (o : Option (List ℕ)) → length left ≡ 0
    → o ≡ option_map (λ (ns : List ℕ). items ++ ns) (numbers_in any (behind left))
    → o ≡ Some items
all_read items left o none is =
    is ∙ ap (option_map (λ (ns : List ℕ). items ++ ns)) (no_facts left none) ∙ ap Some (append-nil items)

pub empty_front : (o : Option (List ℕ)) → o ≡ option_map (λ (ns : List ℕ). [] ++ ns) o
empty_front None = refl
empty_front (Some ns) = refl

-- what an answer tells by its cases
pub answer_ok : {T : Type 0} (read : Result ProofLine Word) (r : Result T LineError) (f : T → ProofLine) → IsAnswer read r f
    → IfOk r (λ x. read ≡ Ok (f x))
answer_ok read (Ok x) f h = h
answer_ok read (Err e) f h = tt

pub answer_within : {T : Type 0} (bytes : List ℕ) (r : Result T LineError) (f : T → ProofLine) → IsAnswer (read bytes) r f
    → IfOk r (λ x. IsWithinFields (f x))
answer_within bytes (Ok x) f h = within_fields bytes (f x) h
answer_within bytes (Err e) f h = tt

module _ {T : Type 0} (told : Result ProofLine Word) (r : Result T LineError) (f : T → ProofLine) (h : IsAnswer told r f) where
  pub answer_bad_line : r ≡ Err error.BadLine → told ≡ Err BadLine
  answer_bad_line same = subst (λ (q : Result T LineError). IsAnswer told q f) same h

  pub answer_bad_number : r ≡ Err error.BadNumber → told ≡ Err BadNumber
  answer_bad_number same = subst (λ (q : Result T LineError). IsAnswer told q f) same h

  pub answer_ended : r ≡ Err error.Truncated → ⊥
  answer_ended same = subst (λ (q : Result T LineError). IsAnswer told q f) same h

-- the fault of a fact's number
pub fact_fault : {T : Type 0} (r : Result T LineError) (e : Fault) (none : Type 0) → r ≡ Err (fault_error e) → e ≡ fault.Number → none
    → IfErr r (λ d. (d ≡ error.Memory) ⊎ ((d ≡ error.BadNumber) × none))
fact_fault {T} r e none same number h =
    let bad : r ≡ Err error.BadNumber = same ∙ ap (λ (x : Fault). Err (fault_error x)) number in
    subst (λ (q : Result T LineError). IfErr q (λ d. (d ≡ error.Memory) ⊎ ((d ≡ error.BadNumber) × none))) (sym bad) (inr (refl, h))

-- the line before the first line feed
pub first_read : (bytes before : List ℕ) (r : Result ProofLine Word) → first_line bytes ≡ Some before → read before ≡ r
    → option_map read (first_line bytes) ≡ Some r
first_read bytes before r first is = ap (option_map read) first ∙ ap Some is

pub first_length : (bytes : List ℕ) (k : ℕ) → k ≤ length bytes → first_line bytes ≡ Some (take k bytes)
    → option_map (λ (line : List ℕ). suc (length line)) (first_line bytes) ≡ Some (k + 1)
first_length bytes k within first =
    let size : suc (length (take k bytes)) ≡ k + 1 = omega (arith, length-take-le k bytes within) in
    ap (option_map (λ (line : List ℕ). suc (length line))) first ∙ ap Some size

-- numbers behind `cong`
pub cong_none : (rest : List ℕ) (e : Fault) → 2 ≤ length (behind rest) → IsNoNumber any rest e
    → read_cong (behind rest) ≡ Err (fault_word e)
cong_none rest fault.Line long h = absurd (omega (arith, ap length h))
cong_none rest fault.Number long (more, w) = by more w.words w.number
  where
    by : (ms : List (List ℕ)) → behind rest ≡ w.word ∷ ms → number_in any w.word ≡ None → read_cong (behind rest) ≡ Err BadNumber
    by [] words none = absurd (omega (arith, ap length words))
    by (u ∷ us) words none = cong_read (behind rest) w.word u us None (number_in any u) (numbers_in any us) words none refl refl

pub cong_second : (rest left : List ℕ) (t : ℕ) (e : Fault) → 2 ≤ length (behind rest) → IsNextWord any rest (Some t) (behind left)
    → IsNoNumber any left e
    → read_cong (behind rest) ≡ Err (fault_word e)
cong_second rest left t fault.Line long w h = absurd (omega (arith, ap length w.words, ap length h))
cong_second rest left t fault.Number long w (more, v) =
    cong_read (behind rest) w.word v.word more (Some t) None (numbers_in any more)
    (w.words ∙ ap (λ (ws : List (List ℕ)). w.word ∷ ws) v.words) w.number v.number refl

pub cong_all : (rest left last : List ℕ) (t u : ℕ) (ns : Option (List ℕ)) → IsNextWord any rest (Some t) (behind left)
    → IsNextWord any left (Some u) (behind last) → numbers_in any (behind last) ≡ ns
    → read_cong (behind rest) ≡ found_or ns BadNumber (λ (ks : List ℕ). Ok (Cert (line.Cong t u ks)))
cong_all rest left last t u ns w v facts =
    cong_read (behind rest) w.word v.word (behind last) (Some t) (Some u) ns
    (w.words ∙ ap (λ (ws : List (List ℕ)). w.word ∷ ws) v.words) w.number v.number facts

-- an error in the numbers of facts
pub cong_facts_err : {T : Type 0} (read : Result ProofLine Word) (r : Result T LineError) (f : T
    → ProofLine) (e : LineError) (none : Type 0)
    → r ≡ Err e → (e ≡ error.Memory) ⊎ ((e ≡ error.BadNumber) × none) → (none → read ≡ Err BadNumber) → IsAnswer read r f
cong_facts_err {T} read r f e none same (inl memory) told =
    subst (λ (q : Result T LineError). IsAnswer read q f) (sym (same ∙ ap (λ (d : LineError). Err d) memory)) tt
cong_facts_err {T} read r f e none same (inr (number, h)) told =
    subst (λ (q : Result T LineError). IsAnswer read q f) (sym (same ∙ ap (λ (d : LineError). Err d) number)) (told h)
