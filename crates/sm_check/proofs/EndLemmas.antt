-- What a file answers by how far the bytes come that were read.
use Rattle.sm_check.proofs.Imports.{◌≡◌, ◌<◌, ◌≤◌, ◌+◌, ◌-◌, ℕ, Bool, true, false, nat_le, if◌then◌else◌, length, take, drop, List, [], ◌∷◌, ◌++◌, refl, sym, ap, ◌∙◌, subst, arith, length-take, length-drop, nat_tests, take-append-drop, take-take, take-add, ReadsFrom, Word, Truncated, Subject, Standing, Unopened, Reached, Refused, Before, Verdict, verdict, verdict_at_end, is_done, lines_in, reached, Done, More, TakenLines, Judged, file_answer, cut_answer, AreEndedTaken}
use Rattle.sm_proof.specs.Verdicts as proof
use Rattle.sm_check.specs.Pieces.{reach}
use Rattle.sm_check.proofs.LineLemmas.{reach_refused}

-- the verdict by how far the bytes come
pub verdict-reach : (s : Subject) (bytes : List ℕ) → verdict s bytes ≡ verdict_at_end (reach s bytes) (lines_in bytes).rest
unfolding reach
verdict-reach s bytes = refl

-- the answer to a file that is short enough, and to one that isn't
pub answer_within : (limit : ℕ) (s : Subject) (bytes : List ℕ) → length bytes ≤ limit →
    file_answer limit s bytes ≡ Judged (verdict s bytes)
answer_within limit s bytes within =
    let test : nat_le (length bytes) limit ≡ true = grind (arith, nat_tests) in
    ap (λ (t : Bool). if t then Judged (verdict s bytes) else cut_answer (reached s 1 Unopened (lines_in (take limit bytes)).ended)) test

pub answer_past : (limit : ℕ) (s : Subject) (bytes : List ℕ) → limit < length bytes →
    file_answer limit s bytes ≡ cut_answer (reach s (take limit bytes))
unfolding reach
answer_past limit s bytes past =
    let test : nat_le (length bytes) limit ≡ false = grind (arith, nat_tests) in
    ap (λ (t : Bool). if t then Judged (verdict s bytes) else cut_answer (reached s 1 Unopened (lines_in (take limit bytes)).ended)) test

-- a bad line that ends within the limit
refused_by : (limit : ℕ) (s : Subject) (bytes : List ℕ) (k line : ℕ) (word : Word) (fits : Bool) →
    nat_le (length bytes) limit ≡ fits → k ≤ limit → reach s (take k bytes) ≡ Refused line word →
    file_answer limit s bytes ≡ Judged (proof.Rejected line word)
refused_by limit s bytes k line word true fits low bad =
    let within : length bytes ≤ limit = grind (arith, nat_tests) in
    let all : reach s bytes ≡ Refused line word =
    subst (λ (bs : List ℕ). reach s bs ≡ Refused line word) (take-append-drop k bytes)
    (reach_refused s (take k bytes) (drop k bytes) line word bad) in
    answer_within limit s bytes within
    ∙ ap Judged (verdict-reach s bytes ∙ ap (λ (r : Reached). verdict_at_end r (lines_in bytes).rest) all)
refused_by limit s bytes k line word false fits low bad =
    let past : limit < length bytes = grind (arith, nat_tests) in
    let same : k + (limit - k) ≡ limit = omega arith in
    let split : take k bytes ++ take (limit - k) (drop k bytes) ≡ take limit bytes =
    sym (take-add k (limit - k) bytes) ∙ ap (λ (n : ℕ). take n bytes) same in
    let all : reach s (take limit bytes) ≡ Refused line word =
    subst (λ (bs : List ℕ). reach s bs ≡ Refused line word) split
    (reach_refused s (take k bytes) (take (limit - k) (drop k bytes)) line word bad) in
    answer_past limit s bytes past ∙ ap cut_answer all

pub refused_answer : (limit : ℕ) (s : Subject) (bytes : List ℕ) (k line : ℕ) (word : Word) → k ≤ limit →
    reach s (take k bytes) ≡ Refused line word → file_answer limit s bytes ≡ Judged (proof.Rejected line word)
refused_answer limit s bytes k line word low bad = refused_by limit s bytes k line word (nat_le (length bytes) limit) refl low bad

done_by : (test : Bool) → Done ≡ (if test then Done else More) → test ≡ true
done_by true e = refl
done_by false e = absurd (cc)

more_by : (test : Bool) → More ≡ (if test then Done else More) → test ≡ false
more_by true e = absurd (cc)
more_by false e = refl

rest_is_bad : (n : ℕ) (at : Standing) (rest : List ℕ) → (rest ≡ [] → ⊥) → verdict_at_end (Before n at) rest ≡ proof.Rejected n Truncated
rest_is_bad n at [] h = absurd (h refl)
rest_is_bad n at (b ∷ bs) h = refl

-- the verdict once all bytes are taken
at_last : (lines : TakenLines) (s : Subject) (bytes : List ℕ) (t : AreEndedTaken lines s bytes) →
    verdict s bytes ≡ verdict_at_end (Before lines.number t.at) (lines_in bytes).rest
at_last lines s bytes t =
    verdict-reach s bytes ∙ ap (λ (r : Reached). verdict_at_end r (lines_in bytes).rest) t.reached

-- a proof that is done
pub done_passes : (lines : TakenLines) (s : Subject) (bytes : List ℕ) → AreEndedTaken lines s bytes →
    (lines_in bytes).rest ≡ [] → lines.state ≡ Done → verdict s bytes ≡ proof.Pass
done_passes lines s bytes t none state =
    at_last lines s bytes t ∙ ap (verdict_at_end (Before lines.number t.at)) none
    ∙ ap (λ (x : Bool). if x then proof.Pass else proof.Rejected lines.number Truncated)
    (done_by (is_done t.at) (sym state ∙ t.stands.state))

-- one that isn't
pub undone_is_bad : (lines : TakenLines) (s : Subject) (bytes : List ℕ) → AreEndedTaken lines s bytes →
    (lines_in bytes).rest ≡ [] → lines.state ≡ More → verdict s bytes ≡ proof.Rejected lines.number Truncated
undone_is_bad lines s bytes t none state =
    at_last lines s bytes t ∙ ap (verdict_at_end (Before lines.number t.at)) none
    ∙ ap (λ (x : Bool). if x then proof.Pass else proof.Rejected lines.number Truncated)
    (more_by (is_done t.at) (sym state ∙ t.stands.state))

-- a line without an end
pub unended_is_bad : (lines : TakenLines) (s : Subject) (bytes : List ℕ) → AreEndedTaken lines s bytes →
    ((lines_in bytes).rest ≡ [] → ⊥) → verdict s bytes ≡ proof.Rejected lines.number Truncated
unended_is_bad lines s bytes t some =
    at_last lines s bytes t ∙ rest_is_bad lines.number t.at (lines_in bytes).rest some

-- bytes that one more read gave, of which so many are taken
pub taken_more : (bytes piece read : List ℕ) (place count taken : ℕ) → ReadsFrom bytes place count piece → taken ≤ count →
    read ≡ take place bytes → read ++ take taken piece ≡ take (place + taken) bytes
taken_more bytes piece read place count taken given fits before =
    let less : (xs : List ℕ) → take taken (take count xs) ≡ take taken xs = λ xs. take-take taken count xs fits in
    let same : take taken piece ≡ take taken (drop place bytes) =
    sym (less piece) ∙ ap (take taken) given.given ∙ less (drop place bytes) in
    rw (before, same) (sym (take-add place taken bytes))

-- a read gives no more than there is
pub given_stands : (bytes piece : List ℕ) (place count : ℕ) → ReadsFrom bytes place count piece → count ≤ length piece →
    0 < count → place + count ≤ length bytes
given_stands bytes piece place count given fits some =
    let same = ap length given.given in
    omega (arith, simp length-take at same, length-drop place bytes)
