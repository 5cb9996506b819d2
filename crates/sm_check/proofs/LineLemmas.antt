-- The lines of bytes that come after others, and how far they come.
use Rattle.sm_check.proofs.Imports.{◌≡◌, ◌<◌, ℕ, suc, Bool, true, false, ◌==◌, nat_le, length, List, [], ◌∷◌, ◌++◌, refl, ap, ◌∙◌, if◌then◌else◌, Result, Ok, Err, arith, nat_tests, Word, BadLine, begins_exact, Subject, Standing, Unopened, Reached, Refused, Before, reached, reached_after, FileLines, lines_in, in_first_line, IsNoLine, standing_after, HasNoEnd}
use Rattle.sm_proof.specs.Reading.{read}
use Rattle.sm_check.specs.Pieces.{reach}
use Rattle.sm_proof.proofs.ReadLemmas.{long_line}

-- lines with a rest behind
abbrev pub lines_of : List (List ℕ) → List ℕ → FileLines
lines_of ended rest = record { ended = ended; rest = rest }

-- lines with a byte before them, which ends a line or not
abbrev pub with_byte : Bool → ℕ → FileLines → FileLines
with_byte ends byte more =
    if ends then lines_of ([] ∷ more.ended) more.rest else in_first_line byte more.ended more.rest

-- lines that go on by more lines
abbrev over : List (List ℕ) → List ℕ → FileLines → FileLines
over ended rest more = lines_of (ended ++ more.ended) more.rest

-- bytes without an end are all rest
pub lines_in-plain : (bytes : List ℕ) → HasNoEnd bytes → lines_in bytes ≡ lines_of [] bytes
lines_in-plain [] h = refl
lines_in-plain (b ∷ bs) h =
    ap (λ (t : Bool). with_byte t b (lines_in bs)) h.0
    ∙ ap (λ (more : FileLines). in_first_line b more.ended more.rest) (lines_in-plain bs h.1)

-- one line with its end
pub lines_in-line : (front : List ℕ) → HasNoEnd front → lines_in (front ++ 10 ∷ []) ≡ lines_of (front ∷ []) []
lines_in-line [] h = refl
lines_in-line (b ∷ bs) h =
    ap (λ (t : Bool). with_byte t b (lines_in (bs ++ 10 ∷ []))) h.0
    ∙ ap (λ (more : FileLines). in_first_line b more.ended more.rest) (lines_in-line bs h.1)

-- one more byte before bytes without an end
rest_step : (ends : Bool) (byte : ℕ) (ended : List (List ℕ)) (rest more : List ℕ) →
    with_byte ends byte (lines_of ended (rest ++ more))
    ≡ (let was = with_byte ends byte (lines_of ended rest) in lines_of was.ended (was.rest ++ more))
rest_step true byte ended rest more = refl
rest_step false byte [] rest more = refl
rest_step false byte (l ∷ ls) rest more = refl

-- bytes without an end go to the rest
pub lines_in-rest : (bytes more : List ℕ) → HasNoEnd more →
    lines_in (bytes ++ more) ≡ lines_of (lines_in bytes).ended ((lines_in bytes).rest ++ more)
lines_in-rest [] more h = lines_in-plain more h
lines_in-rest (b ∷ bs) more h =
    ap (λ (ls : FileLines). with_byte (b == 10) b ls) (lines_in-rest bs more h)
    ∙ rest_step (b == 10) b (lines_in bs).ended (lines_in bs).rest more

-- one more byte before bytes that end a line
end_step : (ends : Bool) (byte : ℕ) (ended : List (List ℕ)) (rest front : List ℕ) →
    with_byte ends byte (lines_of (ended ++ (rest ++ front) ∷ []) [])
    ≡ (let was = with_byte ends byte (lines_of ended rest) in lines_of (was.ended ++ (was.rest ++ front) ∷ []) [])
end_step true byte ended rest front = refl
end_step false byte [] rest front = refl
end_step false byte (l ∷ ls) rest front = refl

-- bytes that end a line: the rest and they are one more line
pub lines_in-end : (bytes front : List ℕ) → HasNoEnd front →
    lines_in (bytes ++ (front ++ 10 ∷ [])) ≡ lines_of ((lines_in bytes).ended ++ ((lines_in bytes).rest ++ front) ∷ []) []
lines_in-end [] front h = lines_in-line front h
lines_in-end (b ∷ bs) front h =
    ap (λ (ls : FileLines). with_byte (b == 10) b ls) (lines_in-end bs front h)
    ∙ end_step (b == 10) b (lines_in bs).ended (lines_in bs).rest front

-- one more byte before any bytes
more_step : (ends : Bool) (byte : ℕ) (ended later : List (List ℕ)) (rest rest_later : List ℕ) →
    (tail : List (List ℕ))
    × ((with_byte ends byte (lines_of (ended ++ later) rest_later)).ended ≡ (with_byte ends byte (lines_of ended rest)).ended ++ tail)
more_step true byte ended later rest rest_later = (later, refl)
more_step false byte [] later rest rest_later = ((in_first_line byte later rest_later).ended, refl)
more_step false byte (l ∷ ls) later rest rest_later = (later, refl)

-- more bytes leave the ended lines as they are, and may end more
pub lines_in-more : (bytes more : List ℕ) →
    (tail : List (List ℕ)) × ((lines_in (bytes ++ more)).ended ≡ (lines_in bytes).ended ++ tail)
lines_in-more [] more = ((lines_in more).ended, refl)
lines_in-more (b ∷ bs) more =
    let later = lines_in-more bs more in
    let step = more_step (b == 10) b (lines_in bs).ended later.0 (lines_in bs).rest (lines_in (bs ++ more)).rest in (
      step.0,
      ap (λ (ls : List (List ℕ)). (with_byte (b == 10) b (lines_of ls (lines_in (bs ++ more)).rest)).ended) later.1
          ∙ step.1,
    )

-- where one line is refused, or those behind it
after_refused : (n k : ℕ) (w : Word) (x : Result Standing Word) (f g : Standing → Reached) →
    ((a : Standing) → f a ≡ Refused k w → g a ≡ Refused k w) →
    reached_after n x f ≡ Refused k w → reached_after n x g ≡ Refused k w
after_refused n k w (Err v) f g h e = e
after_refused n k w (Ok at) f g h e = h at e

-- lines behind a refused one change nothing
pub reached_refused : (s : Subject) (n : ℕ) (at : Standing) (lines more : List (List ℕ)) (k : ℕ) (w : Word) →
    reached s n at lines ≡ Refused k w → reached s n at (lines ++ more) ≡ Refused k w
reached_refused s n at [] more k w e = absurd (cc)
reached_refused s n at (l ∷ ls) more k w e =
    after_refused n k w (standing_after s at l)
    (λ (a : Standing). reached s (suc n) a ls) (λ (a : Standing). reached s (suc n) a (ls ++ more))
    (λ (a : Standing). reached_refused s (suc n) a ls more k w) e

-- no bytes
pub reach-nil : (s : Subject) → reach s [] ≡ Before 1 Unopened
unfolding reach
reach-nil s = refl

-- bytes without an end
pub reach-rest : (s : Subject) (bytes more : List ℕ) → HasNoEnd more → reach s (bytes ++ more) ≡ reach s bytes
unfolding reach
reach-rest s bytes more h = ap (λ (ls : FileLines). reached s 1 Unopened ls.ended) (lines_in-rest bytes more h)

-- bytes behind a bad line
pub reach_refused : (s : Subject) (bytes more : List ℕ) (k : ℕ) (w : Word) →
    reach s bytes ≡ Refused k w → reach s (bytes ++ more) ≡ Refused k w
unfolding reach
reach_refused s bytes more k w e =
    let tail = lines_in-more bytes more in
    ap (reached s 1 Unopened) tail.1 ∙ reached_refused s 1 Unopened (lines_in bytes).ended tail.0 k w e

-- in files of each version
pub long_line_is_none : (bytes : List ℕ) → 4096 < length bytes → IsNoLine bytes BadLine
long_line_is_none bytes long true = long_line bytes long
long_line_is_none bytes long false = by (begins_exact bytes)
  where
    by : (b : Bool) → (if b then Err BadLine else read bytes) ≡ Err BadLine
    by true = refl
    by false = long_line bytes long
