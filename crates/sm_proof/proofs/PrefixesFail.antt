-- A front of bytes that pass that isn't all of them doesn't pass: once a proof is done, each further line is refused, and so are bytes
-- without an end.
use Rattle.sm_proof.proofs.Imports.{◌≡◌, ◌==◌, ℕ, suc, Bool, true, false, if◌then◌else◌, Ok, List, [], ◌∷◌, ◌++◌, refl, ap, sym, subst, ◌∙◌, ProofLine, Header, Term, Form, Node, Cert, Pending, Progress, taken_at, Subject, subject_of, Standing, Unopened, Underway, next_standing, reads_exact, Before, reached_after, reached, FileLines, in_first_line, lines_in, Pass, none_waits, verdict_at_end, read_with, PrefixesFail}
use Rattle.std.proofs.Common.{Result}
use Rattle.sm_proof.specs.declared.word.Word.{Word}
use Rattle.sm_proof.proofs.PassSound.{underway_from, reached_from, pass_from}

-- where nothing is pending, no line is taken
none_taken : (s : Subject) (p : Progress) (pending : List Pending) (line : ProofLine) (q : Progress) → none_waits pending ≡ true →
    taken_at s.sorts p pending line ≡ Ok q → ⊥
none_taken s p [] (Header version) q done e = cc
none_taken s p [] (Term line) q done e = cc
none_taken s p [] (Form line) q done e = cc
none_taken s p [] (Node line) q done e = cc
none_taken s p [] (Cert line) q done e = cc
none_taken s p (due ∷ rest) line q done e = absurd cc

-- so a proof that is done goes on over no line
done_ends : (s : Subject) (exact : Bool) (p : Progress) (lines : List (List ℕ)) (n m : ℕ) (end : Standing) → none_waits p.pending ≡ true →
    reached s n (Underway exact p) lines ≡ Before m end → lines ≡ []
done_ends s exact p [] n m end done e = refl
done_ends s exact p (bytes ∷ lines) n m end done e =
    let later = λ (after : Standing). reached s (suc n) after lines in
    let a = reached_from n (next_standing s (Underway exact p) (read_with exact bytes)) later m end e in
    let b = underway_from s exact p (read_with exact bytes) a.0 a.1 in
    absurd (none_taken s p p.pending b.0 b.1 done b.2)

-- lines behind lines go on from where those came to
reached_behind : (s : Subject) (lines others : List (List ℕ)) (n : ℕ) (standing : Standing) (m : ℕ) (end : Standing) →
    reached s n standing lines ≡ Before m end →
    reached s n standing (lines ++ others) ≡ reached s m end others
reached_behind s [] others n standing m end e =
    let number : n ≡ m = cc in
    let place : standing ≡ end = cc in
    rw (number, place) refl
reached_behind s (bytes ∷ lines) others n standing m end e =
    let first = next_standing s standing (read_with (reads_exact standing) bytes) in
    let a = reached_from n first (λ (after : Standing). reached s (suc n) after lines) m end e in
    ap (λ (r : Result Standing Word). reached_after n r (λ (after : Standing). reached s (suc n) after (lines ++ others))) a.1
    ∙ reached_behind s lines others (suc n) a.0 m end a.2

-- a byte before the lines of others, where it ends a line and where it doesn't
abbrev before_lines : Bool → ℕ → FileLines → FileLines
before_lines true byte f = record { ended = [] ∷ f.ended; rest = f.rest }
before_lines false byte f = in_first_line byte f.ended f.rest

-- the lines of bytes of which the first is told
lines_are : (byte : ℕ) (bytes : List ℕ) → lines_in (byte ∷ bytes) ≡ before_lines (byte == 10) byte (lines_in bytes)
lines_are byte bytes = of (byte == 10) (lines_in bytes)
  where
    of : (ends : Bool) (f : FileLines) →
        (if ends then record { ended = [] ∷ f.ended; rest = f.rest } else in_first_line byte f.ended f.rest) ≡ before_lines ends byte f
    of true f = refl
    of false f = refl

-- lines one behind the other
abbrev behind : FileLines → FileLines → FileLines
behind first more = record { ended = first.ended ++ more.ended; rest = more.rest }

-- no bytes are left behind the last line: a byte before it all leaves others as they are behind it
byte_behind : (ends : Bool) (byte : ℕ) (first more : FileLines) → (before_lines ends byte first).rest ≡ [] →
    (first.rest ≡ []) × (before_lines ends byte (behind first more) ≡ behind (before_lines ends byte first) more)
byte_behind true byte first more e = (e, refl)
byte_behind false byte first more e = of first.ended first.rest e
  where
    of : (lines : List (List ℕ)) (rest : List ℕ) → (in_first_line byte lines rest).rest ≡ [] →
        (rest ≡ []) × (in_first_line byte (lines ++ more.ended) more.rest ≡ behind (in_first_line byte lines rest) more)
    of [] rest h = absurd cc
    of (line ∷ lines) rest h = (h, refl)

-- where no bytes are left behind the last line of a front, the lines of all are those of the front and then those of what follows
lines_behind : (front more : List ℕ) → (lines_in front).rest ≡ [] → lines_in (front ++ more) ≡ behind (lines_in front) (lines_in more)
lines_behind [] more e = refl
lines_behind (byte ∷ front) more e =
    let ends = byte == 10 in
    let is = lines_are byte front in
    let p = byte_behind ends byte (lines_in front) (lines_in more) (subst (λ (f : FileLines). f.rest ≡ []) is e) in
    lines_are byte (front ++ more)
    ∙ (ap (before_lines ends byte) (lines_behind front more p.0)
    ∙ (p.1 ∙ sym (ap (λ (f : FileLines). behind f (lines_in more)) is)))

-- bytes that hold no line and leave none are none
no_lines : (bytes : List ℕ) → (lines_in bytes).ended ≡ [] → (lines_in bytes).rest ≡ [] → bytes ≡ []
no_lines [] e h = refl
no_lines (byte ∷ bytes) e h =
    let is = lines_are byte bytes in
    absurd (of (byte == 10) (lines_in bytes) (subst (λ (f : FileLines). f.ended ≡ []) is e) (subst (λ (f : FileLines). f.rest ≡ []) is h))
  where
    some : (lines : List (List ℕ)) (rest : List ℕ) → (in_first_line byte lines rest).ended ≡ [] → (in_first_line byte lines rest).rest ≡ [] → ⊥
    some [] rest left others = cc
    some (line ∷ lines) rest left others = cc

    of : (ends : Bool) (f : FileLines) → (before_lines ends byte f).ended ≡ [] → (before_lines ends byte f).rest ≡ [] → ⊥
    of true f left others = cc
    of false f left others = some f.ended f.rest left others

-- a proper front of bytes that pass doesn't pass
pub prefixes_fail : PrefixesFail
prefixes_fail t front more some whole pass =
    let s = subject_of t in
    let first = lines_in front in
    let later = lines_in more in
    let a = pass_from (reached s 1 Unopened first.ended) first.rest pass in
    let split = lines_behind front more a.5 in
    let b =
    pass_from (reached s 1 Unopened (first.ended ++ later.ended)) later.rest
    (subst (λ (f : FileLines). verdict_at_end (reached s 1 Unopened f.ended) f.rest ≡ Pass) split whole) in
    let from = sym (reached_behind s first.ended later.ended 1 Unopened a.0 (Underway a.1 a.2) a.3) ∙ b.3 in
    some (no_lines more (done_ends s a.1 a.2 later.ended a.0 b.0 (Underway b.1 b.2) a.4 from) b.5)
