-- Lines of a proof file that were taken, one after the other.
use Rattle.sm_check.proofs.Imports.{◌≡◌, ◌<◌, ◌+◌, ◌-◌, ℕ, suc, Bool, true, false, ◌==◌, length, take, drop, List, [], ◌∷◌, ◌++◌, refl, sym, ap, ◌∙◌, subst, Result, Ok, Err, Option, Some, None, append_assoc, arith, get_or, inl, inr, length-take, nat_tests, IfErr, IsErrAnd, take_more, get_or-take, take_rest, take-append-drop, take-add, ProofLine, tested_or, and_then, Word, BadLine, Progress, taken, Subject, Standing, Unopened, Underway, Before, next_standing, opens_if, passes_version, has_exact, may_stand, Checker, TakenLines, Unfinished, Stops, HasNoEnd, Keeps, is_unopened, Takes, RefusesAt, IsKept, AreTaken, StopsIn, false_from_ne_true}
use Rattle.std.specs.Prelude.{IfSome}
use Rattle.memchr.specs.Find.{IsFirstByte, is_byte}
use Rattle.sm_check.specs.declared.fault.LineFault.{LineFault}
use Rattle.sm_check.specs.declared.fault.LineFault.TheVariants as fault
use Rattle.sm_check.specs.Checkers.{GoesOn}
use Rattle.sm_check.specs.Pieces.{StandsAt, Stopped, Wrong, Memory}
use Rattle.sm_check.proofs.LineLemmas.{reach_refused, reach-nil}

-- whether a line leaves the proof before its version line
abbrev pub opens_of : Result Standing Word → Bool
opens_of (Err w) = false
opens_of (Ok at) = is_unopened at

opens_if-false : (test exact : Bool) (s : Subject) → opens_of (opens_if test exact s) ≡ false
opens_if-false true exact s = refl
opens_if-false false exact s = refl

underway : (stands exact : Bool) (x : Result Progress Word) →
    opens_of (tested_or stands BadLine (and_then x (λ (q : Progress). Ok (Underway exact q)))) ≡ false
underway false exact x = refl
underway true exact (Err w) = refl
underway true exact (Ok q) = refl

-- no line does
pub next-opens : (s : Subject) (at : Standing) (line : Result ProofLine Word) → opens_of (next_standing s at line) ≡ false
next-opens s Unopened (Err w) = refl
next-opens s Unopened (Ok line) = opens_if-false (passes_version s line) (has_exact line) s
next-opens s (Underway exact p) (Err w) = refl
next-opens s (Underway exact p) (Ok line) = underway (may_stand exact line) exact (taken s.sorts p line)

-- a line that the checker took
pub goes_on : (s : Subject) (x : Result Standing Word) (lines : TakenLines) → opens_of x ≡ false → 1 < lines.number →
    GoesOn s x lines.checker lines.state → Takes lines s x
goes_on s (Err w) lines e low on = on
goes_on s (Ok at) lines e low on = record {
  is_at = on.0;
  state = on.1;
  counted = omega arith;
  first = let other : (lines.number == 1) ≡ false = grind (arith, nat_tests) in e ∙ sym other;
}

-- a line that it refused
pub refuses : (s : Subject) (x : Result Standing Word) (c : Checker) (n : ℕ) (e : LineFault) (w : Word) → e ≡ fault.Wrong w →
    Stops s x c e → RefusesAt n x (Wrong n w)
refuses s (Ok at) c n e w is stops = absurd (let same = stops.0 in cc)
refuses s (Err v) c n e w is (inl stops) = (refl, let same = stops.0 in cc)
refuses s (Err v) c n e w is (inr stops) = absurd (let same = stops.0 in cc)

-- bytes of which none ends a line, by places
pub no_end_from : (bytes : List ℕ) → ((k : ℕ) → k < length bytes → (get_or bytes k 0 == 10) ≡ true → ⊥) → HasNoEnd bytes
no_end_from [] h = tt
no_end_from (b ∷ bs) h = (
  false_from_ne_true (b == 10) (h 0 (omega arith)),
  no_end_from bs (λ (k : ℕ) (below : k < length bs). h (suc k) (omega arith)),
)

-- the first end
pub end_found : (bytes : List ℕ) (r : Option ℕ) → IsFirstByte (is_byte 10) bytes r →
    IfSome r (λ n. (n < length bytes) × HasNoEnd (take n bytes) × (take (n + 1) bytes ≡ take n bytes ++ 10 ∷ []))
end_found bytes None first = tt
end_found bytes (Some n) first =
    let here : get_or bytes n 0 ≡ 10 = grind (arith, nat_tests, first.1) in (
      first.0.high,
      no_end_from (take n bytes)
          (λ (k : ℕ) (below : k < length (take n bytes)) (ends : (get_or (take n bytes) k 0 == 10) ≡ true).
          let near : k < n = omega (arith, length-take n bytes) in
          first.0.before k (omega arith) near (ap (λ (b : ℕ). b == 10) (sym (get_or-take n bytes k 0 near)) ∙ ends)),
      take_more bytes n 0 first.0.high ∙ ap (λ (b : ℕ). take n bytes ++ b ∷ []) here,
    )

-- no end
pub end_missing : (bytes : List ℕ) (r : Option ℕ) → IsFirstByte (is_byte 10) bytes r → r ≡ None → HasNoEnd bytes
end_missing bytes (Some n) first e = absurd (cc)
end_missing bytes None first e =
    no_end_from bytes (λ (k : ℕ) (below : k < length bytes) (ends : (get_or bytes k 0 == 10) ≡ true). first k (omega arith) below ends)

-- no bytes were taken yet
pub nothing_taken : (lines : TakenLines) (u : Unfinished) (s : Subject) → StandsAt lines s Unopened → lines.number ≡ 1 → IsKept u [] →
    AreTaken lines u s []
nothing_taken lines u s stands first kept = record {
  at = Unopened;
  stands = stands;
  reached = reach-nil s ∙ ap (λ (n : ℕ). Before n Unopened) (sym first);
  kept = kept;
}

-- what is kept of a line that is too long, of another one, and of no line
pub keeps_long : (over : Bool) (kept bytes : List ℕ) → over ≡ true → Keeps over kept bytes → 4096 < length bytes
keeps_long true kept bytes e keeps = keeps
keeps_long false kept bytes e keeps = absurd (cc)

pub keeps_all : (over : Bool) (kept bytes : List ℕ) → over ≡ false → Keeps over kept bytes → kept ≡ bytes
keeps_all true kept bytes e keeps = absurd (cc)
keeps_all false kept bytes e keeps = keeps.0

pub keeps_none : (over : Bool) (kept : List ℕ) → over ≡ false → kept ≡ [] → Keeps over kept []
keeps_none true kept e none = absurd (cc)
keeps_none false kept e none = (none, omega arith)

-- a bad line stays the first whatever comes behind it
pub stops_before : (s : Subject) (bytes more : List ℕ) (stopped : Stopped) → StopsIn s bytes stopped → StopsIn s (bytes ++ more) stopped
stops_before s bytes more Memory stops = tt
stops_before s bytes more (Wrong line word) stops = reach_refused s bytes more line word stops

-- an error that is passed on
pub err_is : {T E : Type 0} (P : E → Type 0) (r : Result T E) (x : E) → IsErrAnd r (λ (e : E). e ≡ x) → P x → IfErr r P
err_is P (Ok t) x is p = tt
err_is P (Err e) x is p = subst P (sym is) p

-- the bytes of a piece up to the next end
pub to_next_end : (bytes piece : List ℕ) (start end : ℕ) →
    (let rest = take (length piece - start) (drop start piece) in take (end + 1) rest ≡ take end rest ++ 10 ∷ []) →
    (bytes ++ take start piece) ++ (take (start + end - start) (drop start piece) ++ 10 ∷ [])
    ≡ bytes ++ take (start + (end + 1)) piece
to_next_end bytes piece start end ends =
    let rest : take (end + 1) (drop start piece) ≡ take end (drop start piece) ++ 10 ∷ [] = rw (take_rest piece start) at ends in
    let same : start + end - start ≡ end = omega arith in
    append_assoc bytes (take start piece) (take (start + end - start) (drop start piece) ++ 10 ∷ [])
    ∙ ap (λ (x : List ℕ). bytes ++ x)
    (ap (λ (k : ℕ). take start piece ++ (take k (drop start piece) ++ 10 ∷ [])) same
    ∙ ap (λ (x : List ℕ). take start piece ++ x) (sym rest)
    ∙ sym (take-add start (end + 1) piece))

-- the bytes of a piece up to the end of a run of lines
pub to_run_end : (bytes piece : List ℕ) (start n : ℕ) →
    (bytes ++ take start piece) ++ take n (take (length piece - start) (drop start piece)) ≡ bytes ++ take (start + n) piece
to_run_end bytes piece start n =
    append_assoc bytes (take start piece) (take n (take (length piece - start) (drop start piece)))
    ∙ ap (λ (x : List ℕ). bytes ++ x)
    (ap (λ (x : List ℕ). take start piece ++ take n x) (take_rest piece start) ∙ sym (take-add start n piece))

-- the rest of a piece
pub to_piece_end : (bytes piece : List ℕ) (start : ℕ) →
    (bytes ++ take start piece) ++ take (length piece - start) (drop start piece) ≡ bytes ++ piece
to_piece_end bytes piece start =
    append_assoc bytes (take start piece) (take (length piece - start) (drop start piece))
    ∙ ap (λ (x : List ℕ). bytes ++ x)
    (ap (λ (x : List ℕ). take start piece ++ x) (take_rest piece start) ∙ take-append-drop start piece)

-- the first bad line of a front of a piece
pub stops_in_piece : (s : Subject) (bytes piece : List ℕ) (n : ℕ) (stopped : Stopped) → StopsIn s (bytes ++ take n piece) stopped →
    StopsIn s (bytes ++ piece) stopped
stops_in_piece s bytes piece n stopped stops =
    subst (λ (all : List ℕ). StopsIn s all stopped)
    (append_assoc bytes (take n piece) (drop n piece) ∙ ap (λ (x : List ℕ). bytes ++ x) (take-append-drop n piece))
    (stops_before s (bytes ++ take n piece) (drop n piece) stopped stops)
