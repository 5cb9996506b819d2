-- Lines that were taken, with lines set aside behind them.
use Rattle.sm_check.proofs.Imports.{◌≡◌, ◌≢◌, ◌+◌, ℕ, suc, Bool, true, false, ◌==◌, length, List, [], ◌∷◌, ◌++◌, refl, sym, ap, ◌∙◌, subst, Result, Ok, Err, append_assoc, append-nil, arith, ◌≤◌, zero, drop, nat_tests, Sorts, Tree, Word, Pending, Branch, Progress, Subject, Standing, Unopened, Underway, Reached, Refused, Before, reached, reached_after, reads_exact, FileLines, lines_in, TakenLines, Unfinished, standing_after, with_line, ComesTo, StopsAt, progress_at, AreRead, IsAt, Closes, CloseFirst, HasNoEnd, Takes, RefusesAt, StopsIn, IsKept, AreTaken}
use Rattle.sm_plan.specs.States.{State}
use Rattle.sm_proof.specs.Passing.{Due}
use Rattle.sm_check.specs.Aside.{joined}
use Rattle.sm_check.specs.Checkers.{GoesOn}
use Rattle.sm_check.specs.Pieces.{reach, StandsAt, Stopped, Wrong, Memory}
use Rattle.sm_check.proofs.ClosingLemmas.{closes_along}
use Rattle.sm_check.proofs.LineLemmas.{lines_in-end}

-- one more line behind lines that were taken or not
after_push : (s : Subject) (line : List ℕ) (n : ℕ) (x : Result Standing Word) (f g : Standing → Reached) →
    ((a : Standing) → f a ≡ with_line s line (g a)) → reached_after n x f ≡ with_line s line (reached_after n x g)
after_push s line n (Err w) f g h = refl
after_push s line n (Ok at) f g h = h at

-- lines and one more
pub reached-line : (s : Subject) (n : ℕ) (at : Standing) (lines : List (List ℕ)) (line : List ℕ) →
    reached s n at (lines ++ line ∷ []) ≡ with_line s line (reached s n at lines)
reached-line s n at [] line = refl
reached-line s n at (l ∷ ls) line =
    after_push s line n (standing_after s at l)
    (λ (a : Standing). reached s (suc n) a (ls ++ line ∷ [])) (λ (a : Standing). reached s (suc n) a ls)
    (λ (a : Standing). reached-line s (suc n) a ls line)

-- how far lines come with more of them
abbrev pub with_lines : Subject → List (List ℕ) → Reached → Reached
with_lines s [] r = r
with_lines s (line ∷ lines) r = with_lines s lines (with_line s line r)

-- lines and more of them
pub reached-lines : (s : Subject) (n : ℕ) (at : Standing) (lines more : List (List ℕ)) →
    reached s n at (lines ++ more) ≡ with_lines s more (reached s n at lines)
reached-lines s n at lines [] = ap (reached s n at) (append-nil lines)
reached-lines s n at lines (l ∷ ls) =
    ap (reached s n at) (sym (append_assoc lines (l ∷ []) ls))
    ∙ reached-lines s n at (lines ++ l ∷ []) ls
    ∙ ap (with_lines s ls) (reached-line s n at lines l)

-- a line is set aside
pub set_aside : (lines : TakenLines) (aside : List (List ℕ)) (s : Subject) (r : Reached) (line : List ℕ) → ComesTo lines aside s r →
    ComesTo lines (aside ++ line ∷ []) s (with_line s line r)
set_aside lines aside s r line t = record {
  at = t.at;
  stands = t.stands;
  is = ap (with_line s line) t.is ∙ sym (reached-line s lines.number t.at aside line);
}

-- a line was taken
pub line_taken : (was now : TakenLines) (s : Subject) (r : Reached) (line : List ℕ) (t : ComesTo was [] s r) →
    now.number ≡ was.number + 1 → Takes now s (standing_after s t.at line) → ComesTo now [] s (with_line s line r)
line_taken was now s r line t counted takes = by (standing_after s t.at line) refl takes
  where
    by : (x : Result Standing Word) → standing_after s t.at line ≡ x → Takes now s x → ComesTo now [] s (with_line s line r)
    by (Err w) e takes = absurd takes
    by (Ok at) e takes = record {
      at = at;
      stands = takes;
      is =
          let same : suc was.number ≡ now.number = omega arith in
          ap (with_line s line) t.is
          ∙ ap (λ (x : Result Standing Word). reached_after was.number x (λ (a : Standing). Before (suc was.number) a)) e
          ∙ ap (λ (k : ℕ). Before k at) same;
    }

-- a line was refused where no line is set aside
pub line_refused : (was : TakenLines) (s : Subject) (r : Reached) (line : List ℕ) (t : ComesTo was [] s r) (e : Stopped) →
    RefusesAt was.number (standing_after s t.at line) e → StopsAt (with_line s line r) e
line_refused was s r line t Memory refused = tt
line_refused was s r line t (Wrong n word) refused = by (standing_after s t.at line) refl refused
  where
    by : (x : Result Standing Word) → standing_after s t.at line ≡ x → RefusesAt was.number x (Wrong n word) →
        with_line s line r ≡ Refused n word
    by (Ok at) e refused = absurd refused
    by (Err w) e refused =
        ap (with_line s line) t.is
        ∙ ap (λ (x : Result Standing Word). reached_after was.number x (λ (a : Standing). Before (suc was.number) a)) e
        ∙ (let first = refused.0 in let second = refused.1 in cc)

-- a bad line stays the first
pub stopped_before : (s : Subject) (r : Reached) (line : List ℕ) (e : Stopped) → StopsAt r e → StopsAt (with_line s line r) e
stopped_before s r line Memory stops = tt
stopped_before s r line (Wrong n word) stops = ap (with_line s line) stops

-- the first of the lines that are set aside was taken
pub next_taken : (was now : TakenLines) (s : Subject) (r : Reached) (line : List ℕ) (more : List (List ℕ))
    (t : ComesTo was (line ∷ more) s r) →
    now.number ≡ was.number + 1 → Takes now s (standing_after s t.at line) → ComesTo now more s r
next_taken was now s r line more t counted takes = by (standing_after s t.at line) refl takes
  where
    by : (x : Result Standing Word) → standing_after s t.at line ≡ x → Takes now s x → ComesTo now more s r
    by (Err w) e takes = absurd takes
    by (Ok at) e takes = record {
      at = at;
      stands = takes;
      is =
          let same : suc was.number ≡ now.number = omega arith in
          t.is
          ∙ ap (λ (x : Result Standing Word). reached_after was.number x (λ (a : Standing). reached s (suc was.number) a more)) e
          ∙ ap (λ (k : ℕ). reached s k at more) same;
    }

-- the first of the lines that are set aside was refused
pub next_refused : (was : TakenLines) (s : Subject) (r : Reached) (line : List ℕ) (more : List (List ℕ))
    (t : ComesTo was (line ∷ more) s r)
    (e : Stopped) → RefusesAt was.number (standing_after s t.at line) e → StopsAt r e
next_refused was s r line more t Memory refused = tt
next_refused was s r line more t (Wrong n word) refused = by (standing_after s t.at line) refl refused
  where
    by : (x : Result Standing Word) → standing_after s t.at line ≡ x → RefusesAt was.number x (Wrong n word) → r ≡ Refused n word
    by (Ok at) e refused = absurd refused
    by (Err w) e refused =
        t.is ∙ ap (λ (x : Result Standing Word). reached_after was.number x (λ (a : Standing). reached s (suc was.number) a more)) e
        ∙ (let first = refused.0 in let second = refused.1 in cc)

-- certificates that are set aside close the branches that are due, one each
pub record Skips (lines : TakenLines) (s : Subject) (r : Reached) (more : List (List ℕ)) (cs : List (List (List ℕ))) : Type 0 where
  pub comes : ComesTo lines (joined cs ++ more) s r
  pub close : CloseFirst (reads_exact comes.at) s.sorts (progress_at s comes.at).terms (progress_at s comes.at).pending cs

-- no lines close a state
no_state : (exact : Bool) (sorts : Sorts) (terms : List Tree) (st : State) (above : ℕ) (lines : List (List ℕ)) →
    Closes exact sorts terms (Due st above ∷ []) lines → ⊥
no_state exact sorts terms st above [] closes = absurd (cc)
no_state exact sorts terms st above (l ∷ ls) closes = closes.1

-- a line behind the first
not_one : (n : ℕ) → false ≡ (n == 1) → n ≢ 1
not_one n e is = absurd (grind (arith, nat_tests))

-- the first of them is skipped
pub one_skipped : (was now : TakenLines) (s : Subject) (r : Reached) (more c : List (List ℕ)) (cs : List (List (List ℕ))) →
    Skips was s r more (c ∷ cs) → now.number ≡ was.number + length c →
    ((exact : Bool) (p : Progress) (first : Pending) (rest : List Pending) → IsAt was.checker s (Ok (Underway exact p)) →
    p.pending ≡ first ∷ rest → GoesOn s (Ok (Underway exact (record p { pending = rest }))) now.checker now.state) →
    Skips now s r more cs
one_skipped was now s r more c cs h counted goes = by h.comes.at h.comes.stands h.comes.is h.close
  where
    at_branch : (exact : Bool) (p : Progress) (ps : List Pending) → p.pending ≡ ps → StandsAt was s (Underway exact p) →
        r ≡ reached s was.number (Underway exact p) ((c ++ joined cs) ++ more) → CloseFirst exact s.sorts p.terms ps (c ∷ cs) →
        Skips now s r more cs
    at_branch exact p [] e stands comes close = absurd close
    at_branch exact p (Due st above ∷ rest) e stands comes close = absurd (no_state exact s.sorts p.terms st above c close.0)
    at_branch exact p (Branch held own splits ∷ rest) e stands comes close =
        let on = goes exact p (Branch held own splits) rest stands.is_at e in
        let far : was.number ≢ 1 = not_one was.number stands.first in
        let low = stands.counted in
        record {
          comes = record {
            at = Underway exact (record p { pending = rest });
            stands = record {
              is_at = on.0;
              state = on.1;
              counted = omega arith;
              first = let other : (now.number == 1) ≡ false = grind (arith, nat_tests) in sym other;
            };
            is =
                comes ∙ ap (reached s was.number (Underway exact p)) (append_assoc c (joined cs) more)
                ∙ closes_along s was.number exact p held (Branch held own splits ∷ []) rest c (joined cs ++ more) e close.0
                ∙ ap (λ (k : ℕ). reached s k (Underway exact (record p { pending = rest })) (joined cs ++ more)) (sym counted);
          };
          close = close.1;
        }

    by : (at : Standing) → StandsAt was s at → r ≡ reached s was.number at ((c ++ joined cs) ++ more) →
        CloseFirst (reads_exact at) s.sorts (progress_at s at).terms (progress_at s at).pending (c ∷ cs) → Skips now s r more cs
    by Unopened stands comes close = absurd (no_state true s.sorts [] s.start 0 c close.0)
    by (Underway exact p) stands comes close = at_branch exact p p.pending refl stands comes close

-- bytes that end a line
reach-line : (s : Subject) (bytes front : List ℕ) → HasNoEnd front →
    reach s (bytes ++ (front ++ 10 ∷ [])) ≡ with_line s ((lines_in bytes).rest ++ front) (reach s bytes)
unfolding reach
reach-line s bytes front h =
    ap (λ (ls : FileLines). reached s 1 Unopened ls.ended) (lines_in-end bytes front h)
    ∙ reached-line s 1 Unopened (lines_in bytes).ended ((lines_in bytes).rest ++ front)

-- a line by its bytes was taken or set aside
pub line_read : (lines : TakenLines) (aside : List (List ℕ)) (v : Unfinished) (s : Subject) (bytes front line : List ℕ) → HasNoEnd front →
    line ≡ (lines_in bytes).rest ++ front → ComesTo lines aside s (with_line s line (reach s bytes)) → IsKept v [] →
    AreRead lines aside v s (bytes ++ (front ++ 10 ∷ []))
line_read lines aside v s bytes front line h same comes kept = record {
  comes =
      subst (ComesTo lines aside s)
      (ap (λ (l : List ℕ). with_line s l (reach s bytes)) same ∙ sym (reach-line s bytes front h)) comes;
  kept = subst (IsKept v) (sym (ap (λ (ls : FileLines). ls.rest) (lines_in-end bytes front h))) kept;
}

-- where lines stop is where their bytes do
pub stops_in : (s : Subject) (bytes : List ℕ) (e : Stopped) → StopsAt (reach s bytes) e → StopsIn s bytes e
stops_in s bytes Memory stops = tt
stops_in s bytes (Wrong line word) stops = stops

-- a line was refused by its bytes
pub line_not_read : (s : Subject) (bytes front line : List ℕ) (e : Stopped) → HasNoEnd front → line ≡ (lines_in bytes).rest ++ front →
    StopsAt (with_line s line (reach s bytes)) e → StopsIn s (bytes ++ (front ++ 10 ∷ [])) e
line_not_read s bytes front line e h same stops =
    stops_in s (bytes ++ (front ++ 10 ∷ [])) e
    (subst (λ (r : Reached). StopsAt r e)
    (ap (λ (l : List ℕ). with_line s l (reach s bytes)) same ∙ sym (reach-line s bytes front h)) stops)

-- nothing is set aside
pub taken_read : (lines : TakenLines) (u : Unfinished) (s : Subject) (bytes : List ℕ) → AreTaken lines u s bytes →
    AreRead lines [] u s bytes
taken_read lines u s bytes t = record {
  comes = record { at = t.at; stands = t.stands; is = t.reached };
  kept = t.kept;
}

-- the lines behind a place
pub drop_whole : {X : Type 0} (xs : List X) (i : ℕ) → length xs ≤ i → drop i xs ≡ []
drop_whole [] zero h = refl
drop_whole [] (suc i) h = refl
drop_whole (x ∷ xs) zero h = absurd (omega arith)
drop_whole (x ∷ xs) (suc i) h = drop_whole xs i (omega arith)
