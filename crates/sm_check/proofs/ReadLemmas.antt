-- The lines of a piece: read behind what was read before, with lines that are set aside.
use Rattle.sm_check.proofs.Imports.{◌≡◌, true, ℕ, List, [], ◌∷◌, ◌++◌, Result, Ok, Err, ap, subst, sym, refl, ◌∙◌, OnOk, IfErr, BadLine, Subject, Unopened, FileLines, lines_in, reached, TakenLines, Unfinished, AreRead, ComesTo, StopsAt, IsNoLine, with_line, HasNoEnd, ended_in, AreTaken, IsKept, StopsIn}
use Rattle.sm_check.specs.Pieces.{reach, Stopped}
use Rattle.sm_check.proofs.AsideLemmas.{line_not_read, line_read, reached-lines, taken_read, with_lines}
use Rattle.sm_check.proofs.EndedLines.{lines_in-behind}
use Rattle.sm_check.proofs.LineLemmas.{lines_in-rest, long_line_is_none, reach-rest}
use Rattle.sm_check.proofs.PieceLemmas.{keeps_long}

-- where a call was good, the line was read
pub line_read_by : {U : Type 0} (x : Result U Stopped) (lines : TakenLines) (aside : List (List ℕ)) (v : Unfinished) (s : Subject)
    (bytes front line : List ℕ) → HasNoEnd front → line ≡ (lines_in bytes).rest ++ front →
    OnOk x (ComesTo lines aside s (with_line s line (reach s bytes))) → IsKept v [] →
    OnOk x (AreRead lines aside v s (bytes ++ (front ++ 10 ∷ [])))
line_read_by (Err e) lines aside v s bytes front line h same comes kept = tt
line_read_by (Ok u) lines aside v s bytes front line h same comes kept = line_read lines aside v s bytes front line h same comes kept

-- where it wasn't, lines stop there
pub line_not_read_by : {U : Type 0} (x : Result U Stopped) (s : Subject) (bytes front line : List ℕ) → HasNoEnd front →
    line ≡ (lines_in bytes).rest ++ front → IfErr x (StopsAt (with_line s line (reach s bytes))) →
    IfErr x (StopsIn s (bytes ++ (front ++ 10 ∷ [])))
line_not_read_by (Ok u) s bytes front line h same stops = tt
line_not_read_by (Err e) s bytes front line h same stops = line_not_read s bytes front line e h same stops

-- a line that is too long can't be read
pub long_line_not_read : (v : Unfinished) (s : Subject) (bytes front : List ℕ) (e : Stopped) → HasNoEnd front → v.is_too_long ≡ true →
    IsKept v ((lines_in bytes).rest ++ front) →
    ((line : List ℕ) → IsNoLine line BadLine → StopsAt (with_line s line (reach s bytes)) e) → StopsIn s (bytes ++ (front ++ 10 ∷ [])) e
long_line_not_read v s bytes front e h long kept stops =
    let line = (lines_in bytes).rest ++ front in
    line_not_read s bytes front line e h refl
    (stops line (long_line_is_none line (keeps_long v.is_too_long v.bytes.items line long kept)))

-- bytes without an end are kept
pub rest_is_read : (lines : TakenLines) (aside : List (List ℕ)) (u v : Unfinished) (s : Subject) (bytes more : List ℕ) →
    AreRead lines aside u s bytes → HasNoEnd more → IsKept v ((lines_in bytes).rest ++ more) → AreRead lines aside v s (bytes ++ more)
rest_is_read lines aside u v s bytes more t h kept = record {
  comes = subst (ComesTo lines aside s) (sym (reach-rest s bytes more h)) t.comes;
  kept = subst (IsKept v) (sym (ap (λ (ls : FileLines). ls.rest) (lines_in-rest bytes more h))) kept;
}

-- a run of lines behind a line end
reach-behind : (s : Subject) (bytes run : List ℕ) → (lines_in bytes).rest ≡ [] →
    reach s (bytes ++ run) ≡ with_lines s (ended_in run) (reach s bytes)
unfolding reach
reach-behind s bytes run none =
    ap (λ (ls : FileLines). reached s 1 Unopened ls.ended) (lines_in-behind bytes run none)
    ∙ reached-lines s 1 Unopened (ended_in bytes) (ended_in run)

-- it is set aside
pub run_is_read : (lines : TakenLines) (aside now : List (List ℕ)) (u : Unfinished) (s : Subject) (bytes run : List ℕ) →
    (lines_in bytes).rest ≡ [] → (lines_in run).rest ≡ [] → now ≡ aside ++ ended_in run → AreRead lines aside u s bytes →
    AreRead lines now u s (bytes ++ run)
run_is_read lines aside now u s bytes run none ended is t = record {
  comes = record {
    at = t.comes.at;
    stands = t.comes.stands;
    is =
        reach-behind s bytes run none
        ∙ ap (with_lines s (ended_in run)) t.comes.is
        ∙ sym (reached-lines s lines.number t.comes.at aside (ended_in run))
        ∙ ap (reached s lines.number t.comes.at) (sym is);
  };
  kept =
      subst (IsKept u) (none ∙ sym (ap (λ (ls : FileLines). ls.rest) (lines_in-behind bytes run none) ∙ ended)) t.kept;
}

-- no byte was taken, and nothing is set aside
pub none_read : (lines : TakenLines) (aside : List (List ℕ)) (u : Unfinished) (s : Subject) (bytes : List ℕ) → aside ≡ [] →
    AreTaken lines u s bytes → AreRead lines aside u s bytes
none_read lines aside u s bytes none t = subst (λ (x : List (List ℕ)). AreRead lines x u s bytes) (sym none) (taken_read lines u s bytes t)
