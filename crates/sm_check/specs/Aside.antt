-- Private: lines that are set aside.
use Rattle.std.specs.Prelude.{◌≡◌, ℕ, suc, Bool, List, [], ◌∷◌, ◌++◌, map, Result, Err}
use Rattle.sm_proof.specs.declared.word.Word.{Word}
use Rattle.sm_proof.specs.Passing.{Progress, start_progress}
use Rattle.sm_proof.specs.Verdicts.{Subject, Standing, Unopened, Underway, Reached, Refused, Before, reached, reached_after, next_standing, reads_exact, lines_in}
use Rattle.sm_proof.specs.Versions.{read_with}
use Rattle.sm_check.specs.declared.aside.Aside.{Aside}
use Rattle.sm_check.specs.declared.raw_lines.RawLines.{RawLines}
use Rattle.sm_check.specs.declared.taken_lines.TakenLines.{TakenLines}
use Rattle.sm_check.specs.declared.unfinished.Unfinished.{Unfinished}
use Rattle.sm_check.specs.LineEnds.{ended_in}
use Rattle.sm_check.specs.Pieces.{StandsAt, IsKept, reach, Stopped, Wrong, Memory}

-- the lines of certificates
abbrev pub certificates_of : List RawLines → List (List (List ℕ))
certificates_of certificates = map (λ (c : RawLines). ended_in c.bytes.items) certificates

-- lists of lines, one behind the other
abbrev pub joined : List (List (List ℕ)) → List (List ℕ)
joined [] = []
joined (lines ∷ more) = lines ++ joined more

-- the lines that are set aside
abbrev pub lines_aside : Aside → List (List ℕ)
lines_aside aside = joined (certificates_of aside.whole.items) ++ ended_in aside.begun.bytes.items

-- nothing is set aside
abbrev pub HoldsNone : Aside → Type 0
HoldsNone aside = (aside.whole.items ≡ []) × (aside.begun.bytes.items ≡ [])

-- the proof that stands here, before its version line the one that begins
abbrev pub progress_at : Subject → Standing → Progress
progress_at s Unopened = start_progress s.start
progress_at s (Underway exact p) = p

-- where a proof stands after a line, by its bytes, or the word by which it is refused
abbrev pub standing_after : Subject → Standing → List ℕ → Result Standing Word
standing_after s at line = next_standing s at (read_with (reads_exact at) line)

-- how far lines come with one more
abbrev pub with_line : Subject → List ℕ → Reached → Reached
with_line s line (Refused n w) = Refused n w
with_line s line (Before n at) =
    reached_after n (standing_after s at line) (λ (after : Standing). Before (suc n) after)

-- bytes can't be read, for this word, whether lines `exact` may stand or not
abbrev pub IsNoLine : List ℕ → Word → Type 0
IsNoLine line word = (exact : Bool) → read_with exact line ≡ Err word

-- lines came this far: some were taken, and some are set aside behind them
pub record ComesTo (lines : TakenLines) (aside : List (List ℕ)) (s : Subject) (r : Reached)
    : Type 0 where
  pub at : Standing
  pub stands : StandsAt lines s at
  pub is : r ≡ reached s lines.number at aside

-- where lines stop that come this far, or memory was wanting
abbrev pub StopsAt : Reached → Stopped → Type 0
StopsAt r (Wrong line word) = r ≡ Refused line word
StopsAt r Memory = Unit {0}

-- bytes of a file were read: their ended lines were taken or are set aside, and what is behind the
-- last end is kept
pub record AreRead (lines : TakenLines) (aside : List (List ℕ)) (unfinished : Unfinished)
    (s : Subject) (bytes : List ℕ) : Type 0 where
  pub comes : ComesTo lines aside s (reach s bytes)
  pub kept : IsKept unfinished (lines_in bytes).rest
