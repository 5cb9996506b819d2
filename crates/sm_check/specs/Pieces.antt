-- Cited by private clauses alone: how far a file is taken by the pieces of it that were read.
use Rattle.std.specs.Prelude.{◌≡◌, ◌<◌, ◌==◌, ℕ, Bool, true, false, Result, Ok, Err, List}
use Rattle.sm_proof.specs.declared.word.Word.{Word}
use Rattle.sm_proof.specs.Verdicts.{Subject, Standing, Unopened, Underway, Reached, Refused, Before, reached, lines_in}
pub use Rattle.sm_check.specs.declared.fault.Stopped.{Stopped}
pub use Rattle.sm_check.specs.declared.fault.Stopped.TheVariants.{Memory, Wrong}
use Rattle.sm_check.specs.declared.taken_lines.TakenLines.{TakenLines}
use Rattle.sm_check.specs.declared.unfinished.Unfinished.{Unfinished}
use Rattle.sm_check.specs.Checkers.{IsAt, state_of}
use Rattle.sm_check.specs.LineEnds.{Keeps, ended_in}

-- how far the ended lines of a file come that has these bytes
unfoldable pub reach : Subject → List ℕ → Reached
reach s bytes = reached s 1 Unopened (ended_in bytes)

-- whether a proof stands before its version line
abbrev pub is_unopened : Standing → Bool
is_unopened Unopened = true
is_unopened (Underway exact p) = false

-- so many lines were taken, and left the proof here
pub record StandsAt (lines : TakenLines) (s : Subject) (at : Standing) : Type 0 where
  pub is_at : IsAt lines.checker s (Ok at)
  pub state : lines.state ≡ state_of at
  pub counted : 0 < lines.number
  pub first : is_unopened at ≡ (lines.number == 1)

-- a line was taken, and left the proof here
abbrev pub Takes : TakenLines → Subject → Result Standing Word → Type 0
Takes lines s (Ok at) = StandsAt lines s at
Takes lines s (Err w) = ⊥

-- the line with this number was refused by its word, or memory was wanting
abbrev pub RefusesAt : ℕ → Result Standing Word → Stopped → Type 0
RefusesAt n after Memory = Unit {0}
RefusesAt n (Ok at) (Wrong line word) = ⊥
RefusesAt n (Err w) (Wrong line word) = (line ≡ n) × (word ≡ w)

-- these bytes are unfinished
abbrev pub IsKept : Unfinished → List ℕ → Type 0
IsKept unfinished bytes = Keeps unfinished.is_too_long unfinished.bytes.items bytes

-- the ended lines of bytes of a file were taken
pub record AreEndedTaken (lines : TakenLines) (s : Subject) (bytes : List ℕ) : Type 0 where
  pub at : Standing
  pub stands : StandsAt lines s at
  pub reached : reach s bytes ≡ Before lines.number at

-- bytes of a file were taken: their ended lines were, and what is behind the last end is kept
pub record AreTaken (lines : TakenLines) (unfinished : Unfinished) (s : Subject) (bytes : List ℕ)
    : Type 0 where
  pub at : Standing
  pub stands : StandsAt lines s at
  pub reached : reach s bytes ≡ Before lines.number at
  pub kept : IsKept unfinished (lines_in bytes).rest

-- bytes have a bad line, which is the first, or memory was wanting
abbrev pub StopsIn : Subject → List ℕ → Stopped → Type 0
StopsIn s bytes (Wrong line word) = reach s bytes ≡ Refused line word
StopsIn s bytes Memory = Unit {0}
