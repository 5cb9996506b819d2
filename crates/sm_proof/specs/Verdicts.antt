-- Cited by public clauses: when a proof file passes for a task, and its first bad line.
use Rattle.std.specs.Prelude.{◌≡◌, ℕ, suc, ◌==◌, Bool, true, false, not, ◌&&◌, ◌||◌, if◌then◌else◌, is_some, Result, Ok, Err, List, [], ◌∷◌}
use Rattle.sm_syntax.specs.text.Parts.{Parts, sort_of, task_of}
use Rattle.sm_syntax.specs.text.Sorts.{Sorts}
use Rattle.sm_plan.specs.States.{State, start_state}
use Rattle.sm_proof.specs.Lines.{ProofLine, Header, Term, Form, Node, Cert}
use Rattle.sm_proof.specs.Named.{tested_or, and_then, Word, Truncated, BadVersion, BadLine}
use Rattle.sm_proof.specs.Passing.{Pending, Progress, start_progress, taken}
use Rattle.sm_proof.specs.Versions.{has_exact, may_stand, read_with}

-- what a proof is about: the sorts of the declared names, whether the task assumes something, and
-- the state that it starts from
pub record Subject : Type 0 where
  pub sorts : Sorts
  pub assumes : Bool
  pub start : State

-- that of a task
abbrev pub subject_of : Parts → Subject
subject_of t = record {
  sorts = sort_of t.declared;
  assumes = is_some t.assumed;
  start = start_state (task_of t);
}

-- whether files of a version count: versions 2 and 3 always, version 1 where nothing is assumed
abbrev pub passes_version : Subject → ProofLine → Bool
passes_version s (Header version) =
    (version == 3) || ((version == 2) || ((version == 1) && not s.assumes))
passes_version s (Term line) = false
passes_version s (Form line) = false
passes_version s (Node line) = false
passes_version s (Cert line) = false

-- where a proof stands: before its version line, or on its way, where lines `exact` may stand or
-- may not
pub data Standing : Type 0 where
  Unopened : Standing
  Underway : (exact : Bool) → Progress → Standing

-- the start, where a test passes
abbrev pub opens_if : Bool → (exact : Bool) → Subject → Result Standing Word
opens_if test exact s =
    if test then Ok (Underway exact (start_progress s.start)) else Err BadVersion

-- where a proof stands after a line that was read, or the word by which the line is refused
abbrev pub next_standing : Subject → Standing → Result ProofLine Word → Result Standing Word
next_standing s Unopened (Err w) = Err BadVersion
next_standing s Unopened (Ok line) = opens_if (passes_version s line) (has_exact line) s
next_standing s (Underway exact p) read =
    and_then read
    (λ (line : ProofLine).
    tested_or (may_stand exact line) BadLine
    (and_then (taken s.sorts p line) (λ (q : Progress). Ok (Underway exact q))))

-- whether lines `exact` are read where a proof stands: before its version line all lines are
abbrev pub reads_exact : Standing → Bool
reads_exact Unopened = true
reads_exact (Underway exact p) = exact

-- how far lines come: to the first that is refused, with its number and the word; or to where the
-- proof stands before the line with this number
pub data Reached : Type 0 where
  Refused : ℕ → Word → Reached
  Before : ℕ → Standing → Reached

-- goes on after line n, unless it was refused
abbrev pub reached_after : ℕ → Result Standing Word → (Standing → Reached) → Reached
reached_after n (Err w) next = Refused n w
reached_after n (Ok standing) next = next standing

-- how far the lines come, the first with number n
abbrev pub reached : Subject → ℕ → Standing → List (List ℕ) → Reached
reached s n standing [] = Before n standing
reached s n standing (bytes ∷ lines) =
    reached_after n (next_standing s standing (read_with (reads_exact standing) bytes))
    (λ (after : Standing). reached s (suc n) after lines)

-- the lines of a file that have an end, and the bytes after the last end
pub record FileLines : Type 0 where
  pub ended : List (List ℕ)
  pub rest : List ℕ

-- a byte before lines and a rest: it stands in the first line
abbrev pub in_first_line : ℕ → List (List ℕ) → List ℕ → FileLines
in_first_line byte [] rest = record { ended = []; rest = byte ∷ rest }
in_first_line byte (line ∷ lines) rest = record { ended = (byte ∷ line) ∷ lines; rest = rest }

-- the lines of bytes: each ends with a line feed
abbrev pub lines_in : List ℕ → FileLines
lines_in [] = record { ended = []; rest = [] }
lines_in (byte ∷ bytes) =
    let more = lines_in bytes in
    if byte == 10 then record { ended = [] ∷ more.ended; rest = more.rest }
    else in_first_line byte more.ended more.rest

-- whether a file passes, or its first bad line with its word
pub data Verdict : Type 0 where
  Pass : Verdict
  Rejected : ℕ → Word → Verdict

-- whether nothing waits
abbrev pub none_waits : List Pending → Bool
none_waits [] = true
none_waits (due ∷ rest) = false

-- whether a proof is done: nothing is pending
abbrev pub is_done : Standing → Bool
is_done Unopened = false
is_done (Underway exact p) = none_waits p.pending

-- the verdict where all lines that have an end were taken: bytes without an end, and a line that is
-- missing, are Truncated
abbrev pub verdict_at_end : Reached → List ℕ → Verdict
verdict_at_end (Refused n w) rest = Rejected n w
verdict_at_end (Before n standing) [] = if is_done standing then Pass else Rejected n Truncated
verdict_at_end (Before n standing) (byte ∷ rest) = Rejected n Truncated

-- the verdict on a file
abbrev pub verdict : Subject → List ℕ → Verdict
verdict s bytes =
    verdict_at_end (reached s 1 Unopened (lines_in bytes).ended) (lines_in bytes).rest

-- a file passes for a task
abbrev pub Passes : Parts → List ℕ → Type 0
Passes t bytes = verdict (subject_of t) bytes ≡ Pass
