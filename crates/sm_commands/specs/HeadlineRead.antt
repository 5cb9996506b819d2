-- What Accepted and Conflict say of the bytes that were read: on every shelf, whether it tells what
-- its files hold or not. The public clauses `accepted_read`, `verified_read`, `conflict_read`,
-- `shown_read` and `suggested_read` of `safemerge` cite it.
use Rattle.std.specs.Prelude.{ℕ, List, Some, None}
use Rattle.sm_io.specs.Reads.{Read}
use Rattle.sm_commands.specs.Headline.{EndsWithInput}
use Rattle.sm_answers.specs.Merges.{IsProved, IsSafeMerge, IsUnsafeMerge, IsViolatedFrom}
use Rattle.sm_replies.specs.Suggest.{IsSafeSuggestion}
use Rattle.sm_words.specs.Words.{Asked, check, verify, replay, print, suggest, gen, explain, batch, trim, about}
use Rattle.sm_words.specs.declared.effort.Effort.{Effort}
use Rattle.sm_answers.specs.ReadFiles.{ReadsOne, ReadsTwo}

-- Accepted of `check`: what was read spells a task that is free of conflicts. Of `verify` and `trim`:
-- and then a proof was read that passes for it
abbrev pub AcceptsRead : Asked → List Read → List Read → Type 0
AcceptsRead (check task proof effort) before now = ReadsOne task before now IsSafeMerge
AcceptsRead (verify task proof workers) before now =
    ReadsTwo task proof before now (λ (bytes lines : List ℕ).
    IsSafeMerge bytes × IsProved bytes lines)
AcceptsRead (replay task input turns) before now = Unit {0}
AcceptsRead (print task copy) before now = Unit {0}
AcceptsRead (suggest task effort) before now = Unit {0}
AcceptsRead (gen seed size effort) before now = Unit {0}
AcceptsRead (explain task input turns) before now = Unit {0}
AcceptsRead (batch list cache effort) before now = Unit {0}
AcceptsRead (trim task proof out) before now =
    ReadsTwo task proof before now (λ (bytes lines : List ℕ).
    IsSafeMerge bytes × IsProved bytes lines)
AcceptsRead (about what) before now = Unit {0}

-- Accepted of `verify`, and nothing else: the task was read, and then a proof that passes for it
abbrev pub ReadsProved : List ℕ → List ℕ → List Read → List Read → Type 0
ReadsProved task proof before now = ReadsTwo task proof before now IsProved

-- Conflict of `check`: what was read spells a task that isn't free of conflicts. Of `replay`, and of
-- `explain` with an input: and then an input was read that shows one. `gen` may answer it of a task
-- that it makes, and no other
abbrev pub ConflictsRead : Asked → List Read → List Read → Type 0
ConflictsRead (check task proof effort) before now = ReadsOne task before now IsUnsafeMerge
ConflictsRead (verify task proof workers) before now = ⊥
ConflictsRead (replay task input turns) before now =
    ReadsTwo task input before now (λ (bytes given : List ℕ).
    IsUnsafeMerge bytes × IsViolatedFrom given turns bytes)
ConflictsRead (print task copy) before now = ⊥
ConflictsRead (suggest task effort) before now = ⊥
ConflictsRead (gen seed size effort) before now = Unit {0}
ConflictsRead (explain task None turns) before now = ⊥
ConflictsRead (explain task (Some input) turns) before now =
    ReadsTwo task input before now (λ (bytes given : List ℕ).
    IsUnsafeMerge bytes × IsViolatedFrom given turns bytes)
ConflictsRead (batch list cache effort) before now = Unit {0}
ConflictsRead (trim task proof out) before now = ⊥
ConflictsRead (about what) before now = ⊥

-- Conflict of `check`: the text has the line of an input that shows a conflict of the task that was
-- read, and ends with it without `--why`
abbrev pub ShowsReadInput : List ℕ → List Read → List Read → Effort → List ℕ → Type 0
ShowsReadInput task before now effort text =
    ReadsOne task before now (λ (bytes : List ℕ).
    (input : List ℕ) × EndsWithInput effort input text
    × IsViolatedFrom input effort.turns bytes)

-- Accepted of `suggest`: the text is the line of a combination with which the task that was read is
-- free of conflicts
abbrev pub SuggestsRead : List ℕ → List Read → List Read → List ℕ → Type 0
SuggestsRead task before now text = ReadsOne task before now (IsSafeSuggestion text)
