-- What Accepted and Conflict say of the files, where the shelf tells their bytes. The public
-- clauses `accepted`, `verified`, `conflict`, `shown`, `replayed` and `explained` of `safemerge` cite
-- it.
use Rattle.std.specs.Prelude.{◌≡◌, ◌++◌, ℕ, false, Option, Some, None, List, []}
use Rattle.sm_io.specs.Files.{Known, WhereHeld}
use Rattle.sm_answers.specs.Lines.{input_line}
use Rattle.sm_words.specs.Words.{Asked, check, verify, replay, print, suggest, gen, explain, batch, trim, about}
use Rattle.sm_words.specs.declared.effort.Effort.{Effort}
use Rattle.sm_answers.specs.Merges.{IsViolatedFrom}

-- the file of the task, where it is asked whether its merge is free of conflicts
abbrev pub merge_file : Asked → Option (List ℕ)
merge_file (check task proof effort) = Some task
merge_file (verify task proof workers) = Some task
merge_file (replay task input turns) = None
merge_file (print task copy) = None
merge_file (suggest task effort) = None
merge_file (gen seed size effort) = None
merge_file (explain task input turns) = None
merge_file (batch list cache effort) = None
merge_file (trim task proof out) = Some task
merge_file (about what) = None

-- the text ends with the line of an input, or with `--why` has it
abbrev pub EndsWithInput : Effort → List ℕ → List ℕ → Type 0
EndsWithInput effort input text = (front rest : List ℕ)
    × (text ≡ front ++ (input_line input ++ rest)) × (effort.why ≡ false → rest ≡ [])

-- Conflict of `check`: the text has the line of an input that shows a conflict of the task, and ends
-- with it without `--why`
abbrev pub ShowsInput : Known → Effort → List ℕ → Type 0
ShowsInput task effort text = (input : List ℕ) × EndsWithInput effort input text
    × WhereHeld task (IsViolatedFrom input effort.turns)

-- Conflict of `replay` and of `explain`: the input in the file shows a conflict of the task
abbrev pub IsShownByInput : Known → Known → ℕ → Type 0
IsShownByInput task input turns = WhereHeld input (λ (bytes : List ℕ).
    WhereHeld task (IsViolatedFrom bytes turns))
