-- What a line `I Accepted` of `batch` says: of files that are told, and of the bytes that were read.
-- The public clauses `batched` and `batched_read` of `safemerge` cite it.
use Rattle.std.specs.Prelude.{◌≡◌, ◌<◌, ◌++◌, ℕ, suc, Some, List, slice_get, codes, decimal, Contains}
use Rattle.sm_io.specs.Files.{Known, WhereHeld}
use Rattle.sm_io.specs.Reads.{Read, ReadsWhole}
use Rattle.sm_proof.specs.Verdicts.{lines_in}
use Rattle.sm_answers.specs.Lists.{names_in}
use Rattle.sm_answers.specs.Merges.{IsSafeMerge}
use Rattle.sm_answers.specs.ReadFiles.{ReadsAmong}

-- the text has the line `I Accepted` for the name at place k of the list, where I is k + 1
abbrev pub HasAccepted : ℕ → List ℕ → Type 0
HasAccepted k text = Contains (lines_in text).ended (decimal (suc k) ++ codes " Accepted")

-- for each such line, the list's name at that place is of a file whose bytes spell a task that is
-- free of conflicts
abbrev pub AcceptsSafe : (List ℕ → Known) → List ℕ → List ℕ → Type 0
AcceptsSafe files list text =
    (k : ℕ) → k < 1000 → HasAccepted k text → WhereHeld (files list) (λ (bytes : List ℕ).
    (name : List ℕ) × (slice_get (names_in bytes) k ≡ Some name)
    × WhereHeld (files name) IsSafeMerge)

-- for each such line, the list was read, and then among others the file with its name at that place,
-- whose bytes spell a task that is free of conflicts
abbrev pub AcceptsSafeRead : List ℕ → List Read → List Read → List ℕ → Type 0
AcceptsSafeRead list before now text =
    (k : ℕ) → k < 1000 → HasAccepted k text →
    (bytes : List ℕ) × (between : List Read) × ReadsWhole list before between bytes
    × (name : List ℕ) × (slice_get (names_in bytes) k ≡ Some name)
    × ReadsAmong name between now IsSafeMerge
