-- What the reads of a task, an input and a proof gave, of told files and of others, and what the
-- answers of `verify` and of `replay` say of them. Public clauses cite it.
use Rattle.std.specs.Prelude.{◌≡◌, ◌≤◌, ◌↔◌, ◌⊎◌, ℕ, List, length}
use Rattle.sm_eval.specs.StoredValues.{meaning}
use Rattle.sm_eval.specs.declared.store.Store.{Store}
use Rattle.sm_io.specs.Reads.{Read, ReadsOn, ReadsWhole}
use Rattle.sm_proof.specs.Verdicts.{Passes}
use Rattle.sm_replay.specs.Input.{IsInput}
use Rattle.sm_replay.specs.Violations.{Violates}
use Rattle.sm_syntax.specs.claim.ConflictFree.{ConflictFree}
use Rattle.sm_syntax.specs.text.Parts.{Parts, sort_of, task_of}
use Rattle.sm_syntax.specs.text.Spells.{Spells}
use Rattle.sm_answers.specs.File.{file_limit, Status, Accepted, Conflict}
use Rattle.sm_answers.specs.Verify.{proof_limit}

-- a file alone was read, in one pass, to its end or not
abbrev pub ReadsOnce : List ℕ → List Read → List Read → Type 0
ReadsOnce name before now = (bytes : List ℕ)
    × (ReadsOn name before now bytes ⊎ ReadsWhole name before now bytes)

-- a file alone was read, in one pass to its end, and its bytes spell the task
pub record ReadsTask (name : List ℕ) (before now : List Read) (t : Parts) : Type 0 where
  pub bytes : List ℕ
  pub read : ReadsWhole name before now bytes
  pub short : length bytes ≤ file_limit
  pub spells : Spells bytes t

-- so was one whose bytes give the store as an input of the task
pub record ReadsInput (t : Parts) (name : List ℕ) (before now : List Read) (s : Store)
    : Type 0 where
  pub bytes : List ℕ
  pub read : ReadsWhole name before now bytes
  pub gives : IsInput t.names (sort_of t.declared) bytes s

-- so was one whose bytes pass as a proof for the task
pub record ReadsProof (t : Parts) (name : List ℕ) (before now : List Read) : Type 0 where
  pub bytes : List ℕ
  pub read : ReadsWhole name before now bytes
  pub fits : length bytes ≤ proof_limit
  pub passes : Passes t bytes

-- the answer to a proof's file, which was read in one pass: Accepted exactly where it is a proof,
-- and only for a task that is free of conflicts
pub record PassesRead (t : Parts) (proof : List ℕ) (before now : List Read) (status : Status)
    (text : List ℕ) : Type 0 where
  pub once : ReadsOnce proof before now
  pub exactly : (status ≡ Accepted) ↔ ReadsProof t proof before now
  pub free : status ≡ Accepted → ConflictFree (task_of t)

-- the answer to `verify`: Accepted exactly where a task was read, and then a proof for it
pub record VerifiesRead (task proof : List ℕ) (before now : List Read) (status : Status)
    (text : List ℕ) : Type 0 where
  pub only : status ≡ Accepted →
      (t : Parts) × (between : List Read) × ReadsTask task before between t
      × ReadsProof t proof between now × ConflictFree (task_of t)
  pub all : (t : Parts) (between : List Read) → ReadsTask task before between t →
      ReadsProof t proof between now → status ≡ Accepted

-- a file alone was read, in one pass to its end, and its bytes give an input from which the task is
-- violated
pub record ReadsViolation (t : Parts) (name : List ℕ) (turns : ℕ) (before now : List Read)
    : Type 0 where
  pub store : Store
  pub input : ReadsInput t name before now store
  pub violates : Violates (task_of t) (meaning store) turns

-- the answer to an input's file is Conflict only where an input was read that shows one
abbrev pub RunsRead : Parts → List ℕ → ℕ → List Read → List Read → Status → List ℕ → Type 0
RunsRead t input turns before now status text =
    status ≡ Conflict → ReadsViolation t input turns before now

-- the answer to `replay` is Conflict only where a task was read, and then an input that shows one
abbrev pub ReplaysRead : List ℕ → List ℕ → ℕ → List Read → List Read → Status → List ℕ → Type 0
ReplaysRead task input turns before now status text = status ≡ Conflict →
    (t : Parts) × (between : List Read) × ReadsTask task before between t
    × ReadsViolation t input turns between now
