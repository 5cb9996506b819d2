-- Laws of violations, of answers and of tasks, each for all tasks and stores. Public clauses cite
-- it.
use Rattle.std.specs.Prelude.{◌≡◌, ◌≢◌, ℕ, Option, None, Result, Ok, Err, List}
use Rattle.serde_json.specs.Data.{Members}
use Rattle.sm_syntax.specs.text.Conditions.{first_refusal}
use Rattle.sm_syntax.specs.claim.ConflictFree.{Task, ConflictFree}
use Rattle.sm_syntax.specs.text.Parts.{Parts, sort_of}
use Rattle.sm_syntax.specs.text.Sorts.{Sorts}
use Rattle.sm_syntax.specs.text.Spells.{Spells}
use Rattle.sm_syntax.specs.claim.Stores.{Store}
use Rattle.sm_eval.specs.StoredValues.{meaning, sorts_of}
use Rattle.sm_eval.specs.declared.store.Store as code
use Rattle.sm_replay.specs.declared.error.InputError.TheVariants as no_input
use Rattle.sm_replay.specs.declared.error.ReplayError.TheVariants as stop
use Rattle.sm_replay.specs.Input.{Texts, Reads, InputError}
use Rattle.sm_replay.specs.Sorted.{sort_fault}
use Rattle.sm_replay.specs.Trials.{IsLeast, IsFirstViolation, Verdict}
use Rattle.sm_replay.specs.Verdicts.{Judges, ReplayError}
use Rattle.sm_replay.specs.Violations.{Violates}
use Rattle.sm_replay.specs.InputText.{AreNamed, AreWritten}

-- a violation shows that the merge isn't free of conflicts
abbrev pub ViolationsConflict : Type 0
ViolationsConflict = (t : Task) (s : Store) (n : ℕ) → Violates t s n → ¬ ConflictFree t

-- a task that meets all conditions may be run
abbrev pub ValidTasksRun : Type 0
ValidTasksRun = (t : Parts) → first_refusal t ≡ None → sort_fault t ≡ None

-- each declared name of a text's task is found by its text
abbrev pub SpelledNamesAreFound : Type 0
SpelledNamesAreFound =
    (bytes : List ℕ) (t : Parts) → Spells bytes t → AreNamed t.names (sort_of t.declared)

-- two answers to one store are equal, where neither is want of memory
abbrev pub VerdictIsOne : Type 0
VerdictIsOne =
    (t : Task) (s : Store) (n : ℕ) (a b : Result Verdict ReplayError)
    → a ≢ Err stop.Memory → b ≢ Err stop.Memory → Judges t s n a → Judges t s n b → a ≡ b

-- one trial alone is the least that violates, and one verdict names where it does
abbrev pub LeastTrialIsOne : Type 0
LeastTrialIsOne =
    (t : Task) (sorts : Sorts) (n j k : ℕ) (v w : Verdict)
    → IsLeast t sorts n j v → IsLeast t sorts n k w → (j ≡ k) × (v ≡ w)

-- there is one first violation, or none
abbrev pub FirstViolationIsOne : Type 0
FirstViolationIsOne =
    (t : Task) (sorts : Sorts) (n : ℕ) (a b : Option (ℕ × Verdict))
    → IsFirstViolation t sorts n a → IsFirstViolation t sorts n b → a ≡ b

-- two answers give stores with the same values and sorts, or one error
abbrev pub SameReading : Result code.Store InputError → Result code.Store InputError → Type 0
SameReading (Ok s) (Ok u) = (meaning s ≡ meaning u) × (sorts_of s ≡ sorts_of u)
SameReading (Ok s) (Err f) = ⊥
SameReading (Err e) (Ok u) = ⊥
SameReading (Err e) (Err f) = e ≡ f

-- two readings of the same bytes are the same, where neither is want of memory
abbrev pub ReadingIsOne : Type 0
ReadingIsOne =
    (names : Texts) (sorts : Sorts) (bytes : List ℕ) (a b : Result code.Store InputError)
    → a ≢ Err no_input.Memory → b ≢ Err no_input.Memory
    → Reads names sorts bytes a → Reads names sorts bytes b → SameReading a b

-- the members that are written for a store are one list, so the text of a store is one
abbrev pub WrittenTextIsOne : Type 0
WrittenTextIsOne =
    (names : Texts) (sorts : Sorts) (s : Store) (m n : Members)
    → AreWritten names sorts s m → AreWritten names sorts s n → m ≡ n
