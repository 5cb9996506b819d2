-- What bytes say of a merge: that it is free of conflicts, that a proof passes for it, or that it isn't.
-- Public clauses cite it.
use Rattle.std.specs.Prelude.{◌≤◌, ℕ, List, length}
use Rattle.sm_syntax.specs.claim.ConflictFree.{ConflictFree}
use Rattle.sm_syntax.specs.text.Parts.{Parts, sort_of, task_of}
use Rattle.sm_syntax.specs.text.Spells.{Spells}
use Rattle.sm_eval.specs.StoredValues.{meaning}
use Rattle.sm_eval.specs.declared.store.Store.{Store}
use Rattle.sm_replay.specs.Input.{IsInput}
use Rattle.sm_replay.specs.Violations.{Violates}
use Rattle.sm_proof.specs.Verdicts.{Passes}
use Rattle.sm_answers.specs.File.{file_limit}
use Rattle.sm_answers.specs.Verify.{proof_limit}

-- Accepted of `check`, `verify` and `trim`: the bytes spell a task that is free of conflicts
abbrev pub IsSafeMerge : List ℕ → Type 0
IsSafeMerge bytes = (t : Parts) × Spells bytes t × ConflictFree (task_of t)

-- Accepted of `verify`, and nothing else: the task's bytes spell a task for which the proof's pass,
-- each within its limit
pub record IsProved (task proof : List ℕ) : Type 0 where
  pub parts : Parts
  pub spells : Spells task parts
  pub passes : Passes parts proof
  pub short : length task ≤ file_limit
  pub fits : length proof ≤ proof_limit

-- Conflict: the bytes spell a task that isn't free of conflicts
abbrev pub IsUnsafeMerge : List ℕ → Type 0
IsUnsafeMerge bytes = (t : Parts) × Spells bytes t × ¬ ConflictFree (task_of t)

-- the bytes spell a task, and the input gives a store from which its four programs show a conflict
abbrev pub IsViolatedFrom : List ℕ → ℕ → List ℕ → Type 0
IsViolatedFrom input turns bytes = (t : Parts) × Spells bytes t
    × ((s : Store) × IsInput t.names (sort_of t.declared) input s
    × Violates (task_of t) (meaning s) turns)
