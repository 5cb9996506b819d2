-- What the job of a trial gives, and the first of many that gives something. No public clause cites
-- it.
use Rattle.std.specs.Prelude.{◌≡◌, ◌<◌, ℕ, Option, Some, None, Result, Ok, Err, List, length, slice_index_or}
use Rattle.sm_syntax.specs.claim.ConflictFree.{Task}
use Rattle.sm_syntax.specs.claim.Stores.{Store}
use Rattle.sm_replay.specs.declared.error.ReplayError.{ReplayError}
use Rattle.sm_replay.specs.declared.verdict.Verdict.TheVariants as verdict
use Rattle.sm_replay.specs.Trials.{Names, Verdict}
use Rattle.sm_replay.specs.Violations.{Violates}

-- the verdict of an answer, where it says that the store violates
abbrev pub shown_of : Result Verdict ReplayError → Option Verdict
shown_of (Ok verdict.Holds) = None
shown_of (Ok verdict.Unmet) = None
shown_of (Ok (verdict.Violates x i part)) = Some (verdict.Violates x i part)
shown_of (Err e) = None

-- what the answer to a trial says: none where it doesn't violate, else where it does
abbrev pub Shows : Task → Store → ℕ → Option Verdict → Type 0
Shows t s n None = ¬ Violates t s n
Shows t s n (Some v) = Violates t s n × Names t s n v

-- the first answer of a list that is there
pub record IsFirstThere (results : List (Option Verdict)) (k : ℕ) (v : Verdict) : Type 0 where
  pub inside : k < length results
  pub there : slice_index_or results k None ≡ Some v
  pub none_before : (i : ℕ) → i < k → slice_index_or results i None ≡ None
