-- Results that stand for jobs, in the jobs' order.
use Rattle.std.specs.Prelude.{◌≡◌, ℕ, ◌+◌, ◌<◌, Result, Ok, List, length, slice_index_or}
use Rattle.std.specs.Fn.{Shared}
use Rattle.std.specs.declared.alloc.AllocError.{AllocError}

-- there are `count` results, and the one at k stands for the job with number start + k
pub record StandInOrder {T : Type 0} (stands_for : ℕ → T → Type 0) (start count : ℕ)
    (results : List T) : Type 0 where
  pub all : length results ≡ count
  pub each : (k : ℕ) (d : T) → k < count → stands_for (start + k) (slice_index_or results k d)

-- a call of a closure with number i may give t
abbrev pub MayGive : {F T : Type 0} → Shared F (ℕ × Unit {0}) (Result T AllocError) → F → ℕ → T
    → Type 0
MayGive calls call i t = calls.post call (i, tt) (Ok t)
