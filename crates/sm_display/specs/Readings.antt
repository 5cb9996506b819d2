-- What the answer of `explain` says of the bytes that were read. Public clauses cite it.
use Rattle.std.specs.Prelude.{ℕ, Option, Some, None, List}
use Rattle.sm_io.specs.Reads.{Read}
use Rattle.sm_answers.specs.Readings.{ReplaysRead}
use Rattle.sm_answers.specs.declared.status.Status.{Status}

-- with an input what that of `replay` says
abbrev pub ExplainsRead : List ℕ → Option (List ℕ) → ℕ → List Read → List Read → Status → List ℕ
    → Type 0
ExplainsRead task None turns before now status text = Unit {0}
ExplainsRead task (Some input) turns before now status text =
    ReplaysRead task input turns before now status text
