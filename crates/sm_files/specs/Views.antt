-- How a command ends. Only private clauses cite it.
use Rattle.std.specs.Prelude.{◌≡◌, ℕ, Result, Ok, Err}
use Rattle.sm_io.specs.Causes.{HasCause}
use Rattle.sm_answers.specs.declared.exit.Exit.{Exit}
use Rattle.sm_answers.specs.declared.exit.Exit.TheVariants.{Answer, Memory}
use Rattle.sm_answers.specs.declared.status.Reply.{Reply}
use Rattle.sm_answers.specs.declared.status.Status.{Status}
use Rattle.sm_answers.specs.declared.status.Status.TheVariants.{WriteFault}

-- a result of a command has an answer with this status, or the other where memory is wanting
abbrev pub EndsWith : (Status → Type 0) → Type 0 → Result Reply Exit → Type 0
EndsWith Has Else (Ok r) = Has r.status
EndsWith Has Else (Err (Answer r)) = Has r.status
EndsWith Has Else (Err Memory) = Else

-- over a command: a count of faults to write rises only where it answers one
abbrev pub CountsWrites : ℕ → ℕ → Result Reply Exit → Type 0
CountsWrites before now result =
    EndsWith (λ status. HasCause before now (status ≡ WriteFault)) (now ≡ before) result
