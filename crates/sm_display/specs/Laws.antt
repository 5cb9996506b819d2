-- How the answers of `explain` begin. Public clauses cite it.
use Rattle.std.specs.Prelude.{◌≡◌, ℕ, List, ◌++◌}
use Rattle.sm_io.specs.Files.{Known}
use Rattle.sm_answers.specs.File.{GivesNoTask}
use Rattle.sm_answers.specs.declared.status.Status.{Status}
use Rattle.sm_answers.specs.Replay.{Replays}
use Rattle.sm_display.specs.Explain.{ExplainsNoTask, ExplainsRun}

-- where the file gives no task, with the answer of every command on it
abbrev pub BeginsAsRefused : Type 0
BeginsAsRefused =
    (file : Known) (before now : ℕ) (status : Status) (text : List ℕ)
    → ExplainsNoTask file before now status text
    → (line more : List ℕ) × GivesNoTask file before now status line × (text ≡ line ++ more)

-- where an input is named, with the answer of `replay`
abbrev pub BeginsAsReplayed : Type 0
BeginsAsReplayed =
    (file input : Known) (turns before now : ℕ) (status : Status) (text : List ℕ)
    → ExplainsRun file input turns before now status text
    → (line more : List ℕ) × Replays file input turns before now status line
    × (text ≡ line ++ more)
