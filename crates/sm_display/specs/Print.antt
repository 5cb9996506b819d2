-- What `print` answers to a task's file: its canonical text, or that of a copy's program. The count of
-- read faults was `before`, and is `now`. Public clauses cite it.
use Rattle.std.specs.Prelude.{◌⊎◌, ℕ, List, Option, Some, None}
use Rattle.sm_io.specs.Files.{Known}
use Rattle.sm_syntax.specs.claim.ConflictFree.{program_of}
use Rattle.sm_syntax.specs.declared.copies.CopyName.{CopyName}
use Rattle.sm_syntax.specs.text.Parts.{Parts, task_of}
use Rattle.sm_syntax.specs.trees.Copies.{copy_named}
use Rattle.sm_text.specs.printing.Canonical.{program_pieces, task_pieces}
use Rattle.sm_text.specs.printing.Pieces.{pieces_text}
use Rattle.sm_answers.specs.File.{GivesNoTask, GivesTask}
use Rattle.sm_answers.specs.declared.status.Status.{Status}
use Rattle.sm_answers.specs.declared.status.Status.TheVariants.{Accepted}
use Rattle.sm_answers.specs.Status.{Says}

-- the canonical text of a task; or, where a copy is named, of the program of that copy, with its
-- holes filled
abbrev pub canonical_text : Parts → Option CopyName → List ℕ
canonical_text t None = pieces_text t.names (task_pieces t)
canonical_text t (Some copy) =
    let filled = program_of (task_of t) (copy_named copy) in
    pieces_text t.names (program_pieces t.declared t.outputs filled)

-- the file gives a task, and its canonical text, or that of a copy's program, is printed
pub record PrintsTask (file : Known) (copy : Option CopyName) (before now : ℕ) (status : Status)
    (text : List ℕ) : Type 0 where
  pub task : Parts
  pub gives : GivesTask file before now task
  pub says : Says Accepted (canonical_text task copy) status text

-- what is answered to `print`
abbrev pub Prints : Known → Option CopyName → ℕ → ℕ → Status → List ℕ → Type 0
Prints file copy before now status text =
    GivesNoTask file before now status text ⊎ PrintsTask file copy before now status text
