-- What a line `I Accepted` of a batch says: of told files, and of the bytes that were read.
use Rattle.sm_commands.proofs.Imports.{◌≡◌, ℕ, List, Some, AcceptsSafe, Files, IsAnswerTo, Words, asked, batch, Effort, Status}
use Rattle.sm_replies.proofs.BatchSafe.{batch_safe}

-- ---- told files

pub batches_safe : (words : Words) (files : Files) (before now : ℕ) (status : Status) (text : List ℕ)
    → IsAnswerTo words files before now status text → (list : List ℕ) (cache : ℕ) (effort : Effort)
    → asked words ≡ Some (batch list cache effort) → AcceptsSafe files list text
batches_safe words files before now status text answers list cache effort asks =
    batch_safe files list effort before now status text (rw asks at answers)
