-- What Accepted of `suggest` says: the task is free of conflicts with the combination that is put.
use Rattle.sm_commands.proofs.Imports.{◌≡◌, ℕ, List, Some, WhereHeld, Status, Accepted, IsSafeSuggestion, Files, IsAnswerTo, Words, asked, suggest, Effort, suggested_where}

pub suggests_safe : (words : Words) (files : Files) (before now : ℕ) (status : Status) (text : List ℕ)
    → IsAnswerTo words files before now status text → status ≡ Accepted → (task : List ℕ) (effort : Effort)
    → asked words ≡ Some (suggest task effort) → WhereHeld (files task) (IsSafeSuggestion text)
suggests_safe words files before now status text answers e task effort asks =
    suggested_where (files task) effort before now status text (rw asks at answers) e
