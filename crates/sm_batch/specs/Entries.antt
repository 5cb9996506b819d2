-- What is kept for tasks that had the accepting reply. Public clauses cite it.
use Rattle.std.specs.Prelude.{◌≡◌, ℕ, List, Contains}
use Rattle.sm_syntax.specs.text.Parts.{Parts}
use Rattle.sm_text.specs.printing.Named.{HasText}
use Rattle.sm_batch.specs.Keys.{key_of}

-- what is kept under a key: a reply, and a certificate
pub record Entry : Type 0 where
  pub reply : List ℕ
  pub cert : List ℕ

-- keys with what is kept under them, the most recently used first
abbrev pub Entries : Type 0
Entries = List (List ℕ × Entry)

module _ (Replies : Parts → List ℕ → Type 0) (Accepts : Parts → Type 0) where
  -- a task is accepted, and this is its reply
  abbrev pub IsAccepted : Parts → List ℕ → Type 0
  IsAccepted t reply = Accepts t × Replies t reply

  -- what is kept under each key is the accepting reply to the task of the key
  abbrev pub AreAccepted : Entries → Type 0
  AreAccepted entries =
      (key : List ℕ) (entry : Entry) → Contains entries (key, entry)
      → (t : Parts) → HasText t → key_of t ≡ key → IsAccepted t entry.reply
