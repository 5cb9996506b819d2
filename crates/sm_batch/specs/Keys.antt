-- Under which key a task's reply is kept. Public clauses cite it.
use Rattle.std.specs.Prelude.{ℕ, Bool, List}
use Rattle.std.specs.Str.{bytes_eq}
use Rattle.sm_syntax.specs.text.Parts.{Parts}
use Rattle.sm_text.specs.printing.Canonical.{task_pieces}
use Rattle.sm_text.specs.printing.Pieces.{pieces_text}

-- the key of a task: its canonical text
unfoldable pub key_of : Parts → List ℕ
key_of t = pieces_text t.names (task_pieces t)

-- whether a key is that of a task
unfoldable pub is_key_of : Parts → List ℕ → Bool
is_key_of t key = bytes_eq (key_of t) key
