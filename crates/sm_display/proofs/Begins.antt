-- An answer of `explain` has the status of `print` or of `replay`, and begins with its line.
use Rattle.sm_display.proofs.Imports.{◌≡◌, ◌++◌, inl, inr, ℕ, List, [], Option, Some, None, sym, append-nil, Known, Parts, ReplaysInput, Status, Accepted, of_accepted, replay_to_command, same_as, without_task, IsToCommand, Explains, ExplainsInput, start_heading}
use Rattle.sm_display.specs.Laws.{BeginsAsRefused, BeginsAsReplayed}

pub begins_refused : BeginsAsRefused
begins_refused file before now status text (inl none) = (text, [], inl none, sym (append-nil text))
begins_refused file before now status text (inr r) = (
  r.refuses.line,
  r.refuses.place ++ r.refuses.tokens,
  inr (record { bytes = r.bytes; read = r.read; refuses = r.refuses.refuses }),
  r.refuses.printed,
)

begins_input : (t : Parts) (file : Known) (turns before now : ℕ) (status : Status) (text : List ℕ)
    → ExplainsInput t file turns before now status text →
    (line more : List ℕ) × ReplaysInput t file turns before now status line × (text ≡ line ++ more)
begins_input t file turns before now status text (inl none) = (text, [], inl none, sym (append-nil text))
begins_input t file turns before now status text (inr c) = (
  c.answers.line,
  start_heading ++ (c.answers.start ++ c.answers.ends),
  inr (record { store = c.store; gives = c.gives; answers = c.answers.answers }),
  c.answers.printed,
)

pub begins_replayed : BeginsAsReplayed
begins_replayed file input turns before now status text (inl none) =
    let b = begins_refused file before now status text none in
    (b.0, b.1, inl b.2, b.3)
begins_replayed file input turns before now status text (inr c) =
    let b = begins_input c.task input turns c.between now status text c.answers in
    (b.0, b.1, inr (record { task = c.task; between = c.between; gives = c.gives; answers = b.2 }), b.3)

-- what every answer to a command says of its status
pub explain_to_command : (files : List ℕ → Known) (task : List ℕ) (input : Option (List ℕ)) (turns before now : ℕ) (status : Status)
    (text : List ℕ) → Explains files task input turns before now status text → IsToCommand before now status
explain_to_command files task None turns before now status text (inl none) =
    let b = begins_refused (files task) before now status text none in
    (without_task (files task) before now status b.0 b.2).to_command
explain_to_command files task None turns before now status text (inr c) =
    record { of_command = same_as status Accepted c.says.ended of_accepted; quiet = λ h. c.gives.read.quiet }
explain_to_command files task (Some input) turns before now status text a =
    let b = begins_replayed (files task) (files input) turns before now status text a in
    replay_to_command (files task) (files input) turns before now status b.0 b.2
