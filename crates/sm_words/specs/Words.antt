-- The words that the program is given, without its name: a command, and what `clap` says that this
-- command takes. Public clauses cite it.
use Rattle.std.specs.Prelude.{◌≡◌, ◌≢◌, ◌⊎◌, ℕ, true, List, [], ◌∷◌, Option, Some, None, is_some, codes, if◌then◌else◌, option_and_then, option_map}
use Rattle.std.specs.Str.{bytes_eq}
use Rattle.clap.specs.Faults.{fault_of}
use Rattle.clap.specs.Kinds.{Kinds}
use Rattle.clap.specs.Simple.{matches_of}
use Rattle.clap.specs.Walk.{Text, first_of}
use Rattle.sm_words.specs.Command.{command_of}
use Rattle.sm_words.specs.Numbers.{turns_by, workers_by, HasBadNumber, effort_by, seed_by, size_by, cache_by, copy_by}
use Rattle.sm_words.specs.declared.about.About.{About}
use Rattle.sm_words.specs.declared.about.About.TheVariants.{Help, Version}
pub use Rattle.sm_words.specs.declared.command.Verb.{Verb}
pub use Rattle.sm_words.specs.declared.effort.Effort.{Effort}
pub use Rattle.sm_words.specs.declared.command.Verb.TheVariants.{Batch, Check, Explain, Gen, Print, Replay, Suggest, Trim, Verify}
use Rattle.sm_words.specs.declared.command.Verb.TheVariants as verb
use Rattle.sm_syntax.specs.declared.copies.CopyName.{CopyName}

-- the words that the program was given
abbrev pub Words : Type 0
Words = List Text

-- the command that a word names
abbrev pub verb_of : Text → Option Verb
verb_of word =
    if bytes_eq word (codes "check") then Some Check else
    (if bytes_eq word (codes "verify") then Some Verify else
    (if bytes_eq word (codes "replay") then Some Replay else
    (if bytes_eq word (codes "print") then Some Print else
    (if bytes_eq word (codes "suggest") then Some Suggest else
    (if bytes_eq word (codes "gen") then Some Gen else
    (if bytes_eq word (codes "explain") then Some Explain else
    (if bytes_eq word (codes "batch") then Some Batch else
    (if bytes_eq word (codes "trim") then Some Trim else
    (if bytes_eq word (codes "help") then Some (verb.About Help) else
    (if bytes_eq word (codes "version") then Some (verb.About Version) else None))))))))))

-- what `clap` finds wrong with the words of a command: nothing where the command takes them
unfoldable pub word_faults : Verb → Words → Kinds
word_faults verb words = fault_of (command_of verb) words

-- the text that the words give for an argument of a command
unfoldable pub argument_text : Verb → Text → Words → Option Text
argument_text verb id words = first_of id (matches_of (command_of verb) words)

-- how much a search may do, by the words of a command
abbrev pub effort_in : Verb → Words → Option Effort
effort_in verb words = effort_by (λ (id : Text). argument_text verb id words)

-- a number among the words of a command isn't one, or isn't in its range; or a copy's name is none;
-- or the file of the proof that is to be written is that of the task, or of the proof that is given
abbrev pub HasBadOption : Verb → Words → Type 0
HasBadOption Check words =
    (argument_text Check (codes "TASK") words ≡ argument_text Check (codes "PROOF") words)
    ⊎ (effort_in Check words ≡ None)
HasBadOption Verify words = workers_by (argument_text Verify (codes "workers") words) ≡ None
HasBadOption Replay words =
    HasBadNumber (argument_text Replay (codes "turns") words)
    (argument_text Replay (codes "workers") words)
HasBadOption Print words = copy_by (argument_text Print (codes "copy") words) ≡ None
HasBadOption Suggest words = effort_in Suggest words ≡ None
HasBadOption Gen words =
    (seed_by (argument_text Gen (codes "SEED") words) ≡ None)
    ⊎ ((size_by (argument_text Gen (codes "SIZE") words) ≡ None) ⊎ (effort_in Gen words ≡ None))
HasBadOption Explain words = turns_by (argument_text Explain (codes "turns") words) ≡ None
HasBadOption Batch words =
    (cache_by (argument_text Batch (codes "cache") words) ≡ None) ⊎ (effort_in Batch words ≡ None)
HasBadOption Trim words =
    (argument_text Trim (codes "TASK") words ≡ argument_text Trim (codes "OUT") words)
    ⊎ (argument_text Trim (codes "PROOF") words ≡ argument_text Trim (codes "OUT") words)
HasBadOption (verb.About what) words = ⊥

-- the words are none of the command's: `clap` refuses them, or an option is bad
abbrev pub IsRefused : Option Verb → Words → Type 0
IsRefused None words = Unit {0}
IsRefused (Some verb) words = (word_faults verb words ≢ []) ⊎ HasBadOption verb words

-- no command takes the words
abbrev pub IsUsage : Words → Type 0
IsUsage [] = Unit {0}
IsUsage (word ∷ rest) = IsRefused (verb_of word) (word ∷ rest)

-- what is asked for
pub data Asked : Type 0 where
  -- the decision on a task's file, and its proof in another file
  check : List ℕ → List ℕ → Effort → Asked
  -- whether the file of a proof passes for a task's file, with a number of workers
  verify : List ℕ → List ℕ → ℕ → Asked
  -- what a task's programs do from an input's file
  replay : List ℕ → List ℕ → ℕ → Asked
  -- the canonical text of a task's file, or of the program of one of its copies
  print : List ℕ → Option CopyName → Asked
  -- the first combination of the fillings in a task's file that the decision accepts
  suggest : List ℕ → Effort → Asked
  -- the decision on the task that a seed and a size make
  gen : ℕ → ℕ → Effort → Asked
  -- why a task's file is refused or what its programs are; where an input's file is named, what they
  -- do from it, and where their ends differ
  explain : List ℕ → Option (List ℕ) → ℕ → Asked
  -- the decision on each task's file that a list's file names, where the accepting answers of so many
  -- tasks are kept
  batch : List ℕ → ℕ → Effort → Asked
  -- the proof in a file for a task's file, without lines that nobody uses, in another file
  trim : List ℕ → List ℕ → List ℕ → Asked
  -- what the program says of itself
  about : About → Asked

-- the file of the task
abbrev pub task_file : Asked → Option Text
task_file (check task proof effort) = Some task
task_file (verify task proof workers) = Some task
task_file (replay task input turns) = Some task
task_file (print task copy) = Some task
task_file (suggest task effort) = Some task
task_file (gen seed size effort) = None
task_file (explain task input turns) = Some task
task_file (batch list cache effort) = None
task_file (trim task proof out) = Some task
task_file (about what) = None

-- what `check` asks for, by the texts of its arguments
abbrev pub check_by : Option Text → Option Text → Option Effort → Option Asked
check_by task proof effort =
    option_and_then (λ (t : Text).
    option_and_then (λ (p : Text).
    if bytes_eq t p then None else option_map (λ (e : Effort). check t p e) effort) proof) task

-- what `verify` asks for
abbrev pub verify_by : Option Text → Option Text → Option Text → Option Asked
verify_by task proof workers =
    option_and_then (λ (t : Text).
    option_and_then (λ (p : Text).
    option_map (λ (w : ℕ). verify t p w) (workers_by workers)) proof) task

-- what `replay` asks for; its workers change nothing
abbrev pub replay_by : Option Text → Option Text → Option Text → Option Text → Option Asked
replay_by task input turns workers =
    option_and_then (λ (t : Text).
    option_and_then (λ (i : Text).
    option_and_then (λ (n : ℕ).
    option_map (λ (w : ℕ). replay t i n) (workers_by workers)) (turns_by turns)) input) task

-- what `print` asks for
abbrev pub print_by : Option Text → Option Text → Option Asked
print_by task copy =
    option_and_then (λ (t : Text).
    option_map (λ (c : Option CopyName). print t c) (copy_by copy)) task

-- what `suggest` asks for
abbrev pub suggest_by : Option Text → Option Effort → Option Asked
suggest_by task effort =
    option_and_then (λ (t : Text). option_map (λ (e : Effort). suggest t e) effort) task

-- what `gen` asks for
abbrev pub gen_by : Option Text → Option Text → Option Effort → Option Asked
gen_by seed size effort =
    option_and_then (λ (s : ℕ).
    option_and_then (λ (n : ℕ).
    option_map (λ (e : Effort). gen s n e) effort) (size_by size)) (seed_by seed)

-- what `explain` asks for; without an input its turns change nothing
abbrev pub explain_by : Option Text → Option Text → Option Text → Option Asked
explain_by task input turns =
    option_and_then (λ (t : Text).
    option_map (λ (n : ℕ). explain t input n) (turns_by turns)) task

-- what `batch` asks for
abbrev pub batch_by : Option Text → Option Text → Option Effort → Option Asked
batch_by list cache effort =
    option_and_then (λ (l : Text).
    option_and_then (λ (n : ℕ).
    option_map (λ (e : Effort). batch l n e) effort) (cache_by cache)) list

-- what `trim` asks for
abbrev pub trim_by : Option Text → Option Text → Option Text → Option Asked
trim_by task proof out =
    option_and_then (λ (t : Text).
    option_and_then (λ (p : Text).
    option_and_then (λ (o : Text).
    if bytes_eq t o then None else (if bytes_eq p o then None else Some (trim t p o))) out) proof) task

-- what a command asks for by its words
abbrev pub asked_by : Verb → Words → Option Asked
asked_by Check words =
    check_by (argument_text Check (codes "TASK") words)
    (argument_text Check (codes "PROOF") words) (effort_in Check words)
asked_by Verify words =
    verify_by (argument_text Verify (codes "TASK") words)
    (argument_text Verify (codes "PROOF") words) (argument_text Verify (codes "workers") words)
asked_by Replay words =
    replay_by (argument_text Replay (codes "TASK") words)
    (argument_text Replay (codes "INPUT") words)
    (argument_text Replay (codes "turns") words) (argument_text Replay (codes "workers") words)
asked_by Print words =
    print_by (argument_text Print (codes "TASK") words) (argument_text Print (codes "copy") words)
asked_by Suggest words =
    suggest_by (argument_text Suggest (codes "TASK") words) (effort_in Suggest words)
asked_by Gen words =
    gen_by (argument_text Gen (codes "SEED") words) (argument_text Gen (codes "SIZE") words)
    (effort_in Gen words)
asked_by Explain words =
    explain_by (argument_text Explain (codes "TASK") words)
    (argument_text Explain (codes "INPUT") words) (argument_text Explain (codes "turns") words)
asked_by Batch words =
    batch_by (argument_text Batch (codes "LIST") words)
    (argument_text Batch (codes "cache") words) (effort_in Batch words)
asked_by Trim words =
    trim_by (argument_text Trim (codes "TASK") words)
    (argument_text Trim (codes "PROOF") words) (argument_text Trim (codes "OUT") words)
asked_by (verb.About what) words = Some (about what)

-- the value where there is no fault
abbrev pub unless : {X Y : Type 0} → List X → Option Y → Option Y
unless [] value = value
unless (fault ∷ rest) value = None

-- each word that a command requires is given
abbrev pub HasRequired : Verb → (Text → Option Text) → Type 0
HasRequired Check given =
    (is_some (given (codes "TASK")) ≡ true) × (is_some (given (codes "PROOF")) ≡ true)
HasRequired Verify given =
    (is_some (given (codes "TASK")) ≡ true) × (is_some (given (codes "PROOF")) ≡ true)
HasRequired Replay given =
    (is_some (given (codes "TASK")) ≡ true) × (is_some (given (codes "INPUT")) ≡ true)
HasRequired Print given = is_some (given (codes "TASK")) ≡ true
HasRequired Suggest given = is_some (given (codes "TASK")) ≡ true
HasRequired Gen given =
    (is_some (given (codes "SEED")) ≡ true) × (is_some (given (codes "SIZE")) ≡ true)
HasRequired Explain given = is_some (given (codes "TASK")) ≡ true
HasRequired Batch given = is_some (given (codes "LIST")) ≡ true
HasRequired Trim given =
    (is_some (given (codes "TASK")) ≡ true) × (is_some (given (codes "PROOF")) ≡ true)
    × (is_some (given (codes "OUT")) ≡ true)
HasRequired (verb.About what) given = Unit {0}

-- what the words ask for, where the command takes them
abbrev pub asked_where : Option Verb → Words → Option Asked
asked_where None words = None
asked_where (Some verb) words = unless (word_faults verb words) (asked_by verb words)

-- what the words ask for; nothing where no command takes them
abbrev pub asked : Words → Option Asked
asked [] = None
asked (word ∷ rest) = asked_where (verb_of word) (word ∷ rest)

-- the line on words that no command takes
abbrev pub usage_line_of : Option Verb → List ℕ
usage_line_of None = codes "Usage\n"
usage_line_of (Some Check) = codes "Usage check\n"
usage_line_of (Some Verify) = codes "Usage verify\n"
usage_line_of (Some Replay) = codes "Usage replay\n"
usage_line_of (Some Print) = codes "Usage print\n"
usage_line_of (Some Suggest) = codes "Usage suggest\n"
usage_line_of (Some Gen) = codes "Usage gen\n"
usage_line_of (Some Explain) = codes "Usage explain\n"
usage_line_of (Some Batch) = codes "Usage batch\n"
usage_line_of (Some Trim) = codes "Usage trim\n"
usage_line_of (Some (verb.About Help)) = codes "Usage help\n"
usage_line_of (Some (verb.About Version)) = codes "Usage version\n"

-- the line on words that no command takes, by the first of them
abbrev pub usage_line : Words → List ℕ
usage_line [] = codes "Usage\n"
usage_line (word ∷ rest) = usage_line_of (verb_of word)
