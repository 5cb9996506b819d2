-- Laws of answers. Public clauses cite it.
use Rattle.std.specs.Prelude.{◌≡◌, ◌≢◌, ◌⊎◌, ℕ, false, List, Some, None}
use Rattle.sm_io.specs.Causes.{Rose}
use Rattle.sm_io.specs.Files.{untold}
use Rattle.sm_commands.specs.Top.{Files, IsAnswerTo}
use Rattle.sm_words.specs.Words.{Words, Asked, check, verify, replay, print, suggest, gen, explain, batch, trim, about, asked}
use Rattle.sm_answers.specs.declared.status.Status.{Status}
use Rattle.sm_answers.specs.declared.status.Status.TheVariants.{WriteFault}

-- the shelf tells of each file whether it is there, and which bytes it has
abbrev pub AreTold : Files → Type 0
AreTold files = (name : List ℕ) → files name ≢ untold

-- what is asked for, with another number of workers
abbrev pub with_workers : ℕ → Asked → Asked
with_workers workers (check task proof effort) =
    check task proof (record effort { workers = workers })
with_workers workers (verify task proof others) = verify task proof workers
with_workers workers (replay task input turns) = replay task input turns
with_workers workers (print task copy) = print task copy
with_workers workers (suggest task effort) =
    suggest task (record effort { workers = workers })
with_workers workers (gen seed size effort) =
    gen seed size (record effort { workers = workers })
with_workers workers (explain task input turns) = explain task input turns
with_workers workers (batch list cache effort) =
    batch list cache (record effort { workers = workers })
with_workers workers (trim task proof out) = trim task proof out
with_workers workers (about what) = about what

-- what is asked for, where the accepting answers of another number of tasks are kept
abbrev pub with_cache : ℕ → Asked → Asked
with_cache cache (check task proof effort) = check task proof effort
with_cache cache (verify task proof workers) = verify task proof workers
with_cache cache (replay task input turns) = replay task input turns
with_cache cache (print task copy) = print task copy
with_cache cache (suggest task effort) = suggest task effort
with_cache cache (gen seed size effort) = gen seed size effort
with_cache cache (explain task input turns) = explain task input turns
with_cache cache (batch list others effort) = batch list cache effort
with_cache cache (trim task proof out) = trim task proof out
with_cache cache (about what) = about what

-- nothing beyond the stated search is asked for: neither `--deeper` nor `--why`, nor a limit of time;
-- nor is `trim`, whose second count of lines is free
abbrev pub IsPlain : Asked → Type 0
IsPlain (check task proof effort) =
    (effort.deeper ≡ false) × (effort.why ≡ false) × (effort.seconds ≡ None)
IsPlain (verify task proof workers) = Unit {0}
IsPlain (replay task input turns) = Unit {0}
IsPlain (print task copy) = Unit {0}
IsPlain (suggest task effort) = effort.seconds ≡ None
IsPlain (gen seed size effort) = effort.seconds ≡ None
IsPlain (explain task input turns) = Unit {0}
IsPlain (batch list cache effort) = Unit {0}
IsPlain (trim task proof out) = ⊥
IsPlain (about what) = Unit {0}

-- the words ask for nothing beyond the stated search
abbrev pub AskPlainly : Words → Type 0
AskPlainly words = (ask : Asked) → asked words ≡ Some ask → IsPlain ask

-- the words are the same, or they ask for the same with another number of workers, or of tasks whose
-- answers are kept
abbrev pub AskAlike : Words → Words → Type 0
AskAlike words others =
    (others ≡ words) ⊎ ((ask : Asked) × (workers cache : ℕ) × (asked words ≡ Some ask)
    × (asked others ≡ Some (with_cache cache (with_workers workers ask))))

-- two answers to words that ask alike and told files, each without a fault to read or to write, are
-- equal, where the words ask for nothing beyond the stated search, neither `--deeper`, `--why` nor
-- `--seconds`, and not for `trim`: a number of workers, or of tasks whose answers are kept, changes
-- no byte
abbrev pub OneAnswer : Type 0
OneAnswer =
    (words others : Words) (files : Files) (before now earlier later : ℕ)
    (status other : Status) (text line : List ℕ) → AskPlainly words → AskAlike words others
    → AreTold files
    → (¬ Rose before now) → status ≢ WriteFault → IsAnswerTo words files before now status text
    → (¬ Rose earlier later) → other ≢ WriteFault → IsAnswerTo others files earlier later other line
    → (status ≡ other) × (text ≡ line)
