-- What is known of a batch on its way. No public clause cites it.
use Rattle.std.specs.Prelude.{◌≡◌, ◌≢◌, ◌↔◌, ◌==◌, ℕ, true, if◌then◌else◌, List, [], ◌∷◌, Option, Some, None, IfSome, IsSome, map, Vec, ◌++◌}
use Rattle.std.specs.List.{AllZip}
use Rattle.std.specs.declared.alloc.Global.{Global}
use Rattle.sm_batch.specs.declared.worker.Answered.{Answered}
use Rattle.sm_houdini.specs.Outcomes as outcome
use Rattle.sm_houdini.specs.Outcomes.{IsOutcome}
use Rattle.sm_io.specs.Files.{Known}
use Rattle.sm_io.specs.Reads.{Read}
use Rattle.sm_syntax.specs.text.Parts.{Parts}
use Rattle.sm_syntax.specs.text.Spells.{Spells}
use Rattle.sm_text.specs.printing.Named.{HasText}
use Rattle.sm_text.specs.Tasks.{parts_of}
use Rattle.sm_text.specs.declared.task.Task.{Task}
use Rattle.sm_answers.specs.File.{GivesTask, GivesNoTask}
use Rattle.sm_answers.specs.declared.status.Status.{Status}
use Rattle.sm_answers.specs.declared.status.Status.TheVariants.{Accepted, Conflict, Unknown, Refused, ReadFault}
use Rattle.sm_replies.specs.Batch.{Line, IsLineOf, first_line}
use Rattle.sm_replies.specs.Check.{reach_of, AnswersCheck}
use Rattle.sm_answers.specs.Merges.{IsSafeMerge}
use Rattle.sm_answers.specs.ReadFiles.{ReadsAmong}
use Rattle.sm_replies.specs.Taken.{is_taken}
use Rattle.sm_words.specs.declared.effort.Effort.{Effort}
use Rattle.sm_answers.specs.declared.status.Reply.{Reply}

-- the effort with one worker
abbrev pub alone : Effort → Effort
alone effort = record effort { workers = 1 }

-- the reply to a task is the first line of what is answered to it
abbrev pub RepliesTo : Effort → Parts → List ℕ → Type 0
RepliesTo effort t reply = (status : Status) × (text : List ℕ)
    × AnswersCheck t effort status text × (reply ≡ first_line text)

-- this is the one reply to a task
abbrev pub IsTheReply : Effort → Parts → List ℕ → Type 0
IsTheReply effort t reply =
    RepliesTo effort t reply × ((other : List ℕ) → RepliesTo effort t other → other ≡ reply)

-- the search of a task accepts it
abbrev pub IsAcceptedBy : Effort → Parts → Type 0
IsAcceptedBy effort t = IsOutcome t (reach_of effort) effort.turns outcome.Accepted

-- an answer to a task: its reply, and a certificate that passes exactly where it is accepted
pub record IsAnswered (effort : Effort) (t : Parts) (a : Answered) : Type 0 where
  pub reply : IsTheReply effort t a.reply.items
  pub accepts : IsSome a.cert ↔ IsAcceptedBy effort t
  pub taken : IfSome a.cert (λ c. is_taken t c.items ≡ true)

-- the status that a reply tells by its first byte: A, C or U
abbrev pub told_status : List ℕ → Status
told_status [] = Refused
told_status (byte ∷ rest) =
    if byte == 65 then Accepted else
    (if byte == 67 then Conflict else (if byte == 85 then Unknown else Refused))

-- a reply as a line with its status
abbrev pub line_in : Reply → Line
line_in r = (r.status, r.text.items)

-- replies as lines
abbrev pub lines_of : List Reply → List Line
lines_of rs = map line_in rs

-- the statuses and the texts of lines
abbrev pub statuses : List Line → List Status
statuses lines = map (λ (l : Line). l.0) lines

abbrev pub texts : List Line → List (List ℕ)
texts lines = map (λ (l : Line). l.1) lines

-- the line of a file by what it gave, and the replies that are left: of a task the first of them
abbrev pub next_line : Option Reply → List (Vec ℕ Global) → Line × List (Vec ℕ Global)
next_line (Some r) replies = ((r.status, first_line r.text.items), replies)
next_line None [] = ((Refused, []), [])
next_line None (reply ∷ replies) = ((told_status reply.items, reply.items), replies)

-- the lines of files by what they gave, and by the replies to their tasks in order
abbrev pub told : List (Option Reply) → List (Vec ℕ Global) → List Line
told [] replies = []
told (slot ∷ slots) replies =
    (next_line slot replies).0 ∷ told slots (next_line slot replies).1

module _ (files : List ℕ → Known) (count : ℕ) (before now : List Read) where
  -- a file gave a task, and its bytes were read
  pub record IsGiven (name : List ℕ) (t : Task) : Type 0 where
    pub gives : GivesTask (files name) count count (parts_of t)
    pub read : ReadsAmong name before now (λ (bytes : List ℕ). Spells bytes (parts_of t))

  -- it gave none, though it could be read
  pub record IsNone (name : List ℕ) (r : Reply) : Type 0 where
    pub none : GivesNoTask (files name) count count r.status r.text.items
    pub able : r.status ≢ ReadFault

  -- what files gave, in order: a task each, or a reply that there is none
  abbrev pub AreGiven : List (List ℕ) → List (Option Reply) → List Task → Type 0
  AreGiven [] [] [] = Unit {0}
  AreGiven [] [] (t ∷ ts) = ⊥
  AreGiven [] (slot ∷ slots) ts = ⊥
  AreGiven (name ∷ names) [] ts = ⊥
  AreGiven (name ∷ names) (Some r ∷ slots) ts = IsNone name r × AreGiven names slots ts
  AreGiven (name ∷ names) (None ∷ slots) [] = ⊥
  AreGiven (name ∷ names) (None ∷ slots) (t ∷ ts) = IsGiven name t × AreGiven names slots ts

  -- one more file gave a task, which comes behind those before, or gave none
  abbrev pub GivesNext : List ℕ → List Task → List Task → Option Reply → Type 0
  GivesNext name old new None = (t : Task) × (new ≡ old ++ t ∷ []) × IsGiven name t
      × HasText (parts_of t)
  GivesNext name old new (Some r) = (new ≡ old) × IsNone name r

  -- the line of a file: where it's Accepted, the file was read, and its task is free of conflicts
  pub record IsLineRead (effort : Effort) (name : List ℕ) (line : Line) : Type 0 where
    pub is : IsLineOf (files name) effort count line
    pub read : line.0 ≡ Accepted → ReadsAmong name before now IsSafeMerge

  -- so it is of each
  abbrev pub AreLinesRead : Effort → List (List ℕ) → List Line → Type 0
  AreLinesRead effort names lines = AllZip (IsLineRead effort) names lines
