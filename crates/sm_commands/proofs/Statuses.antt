-- Which statuses the answers to what a command asks for have.
use Rattle.sm_commands.proofs.Imports.{◌≡◌, ◌≢◌, inl, inr, ℕ, List, Option, sym, subst, Known, Verdict, Parts, generated, Outcome, Checks, Generates, Tells, AnswersCheck, SaysOutcome, AnswersDeeper, AnswersGenInTime, AnswersTask, CopyName, Effort, Status, Accepted, Conflict, Unknown, ReadFault, WriteFault, IsOfCommand, WritesNothing, of_accepted, of_conflict, of_unknown, same_as, IsToCommand, without_task, Prints, shown_status, over_status}
use Rattle.sm_replay.specs.declared.verdict.Verdict.TheVariants as verdict
use Rattle.sm_houdini.specs.Outcomes as outcome
use Rattle.sm_words.specs.declared.about.About.{About}

of_write : IsOfCommand WriteFault
of_write = record { not_usage = λ e. cc; not_memory = λ e. cc; not_sink = λ e. cc }

-- the status of what a search comes to
outcome_status : (t : Parts) (o : Outcome (ℕ × Verdict)) (status : Status) (text : List ℕ) → SaysOutcome t o status text
    → WritesNothing status
outcome_status t outcome.Accepted status text h = same_as status Accepted h.1.2.ended of_accepted
outcome_status t (outcome.Conflict (j, verdict.Holds)) status text h = absurd h
outcome_status t (outcome.Conflict (j, verdict.Unmet)) status text h = absurd h
outcome_status t (outcome.Conflict (j, verdict.Violates x i clause)) status text h = same_as status Conflict h.2.ended of_conflict
outcome_status t (outcome.Open node goal) status text h = same_as status Unknown h.2.ended of_unknown
outcome_status t (outcome.Steps node goal) status text h = same_as status Unknown h.2.ended of_unknown
outcome_status t (outcome.Coefficient node goal op y z) status text h = same_as status Unknown h.2.ended of_unknown
outcome_status t outcome.TooMany status text h = same_as status Unknown h.2.ended of_unknown

-- an answer by a search writes nothing
pub checked_status : (t : Parts) (effort : Effort) (status : Status) (text : List ℕ) → AnswersCheck t effort status text
    → WritesNothing status
checked_status t effort status text a = outcome_status t a.outcome status text a.says

-- an answer of the search or beyond it isn't Usage, Memory or SinkFault
pub deeper_status : (t : Parts) (effort : Effort) (status : Status) (text : List ℕ) → AnswersDeeper t effort status text
    → IsOfCommand status
deeper_status t effort status text (inl a) = (checked_status t effort status text a).of_command
deeper_status t effort status text (inr (inl a)) =
    (same_as status Conflict (shown_status t a.number _ a.verdict status text a.shows) of_conflict).of_command
deeper_status t effort status text (inr (inr a)) = (same_as status Accepted a.says.2.ended of_accepted).of_command

-- what every answer to `check` says of its status
pub record IsToCheck (before now : ℕ) (status : Status) : Type 0 where
  pub of_command : IsOfCommand status
  pub quiet : status ≢ ReadFault → now ≡ before

pub check_to_command : (file : Known) (effort : Effort) (before now : ℕ) (status : Status) (text : List ℕ)
    → Checks file effort before now status text → IsToCheck before now status
check_to_command file effort before now status text (inl f) =
    let to = (without_task file before now status text f).to_command in
    record { of_command = to.of_command.of_command; quiet = to.quiet }
check_to_command file effort before now status text (inr c) = record { of_command = go c.answers; quiet = λ h. c.gives.read.quiet }
  where
    go : AnswersTask c.task effort status text → IsOfCommand status
    go (inl (inl (inl a))) = deeper_status c.task effort status text a.1
    go (inl (inl (inr w))) = deeper_status c.task effort status w.line w.answers
    go (inl (inr r)) = (over_status effort status text r).of_command
    go (inr a) = subst IsOfCommand (sym a.says.ended) of_write

pub gen_to_command : (seed size : ℕ) (effort : Effort) (before now : ℕ) (status : Status) (text : List ℕ)
    → Generates seed size effort before now status text → IsToCommand before now status
gen_to_command seed size effort before now status text g = record { of_command = go g.answers; quiet = λ h. g.quiet }
  where
    go : AnswersGenInTime seed size effort status text → WritesNothing status
    go (inl a) = checked_status (generated seed size) effort status a.answer a.answers
    go (inr r) = over_status effort status text r

pub print_to_command : (file : Known) (copy : Option CopyName) (before now : ℕ) (status : Status) (text : List ℕ)
    → Prints file copy before now status text → IsToCommand before now status
print_to_command file copy before now status text (inl f) = (without_task file before now status text f).to_command
print_to_command file copy before now status text (inr c) =
    record { of_command = same_as status Accepted c.says.ended of_accepted; quiet = λ h. c.gives.read.quiet }

pub about_to_command : (what : About) (before now : ℕ) (status : Status) (text : List ℕ) → Tells what before now status text
    → IsToCommand before now status
about_to_command what before now status text a =
    record { of_command = same_as status Accepted a.says.ended of_accepted; quiet = λ h. a.quiet }
