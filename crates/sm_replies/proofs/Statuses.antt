-- Which statuses the answers to what a command asks for have.
use Rattle.sm_replies.proofs.Imports.{◌≡◌, inl, inr, ℕ, List, Option, Some, None, Known, Verdict, Parts, ShowsFrom, RunsOut, AnswersSuggest, SaysSuggestion, Suggests, Store, Effort, Status, Accepted, Conflict, Unknown, Refused, WritesNothing, of_accepted, of_refused, of_unknown, same_as, IsToCommand, without_task}
use Rattle.sm_replay.specs.declared.verdict.Verdict.TheVariants as verdict

-- an input that is shown is a conflict
pub shown_status : (t : Parts) (j : ℕ) (s : Store) (v : Verdict) (status : Status) (text : List ℕ) → ShowsFrom t j s v status text
    → status ≡ Conflict
shown_status t j s verdict.Holds status text h = absurd h
shown_status t j s verdict.Unmet status text h = absurd h
shown_status t j s (verdict.Violates x i clause) status text h = h.2.ended

-- an answer that the time is over writes nothing
pub over_status : (effort : Effort) (status : Status) (text : List ℕ) → RunsOut effort status text → WritesNothing status
over_status effort status text r = same_as status Unknown r.says.ended of_unknown

-- the status of what is suggested
suggested_status : (t : Parts) (effort : Effort) (status : Status) (text : List ℕ) → AnswersSuggest t effort status text
    → WritesNothing status
suggested_status t effort status text (inl h) = same_as status Refused h.1.ended of_refused
suggested_status t effort status text (inr (inr r)) = over_status effort status text r
suggested_status t effort status text (inr (inl h)) = go h.1 h.2
  where
    go : (found : Option ℕ) → SaysSuggestion t effort found status text → WritesNothing status
    go None s = same_as status Unknown s.1.ended of_unknown
    go (Some k) s = same_as status Accepted s.1.ended of_accepted

pub suggest_to_command : (file : Known) (effort : Effort) (before now : ℕ) (status : Status) (text : List ℕ)
    → Suggests file effort before now status text → IsToCommand before now status
suggest_to_command file effort before now status text (inl f) = (without_task file before now status text f).to_command
suggest_to_command file effort before now status text (inr c) =
    record { of_command = suggested_status c.task effort status text c.answers; quiet = λ h. c.gives.read.quiet }
