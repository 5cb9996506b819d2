-- What answers of `explain` are made of.
use Rattle.sm_display.proofs.Imports.{◌≡◌, ◌++◌, inr, ℕ, List, Result, Ok, Err, IfOk, IfErr, subst, Known, ReplayError, Verdict, Store, Parts, AreStartLines, GivesTask, Status, verdict_status, AnswersReplay, without_task, ExplainsInput, ExplainsNoTask, ExplainsReplay, ExplainsRun, start_heading, ShowsRun}
use Rattle.sm_io.specs.Reads.{Read}
use Rattle.sm_replay.specs.declared.verdict.Verdict.TheVariants as verdict
use Rattle.sm_answers.specs.Exit.{ExitsWith}
use Rattle.sm_answers.specs.declared.exit.Exit.{Exit}
use Rattle.sm_answers.specs.Readings.{ReplaysRead}
use Rattle.sm_answers.specs.declared.status.Reply.{Reply}
use Rattle.sm_answers.proofs.Answering.{result_by, stops_by}
use Rattle.sm_display.specs.Views.{ShowsBy}
use Rattle.sm_display.proofs.Begins.{begins_refused}

-- what is shown by the status is shown by the verdict
shows_run : (t : Parts) (s : Store) (turns : ℕ) (v : Result Verdict ReplayError) (status : Status) (text : List ℕ)
    → status ≡ verdict_status v → ShowsBy t s turns status text → ShowsRun t s turns v text
shows_run t s turns (Ok verdict.Holds) status text is h = subst (λ (w : Status). ShowsBy t s turns w text) is h
shows_run t s turns (Ok verdict.Unmet) status text is h = subst (λ (w : Status). ShowsBy t s turns w text) is h
shows_run t s turns (Ok (verdict.Violates x i clause)) status text is h = subst (λ (w : Status). ShowsBy t s turns w text) is h
shows_run t s turns (Err e) status text is h = subst (λ (w : Status). ShowsBy t s turns w text) is h

pub explains_replay : (t : Parts) (s : Store) (turns : ℕ) (status : Status) (line start ends text : List ℕ)
    → AnswersReplay t s turns status line → AreStartLines t.names t.declared s start → ShowsBy t s turns status ends
    → text ≡ line ++ (start_heading ++ (start ++ ends)) → ExplainsReplay t s turns status text
explains_replay t s turns status line start ends text answers starts shows printed = record {
  line = line;
  answers = answers;
  start = start;
  starts = starts;
  ends = ends;
  shows = shows_run t s turns answers.verdict status ends answers.says.ended shows;
  printed = printed;
}

-- a task that the first file gives, with what is answered to it and the other file
explains_task : (file input other : Known) (turns before between now : ℕ) (t : Parts) → GivesTask file before between t → other ≡ input
    → (status : Status) (text : List ℕ) → ExplainsInput t other turns between now status text
    → ExplainsRun file input turns before now status text
explains_task file input other turns before between now t gives same status text a =
    inr (record { task = t; between = between; gives = gives; answers = rw (← same) a })

pub explained_by : (file input other : Known) (turns before between now : ℕ) (t : Parts) → GivesTask file before between t
    → other ≡ input → (r : Result Reply Exit) → IfOk r (λ (p : Reply). ExplainsInput t other turns between now p.status p.text.items)
    → IfErr r (ExitsWith (ExplainsInput t other turns between now)) →
    IfOk r (λ (p : Reply). ExplainsRun file input turns before now p.status p.text.items) × IfErr r
    (ExitsWith (ExplainsRun file input turns before now))
explained_by file input other turns before between now t gives same r ok stop =
    result_by (ExplainsInput t other turns between now) (ExplainsRun file input turns before now)
    (explains_task file input other turns before between now t gives same) r ok stop

-- no task was given, so nothing is Conflict
pub none_explained : (name input : List ℕ) (turns : ℕ) (before now : List Read) (file : Known) (b n : ℕ) (stop : Exit) →
    ExitsWith (ExplainsNoTask file b n) stop → ExitsWith (ReplaysRead name input turns before now) stop
none_explained name input turns before now file b n stop =
    stops_by (ExplainsNoTask file b n) (ReplaysRead name input turns before now)
    (λ status text none e.
    let f = begins_refused file b n status text none in absurd ((without_task file b n status f.0 f.2).not_conflict e)) stop

-- ---- texts

-- equal texts, joined
pub joined_alike : (line start ends a b c text : List ℕ) → a ≡ line → b ≡ start → c ≡ ends
    → text ≡ a ++ (start_heading ++ (b ++ c)) → text ≡ line ++ (start_heading ++ (start ++ ends))
joined_alike line start ends a b c text p q r e = rw (← p, ← q, ← r) e
