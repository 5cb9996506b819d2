-- What the answers of `replay` say: of a task's file and an input's, of the bytes that were read, and of violations.
use Rattle.sm_answers.proofs.Imports.{◌≡◌, ◌≢◌, inl, inr, ℕ, List, Result, Ok, Err, IfOk, IfErr, sym, ◌∙◌, meaning, Known, Read, ReplayError, Store, Parts, task_of, ExitsWith, Exit, GivesNoTask, GivesTask, Conflict, ReadsInput, ReadsTask, ReplaysRead, RunsRead, verdict_status, AnswersReplay, GivesNoInput, Replays, ReplaysInput, Reply}
use Rattle.sm_eval.specs.declared.store.Store as code
use Rattle.sm_replay.specs.Verdicts.{cell_of, Judges}
use Rattle.sm_replay.specs.Violations.{Violates}
use Rattle.sm_replay.specs.declared.verdict.Verdict.{Verdict}
use Rattle.sm_replay.specs.declared.verdict.Verdict.TheVariants as verdict
use Rattle.sm_replay.proofs.VerdictSound.{breaks_violates}
use Rattle.sm_answers.specs.File.{Status}
use Rattle.sm_answers.proofs.Answering.{result_by, stops_by}
use Rattle.sm_answers.proofs.Statuses.{without_task}

-- an input that is refused shows no conflict
pub no_input_no_conflict : (t : Parts) (file : Known) (before now : ℕ) (status : Status) (text : List ℕ)
    → GivesNoInput t file before now status text → status ≢ Conflict
no_input_no_conflict t file before now status text (inl (inl f)) e = let is = f.says.ended in cc
no_input_no_conflict t file before now status text (inl (inr f)) e = let is = f.says.ended in cc
no_input_no_conflict t file before now status text (inr f) e = let is = f.refuses.says.ended in cc

-- a verdict that is a conflict is that of a store from which the task is violated
pub judged_violates : (t : Parts) (s : Store) (turns : ℕ) (r : Result Verdict ReplayError) → Judges (task_of t) s turns r
    → verdict_status r ≡ Conflict → Violates (task_of t) s turns
judged_violates t s turns (Ok verdict.Holds) j e = cc
judged_violates t s turns (Ok verdict.Unmet) j e = cc
judged_violates t s turns (Ok (verdict.Violates x i part)) j e = breaks_violates (task_of t) s turns (cell_of x.0 i) part j
judged_violates t s turns (Err x) j e = cc

-- a task that the first file gives, with what is answered to it and the other file
replays_task : (file input other : Known) (turns before between now : ℕ) (t : Parts) → GivesTask file before between t → other ≡ input
    → (status : Status) (text : List ℕ) → ReplaysInput t other turns between now status text
    → Replays file input turns before now status text
replays_task file input other turns before between now t gives same status text a =
    inr (record { task = t; between = between; gives = gives; answers = rw (← same) a })

pub replayed_by : (file input other : Known) (turns before between now : ℕ) (t : Parts) → GivesTask file before between t
    → other ≡ input → (r : Result Reply Exit) → IfOk r (λ (p : Reply). ReplaysInput t other turns between now p.status p.text.items)
    → IfErr r (ExitsWith (ReplaysInput t other turns between now)) →
    IfOk r (λ (p : Reply). Replays file input turns before now p.status p.text.items) × IfErr r
    (ExitsWith (Replays file input turns before now))
replayed_by file input other turns before between now t gives same r ok stop =
    result_by (ReplaysInput t other turns between now) (Replays file input turns before now)
    (replays_task file input other turns before between now t gives same) r ok stop

-- no task was given
pub none_replayed : (name input : List ℕ) (turns : ℕ) (before now : List Read) (file : Known) (b n : ℕ) (stop : Exit) →
    ExitsWith (GivesNoTask file b n) stop → ExitsWith (ReplaysRead name input turns before now) stop
none_replayed name input turns before now file b n stop =
    stops_by (GivesNoTask file b n) (ReplaysRead name input turns before now)
    (λ status text none e. absurd ((without_task file b n status text none).not_conflict e)) stop

-- no input was
pub none_run : (t : Parts) (name : List ℕ) (turns : ℕ) (before now : List Read) (file : Known) (b n : ℕ) (stop : Exit) →
    ExitsWith (GivesNoInput t file b n) stop → ExitsWith (RunsRead t name turns before now) stop
none_run t name turns before now file b n stop =
    stops_by (GivesNoInput t file b n) (RunsRead t name turns before now)
    (λ status text none e. absurd (no_input_no_conflict t file b n status text none e)) stop

-- a task that was read, and then an input's file
pub replayed_read : (name input : List ℕ) (turns : ℕ) (before between now : List Read) (t : Parts) → ReadsTask name before between t →
    (r : Result Reply Exit) → IfOk r (λ (p : Reply). RunsRead t input turns between now p.status p.text.items) →
    IfErr r (ExitsWith (RunsRead t input turns between now)) →
    IfOk r (λ (p : Reply). ReplaysRead name input turns before now p.status p.text.items) × IfErr r
    (ExitsWith (ReplaysRead name input turns before now))
replayed_read name input turns before between now t reads r ok stop =
    result_by (RunsRead t input turns between now) (ReplaysRead name input turns before now)
    (λ status text runs e. (t, between, reads, runs e)) r ok stop

-- an input that was read, and what the programs do from it
pub run_read : (t : Parts) (name : List ℕ) (turns : ℕ) (before now : List Read) (s : code.Store) (status : Status) (text : List ℕ) →
    ReadsInput t name before now s → AnswersReplay t (meaning s) turns status text → RunsRead t name turns before now status text
run_read t name turns before now s status text reads a e =
    record { store = s; input = reads; violates = judged_violates t (meaning s) turns a.verdict a.judged (sym a.says.ended ∙ e) }
