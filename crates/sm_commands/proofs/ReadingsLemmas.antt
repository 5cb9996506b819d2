-- What Accepted and Conflict say of the bytes that were read.
use Rattle.sm_commands.proofs.Imports.{◌≡◌, inl, inr, ℕ, List, Some, None, sym, subst, ◌↔◌, meaning, Known, violation_conflicts, Store, Parts, task_of, ExitsWith, Exit, GivesNoTask, Status, Accepted, Conflict, IsUnsafeMerge, IsViolatedFrom, AcceptsSafeRead, accepted_suggestion, AnswersByReads, ChecksRead, ProposesRead, AnswersCommand, Files, IsAnswerTo, Words, Asked, verify, replay, print, suggest, gen, explain, batch, trim, about, asked, Effort, stops_by, trim_to_command, trims_read, without_task}
use Rattle.sm_io.specs.Reads.{Read}
use Rattle.sm_replay.specs.Violations.{Violates}
use Rattle.sm_commands.specs.HeadlineRead.{AcceptsRead, ConflictsRead, ReadsProved, ShowsReadInput, SuggestsRead}
use Rattle.sm_answers.specs.ReadFiles.{ReadsTwo}
use Rattle.sm_answers.specs.Readings.{ReadsTask, ReplaysRead, VerifiesRead}
use Rattle.sm_words.specs.Words.{check as to_check}
use Rattle.sm_commands.proofs.Answering.{accepted_is_free}
use Rattle.sm_commands.proofs.ConflictSound.{checked_conflict, explain_no_conflict, print_no_conflict, shown_conflict, suggest_no_conflict, verify_no_conflict}

-- a task that was read, after what was read is written otherwise
pub read_still : (name : List ℕ) (before now next : List Read) (t : Parts) → ReadsTask name before now t → next ≡ now →
    ReadsTask name before next t
read_still name before now next t reads same = subst (λ (rs : List Read). ReadsTask name before rs t) (sym same) reads

-- no task was given
pub none_checked : (name : List ℕ) (effort : Effort) (before now : List Read) (file : Known) (b n : ℕ) (stop : Exit) →
    ExitsWith (GivesNoTask file b n) stop → ExitsWith (ChecksRead name effort before now) stop
none_checked name effort before now file b n stop =
    stops_by (GivesNoTask file b n) (ChecksRead name effort before now)
    (λ status text none.
    let is = without_task file b n status text none in inl ((λ e. is.not_accepted e), (λ e. is.not_conflict e))) stop

-- Accepted by what was read
accepted_by : (ask : Asked) (before now : List Read) (status : Status) (text : List ℕ) → AnswersByReads (Some ask) before now status text →
    status ≡ Accepted → AcceptsRead ask before now
accepted_by (to_check task proof effort) before now status text (inl none) e = absurd (none.0 e)
accepted_by (to_check task proof effort) before now status text (inr c) e =
    (c.1.bytes, c.1.read, (c.0, c.1.spells, accepted_is_free c.0 effort status text c.2 e))
accepted_by (verify task proof workers) before now status text a e =
    let v = a.only e in (
      v.2.bytes,
      v.3.bytes,
      v.1,
      v.2.read,
      v.3.read,
      (
        (v.0, v.2.spells, v.4),
        record { parts = v.0; spells = v.2.spells; passes = v.3.passes; short = v.2.short; fits = v.3.fits },
      ),
    )
accepted_by (replay task input turns) before now status text a e = tt
accepted_by (print task copy) before now status text a e = tt
accepted_by (suggest task effort) before now status text a e = tt
accepted_by (gen seed size effort) before now status text a e = tt
accepted_by (explain task input turns) before now status text a e = tt
accepted_by (batch list cache effort) before now status text a e = tt
accepted_by (trim task proof out) before now status text a e = trims_read task proof before now status text a e
accepted_by (about what) before now status text a e = tt

pub accepts_read : (words : Words) (before now : List Read) (status : Status) (text : List ℕ) →
    AnswersByReads (asked words) before now status text → status ≡ Accepted → (ask : Asked) → asked words ≡ Some ask →
    AcceptsRead ask before now
accepts_read words before now status text a e ask asks = accepted_by ask before now status text (rw asks at a) e

-- Accepted of `verify` comes exactly where a task was read, and then a proof that passes for it
proved_by : (task proof : List ℕ) (before now : List Read) (status : Status) (text : List ℕ) →
    VerifiesRead task proof before now status text → (status ≡ Accepted) ↔ ReadsProved task proof before now
proved_by task proof before now status text a = (
  λ e.
      let v = a.only e in (
        v.2.bytes,
        v.3.bytes,
        v.1,
        v.2.read,
        v.3.read,
        record { parts = v.0; spells = v.2.spells; passes = v.3.passes; short = v.2.short; fits = v.3.fits },
      ),
  λ r.
      a.all r.5.parts r.2 (record { bytes = r.0; read = r.3; short = r.5.short; spells = r.5.spells })
      (record { bytes = r.1; read = r.4; fits = r.5.fits; passes = r.5.passes }),
)

pub proves_read : (words : Words) (before now : List Read) (status : Status) (text : List ℕ) →
    AnswersByReads (asked words) before now status text → (task proof : List ℕ) (workers : ℕ) →
    asked words ≡ Some (verify task proof workers) → (status ≡ Accepted) ↔ ReadsProved task proof before now
proves_read words before now status text a task proof workers asks =
    proved_by task proof before now status text (rw asks at a)

-- Conflict by what was read
replayed_by_reads : (task input : List ℕ) (turns : ℕ) (before now : List Read) (status : Status) (text : List ℕ) →
    ReplaysRead task input turns before now status text → status ≡ Conflict →
    ReadsTwo task input before now (λ (bytes given : List ℕ). IsUnsafeMerge bytes × IsViolatedFrom given turns bytes)
replayed_by_reads task input turns before now status text a e =
    let v = a e in (
      v.2.bytes,
      v.3.input.bytes,
      v.1,
      v.2.read,
      v.3.input.read,
      (
        (v.0, v.2.spells, violation_conflicts (task_of v.0) (meaning v.3.store) turns v.3.violates),
        (v.0, v.2.spells, (v.3.store, v.3.input.gives, v.3.violates)),
      ),
    )

conflict_by : (ask : Asked) (files : Files) (b n : ℕ) (before now : List Read) (status : Status) (text : List ℕ) →
    AnswersCommand ask files b n status text → AnswersByReads (Some ask) before now status text → status ≡ Conflict →
    ConflictsRead ask before now
conflict_by (to_check task proof effort) files b n before now status text answers (inl none) e = absurd (none.1 e)
conflict_by (to_check task proof effort) files b n before now status text answers (inr c) e =
    (c.1.bytes, c.1.read, (c.0, c.1.spells, shown_conflict c.0 effort text (checked_conflict c.0 effort status text c.2 e)))
conflict_by (verify task proof workers) files b n before now status text answers a e =
    verify_no_conflict (files task) (files proof) b n status text answers e
conflict_by (replay task input turns) files b n before now status text answers a e =
    replayed_by_reads task input turns before now status text a e
conflict_by (print task copy) files b n before now status text answers a e =
    print_no_conflict (files task) copy b n status text answers e
conflict_by (suggest task effort) files b n before now status text answers a e =
    suggest_no_conflict (files task) effort b n status text answers e
conflict_by (explain task None turns) files b n before now status text answers a e =
    explain_no_conflict (files task) b n status text answers e
conflict_by (explain task (Some input) turns) files b n before now status text answers a e =
    replayed_by_reads task input turns before now status text a e
conflict_by (batch list cache effort) files b n before now status text answers a e = tt
conflict_by (trim task proof out) files b n before now status text answers a e =
    (trim_to_command (files task) (files proof) b n status text answers).not_conflict e
conflict_by (about what) files b n before now status text answers a e = let is = answers.says.ended in cc
conflict_by (gen seed size effort) files b n before now status text answers a e = tt

pub conflicts_read : (words : Words) (files : Files) (b n : ℕ) (before now : List Read) (status : Status) (text : List ℕ) →
    IsAnswerTo words files b n status text → AnswersByReads (asked words) before now status text → status ≡ Conflict →
    (ask : Asked) → asked words ≡ Some ask → ConflictsRead ask before now
conflicts_read words files b n before now status text answers a e ask asks =
    conflict_by ask files b n before now status text (rw asks at answers) (rw asks at a) e

-- the input that `check` shows, shows a conflict of the task that was read
shown_by : (task : List ℕ) (effort : Effort) (before now : List Read) (status : Status) (text : List ℕ) →
    ChecksRead task effort before now status text → status ≡ Conflict → ShowsReadInput task before now effort text
shown_by task effort before now status text (inl none) e = absurd (none.1 e)
shown_by task effort before now status text (inr c) e =
    let s = checked_conflict c.0 effort status text c.2 e in (
      c.1.bytes,
      c.1.read,
      (
        s.input,
        s.printed,
        (
          c.0,
          c.1.spells,
          (s.shown.store, s.shown.reads, subst (λ (m : Store). Violates (task_of c.0) m effort.turns) (sym s.shown.gives) s.violates),
        ),
      ),
    )

pub shows_read : (words : Words) (before now : List Read) (status : Status) (text : List ℕ) →
    AnswersByReads (asked words) before now status text → status ≡ Conflict → (task proof : List ℕ) (effort : Effort) →
    asked words ≡ Some (to_check task proof effort) → ShowsReadInput task before now effort text
shows_read words before now status text a e task proof effort asks =
    shown_by task effort before now status text (rw asks at a) e

-- with the combination that `suggest` puts, the task that was read is free of conflicts
suggested_by : (task : List ℕ) (effort : Effort) (before now : List Read) (status : Status) (text : List ℕ) →
    ProposesRead task effort before now status text → status ≡ Accepted → SuggestsRead task before now text
suggested_by task effort before now status text (inl none) e = absurd (none.0 e)
suggested_by task effort before now status text (inr c) e =
    (c.1.bytes, c.1.read, accepted_suggestion c.0 effort status text c.1.bytes c.1.spells c.2 e)

pub suggests_read : (words : Words) (before now : List Read) (status : Status) (text : List ℕ) →
    AnswersByReads (asked words) before now status text → status ≡ Accepted → (task : List ℕ) (effort : Effort) →
    asked words ≡ Some (suggest task effort) → SuggestsRead task before now text
suggests_read words before now status text a e task effort asks =
    suggested_by task effort before now status text (rw asks at a) e

-- each file whose line of `batch` is Accepted was read, and its task is free of conflicts
pub batches_read : (words : Words) (before now : List Read) (status : Status) (text : List ℕ) →
    AnswersByReads (asked words) before now status text → (list : List ℕ) (cache : ℕ) (effort : Effort) →
    asked words ≡ Some (batch list cache effort) → AcceptsSafeRead list before now text
batches_read words before now status text a list cache effort asks = rw asks at a
