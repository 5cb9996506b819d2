-- What Conflict says: the task isn't free of conflicts, and the input that is printed or was given shows it.
use Rattle.sm_commands.proofs.Imports.{◌≡◌, ◌≢◌, inl, inr, ℕ, true, false, ◌++◌, List, [], Option, Some, None, refl, ap, sym, subst, ◌∙◌, Known, WhereHeld, Verdict, Parts, sort_of, task_of, meaning, ConflictFree, Store, Spells, EndsWithInput, ShowsInput, IsShownByInput, IsUnsafeMerge, IsViolatedFrom, Outcome, IsOutcome, Files, IsAnswerTo, AnswersCommand, Checks, Prints, begins_refused, begins_replayed, Verifies, AnswersProof, reach_of, IsInputText, SaysOutcome, ShowsFrom, input_line, trial_line, AnswersDeeper, AnswersTask, AnswersSuggest, SaysSuggestion, Suggests, CopyName, GivesTask, Status, Conflict, Words, Asked, check, verify, replay, print, suggest, gen, explain, batch, trim, about, asked, task_file, Effort, violation_conflicts, trim_to_command, answered_no_conflict, without_task}
use Rattle.std.proofs.lemmas.List.{append-nil, append_assoc}
use Rattle.sm_replay.specs.Trials.{trial}
use Rattle.sm_replay.specs.declared.verdict.Verdict.TheVariants as verdict
use Rattle.sm_solve.specs.declared.reach.Reach.{Reach}
use Rattle.sm_eval.specs.declared.store.Store as code
use Rattle.sm_replay.specs.Input.{IsInput}
use Rattle.sm_replay.specs.Violations.{Violates}
use Rattle.sm_houdini.specs.Outcomes as outcome
use Rattle.sm_houdini.proofs.OutcomeLemmas.{conflict_least}
use Rattle.sm_display.specs.Explain.{Explains, ExplainsFile}
use Rattle.sm_answers.specs.Replay.{GivesInput, Replays, ReplaysInput}
use Rattle.sm_answers.proofs.Replayed.{judged_violates, no_input_no_conflict}
use Rattle.sm_commands.proofs.Answering.{same_file, no_file}

-- no proof file shows a conflict
proof_no_conflict : (t : Parts) (file : Known) (before now : ℕ) (status : Status) (text : List ℕ)
    → AnswersProof t file before now status text → status ≢ Conflict
proof_no_conflict t file before now status text (inl f) e = let is = f.says.ended in cc
proof_no_conflict t file before now status text (inr c) e = answered_no_conflict c.answer (sym c.says.ended ∙ e)

-- what a line with the status Conflict says: a store from which the task is violated, with its input
record IsLine (t : Parts) (turns : ℕ) (text : List ℕ) : Type 0 where
  pub store : Store
  pub violates : Violates (task_of t) store turns
  pub front : List ℕ
  pub input : List ℕ
  pub shown : IsInputText t store input
  pub printed : text ≡ front ++ input_line input

-- what an answer to a task with the status Conflict says
pub record IsShown (t : Parts) (effort : Effort) (text : List ℕ) : Type 0 where
  pub store : Store
  pub violates : Violates (task_of t) store effort.turns
  pub input : List ℕ
  pub shown : IsInputText t store input
  pub printed : EndsWithInput effort input text

-- with more behind it, where that is asked for
shown_with : (t : Parts) (effort : Effort) (line more text : List ℕ) → (effort.why ≡ false → more ≡ []) → text ≡ line ++ more
    → IsLine t effort.turns line → IsShown t effort text
shown_with t effort line more text asked printed l = record {
  store = l.store;
  violates = l.violates;
  input = l.input;
  shown = l.shown;
  printed = (
    l.front,
    more,
    printed ∙ ap (λ (xs : List ℕ). xs ++ more) l.printed ∙ append_assoc l.front (input_line l.input) more,
    asked,
  );
}

shown_from : (t : Parts) (turns j : ℕ) (s : Store) (v : Verdict) (status : Status) (text : List ℕ) → Violates (task_of t) s turns
    → ShowsFrom t j s v status text → IsLine t turns text
shown_from t turns j s verdict.Holds status text violates h = absurd h
shown_from t turns j s verdict.Unmet status text violates h = absurd h
shown_from t turns j s (verdict.Violates x i clause) status text violates h = record {
  store = s;
  violates = violates;
  front = trial_line t.names j x i clause;
  input = h.0;
  shown = h.1;
  printed = h.2.printed;
}

outcome_conflict : (t : Parts) (reach : Reach) (turns : ℕ) (o : Outcome (ℕ × Verdict)) (status : Status) (text : List ℕ)
    → IsOutcome t reach turns o → SaysOutcome t o status text → status ≡ Conflict → IsLine t turns text
outcome_conflict t reach turns outcome.Accepted status text is h e = let s = h.1.2.ended in cc
outcome_conflict t reach turns (outcome.Conflict f) status text is h e =
    shown_from t turns f.0 (trial (sort_of t.declared) f.0) f.1 status text (conflict_least t reach turns f is).violates h
outcome_conflict t reach turns (outcome.Open node goal) status text is h e = let s = h.2.ended in cc
outcome_conflict t reach turns (outcome.Steps node goal) status text is h e = let s = h.2.ended in cc
outcome_conflict t reach turns (outcome.Coefficient node goal op y z) status text is h e = let s = h.2.ended in cc
outcome_conflict t reach turns outcome.TooMany status text is h e = let s = h.2.ended in cc

deeper_conflict : (t : Parts) (effort : Effort) (status : Status) (text : List ℕ)
    → AnswersDeeper t effort status text → status ≡ Conflict → IsLine t effort.turns text
deeper_conflict t effort status text (inl a) e =
    outcome_conflict t (reach_of effort) effort.turns a.outcome status text a.found a.says e
deeper_conflict t effort status text (inr (inl a)) e =
    shown_from t effort.turns a.number (meaning a.store) a.verdict status text a.violates a.shows
deeper_conflict t effort status text (inr (inr a)) e = let s = a.says.2.ended in cc

pub checked_conflict : (t : Parts) (effort : Effort) (status : Status) (text : List ℕ)
    → AnswersTask t effort status text → status ≡ Conflict → IsShown t effort text
checked_conflict t effort status text (inl (inr r)) e = let s = r.says.ended in cc
checked_conflict t effort status text (inl (inl (inl a))) e =
    shown_with t effort text [] text (λ (plain : effort.why ≡ false). refl) (sym (append-nil text))
    (deeper_conflict t effort status text a.1 e)
checked_conflict t effort status text (inl (inl (inr w))) e =
    shown_with t effort w.line w.more text
    (λ (plain : effort.why ≡ false). absurd (let both : true ≡ false = sym w.asked ∙ plain in cc)) w.printed
    (deeper_conflict t effort status w.line w.answers e)
checked_conflict t effort status text (inr a) e = let s = a.says.ended in cc

-- such a task isn't free of conflicts
pub shown_conflict : (t : Parts) (effort : Effort) (text : List ℕ) → IsShown t effort text → ¬ ConflictFree (task_of t)
shown_conflict t effort text s = violation_conflicts (task_of t) s.store effort.turns s.violates

-- Conflict of `replay` comes where the input's file gives a store from which the task is violated
record IsReplayed (t : Parts) (file : Known) (turns between now : ℕ) : Type 0 where
  pub store : code.Store
  pub gives : GivesInput t file between now store
  pub violates : Violates (task_of t) (meaning store) turns

replayed_violates : (t : Parts) (file : Known) (turns before now : ℕ) (status : Status) (text : List ℕ)
    → ReplaysInput t file turns before now status text → status ≡ Conflict → IsReplayed t file turns before now
replayed_violates t file turns before now status text (inl f) e = absurd (no_input_no_conflict t file before now status text f e)
replayed_violates t file turns before now status text (inr c) e = record {
  store = c.store;
  gives = c.gives;
  violates = judged_violates t (meaning c.store) turns c.answers.verdict c.answers.judged (sym c.answers.says.ended ∙ e);
}

-- such a task isn't free of conflicts
replayed_conflict : (t : Parts) (file : Known) (turns before now : ℕ) (status : Status) (text : List ℕ)
    → ReplaysInput t file turns before now status text → status ≡ Conflict → ¬ ConflictFree (task_of t)
replayed_conflict t file turns before now status text a e =
    let is = replayed_violates t file turns before now status text a e in
    violation_conflicts (task_of t) (meaning is.store) turns is.violates

-- the task of the bytes that are told
unsafe_where : (file : Known) (before now : ℕ) (t : Parts) → GivesTask file before now t → ¬ ConflictFree (task_of t)
    → WhereHeld file IsUnsafeMerge
unsafe_where file before now t gives conflict bytes told =
    (t, subst (λ (b : List ℕ). Spells b t) (sym (gives.read.held bytes told)) gives.spells, conflict)

check_conflicts : (file : Known) (effort : Effort) (before now : ℕ) (status : Status) (text : List ℕ)
    → Checks file effort before now status text → status ≡ Conflict → WhereHeld file IsUnsafeMerge
check_conflicts file effort before now status text (inl f) e = absurd ((without_task file before now status text f).not_conflict e)
check_conflicts file effort before now status text (inr c) e =
    unsafe_where file before now c.task c.gives
    (shown_conflict c.task effort text (checked_conflict c.task effort status text c.answers e))

pub verify_no_conflict : (file proof : Known) (before now : ℕ) (status : Status) (text : List ℕ)
    → Verifies file proof before now status text → status ≢ Conflict
verify_no_conflict file proof before now status text (inl f) e = (without_task file before now status text f).not_conflict e
verify_no_conflict file proof before now status text (inr c) e = proof_no_conflict c.task proof c.between now status text c.answers e

replay_conflicts : (file input : Known) (turns before now : ℕ) (status : Status) (text : List ℕ)
    → Replays file input turns before now status text → status ≡ Conflict → WhereHeld file IsUnsafeMerge
replay_conflicts file input turns before now status text (inl f) e = absurd ((without_task file before now status text f).not_conflict e)
replay_conflicts file input turns before now status text (inr c) e =
    unsafe_where file before c.between c.task c.gives (replayed_conflict c.task input turns c.between now status text c.answers e)

-- without an input `explain` answers none
pub explain_no_conflict : (file : Known) (before now : ℕ) (status : Status) (text : List ℕ)
    → ExplainsFile file before now status text → status ≢ Conflict
explain_no_conflict file before now status text (inl f) e =
    let b = begins_refused file before now status text f in
    (without_task file before now status b.0 b.2).not_conflict e
explain_no_conflict file before now status text (inr c) e = let is = c.says.ended in cc

-- Conflict of `explain` is for a task that isn't free of conflicts
explain_conflicts : (files : Files) (file : List ℕ) (input : Option (List ℕ)) (turns before now : ℕ) (status : Status) (text : List ℕ)
    → Explains files file input turns before now status text → status ≡ Conflict → WhereHeld (files file) IsUnsafeMerge
explain_conflicts files file None turns before now status text a e =
    absurd (explain_no_conflict (files file) before now status text a e)
explain_conflicts files file (Some input) turns before now status text a e =
    let b = begins_replayed (files file) (files input) turns before now status text a in
    replay_conflicts (files file) (files input) turns before now status b.0 b.2 e

pub print_no_conflict : (file : Known) (copy : Option CopyName) (before now : ℕ) (status : Status) (text : List ℕ)
    → Prints file copy before now status text → status ≢ Conflict
print_no_conflict file copy before now status text (inl f) e = (without_task file before now status text f).not_conflict e
print_no_conflict file copy before now status text (inr c) e = let is = c.says.ended in cc

-- nothing that is suggested is a conflict
pub suggested_no_conflict : (t : Parts) (effort : Effort) (status : Status) (text : List ℕ) → AnswersSuggest t effort status text
    → status ≢ Conflict
suggested_no_conflict t effort status text (inl h) e = let is = h.1.ended in cc
suggested_no_conflict t effort status text (inr (inr r)) e = let is = r.says.ended in cc
suggested_no_conflict t effort status text (inr (inl h)) e = go h.1 h.2
  where
    go : (found : Option ℕ) → SaysSuggestion t effort found status text → ⊥
    go None s = let is = s.1.ended in cc
    go (Some k) s = let is = s.1.ended in cc

pub suggest_no_conflict : (file : Known) (effort : Effort) (before now : ℕ) (status : Status) (text : List ℕ)
    → Suggests file effort before now status text → status ≢ Conflict
suggest_no_conflict file effort before now status text (inl f) e = (without_task file before now status text f).not_conflict e
suggest_no_conflict file effort before now status text (inr c) e = suggested_no_conflict c.task effort status text c.answers e

asked_conflicts : (ask : Asked) (files : Files) (before now : ℕ) (status : Status) (text : List ℕ)
    → AnswersCommand ask files before now status text → status ≡ Conflict → (task : List ℕ) → task_file ask ≡ Some task
    → WhereHeld (files task) IsUnsafeMerge
asked_conflicts (check file proof effort) files before now status text a e task is =
    subst (λ (f : List ℕ). WhereHeld (files f) IsUnsafeMerge) (same_file file task is)
    (check_conflicts (files file) effort before now status text a e)
asked_conflicts (verify file proof workers) files before now status text a e task is =
    absurd (verify_no_conflict (files file) (files proof) before now status text a e)
asked_conflicts (replay file input turns) files before now status text a e task is =
    subst (λ (f : List ℕ). WhereHeld (files f) IsUnsafeMerge) (same_file file task is)
    (replay_conflicts (files file) (files input) turns before now status text a e)
asked_conflicts (print file copy) files before now status text a e task is =
    absurd (print_no_conflict (files file) copy before now status text a e)
asked_conflicts (suggest file effort) files before now status text a e task is =
    absurd (suggest_no_conflict (files file) effort before now status text a e)
asked_conflicts (gen seed size effort) files before now status text a e task is = absurd (no_file task is)
asked_conflicts (explain file input turns) files before now status text a e task is =
    subst (λ (f : List ℕ). WhereHeld (files f) IsUnsafeMerge) (same_file file task is)
    (explain_conflicts files file input turns before now status text a e)
asked_conflicts (batch list cache effort) files before now status text a e task is = absurd (no_file task is)
asked_conflicts (trim file proof out) files before now status text a e task is =
    absurd ((trim_to_command (files file) (files proof) before now status text a).not_conflict e)
asked_conflicts (about what) files before now status text a e task is = absurd (no_file task is)

pub conflicts : (words : Words) (files : Files) (before now : ℕ) (status : Status) (text : List ℕ)
    → IsAnswerTo words files before now status text → status ≡ Conflict → (ask : Asked) (task : List ℕ) → asked words ≡ Some ask
    → task_file ask ≡ Some task → WhereHeld (files task) IsUnsafeMerge
conflicts words files before now status text answers e ask task asks =
    asked_conflicts ask files before now status text (rw asks at answers) e task

-- an input's text that gives a store is one from which the task violates, where it does from that store
violated_from : (file : Known) (before now : ℕ) (t : Parts) → GivesTask file before now t → (s : Store) (input : List ℕ) (turns : ℕ)
    → IsInputText t s input → Violates (task_of t) s turns → WhereHeld file (IsViolatedFrom input turns)
violated_from file before now t gives s input turns shown violates bytes told = (
  t,
  subst (λ (b : List ℕ). Spells b t) (sym (gives.read.held bytes told)) gives.spells,
  (shown.store, shown.reads, subst (λ (m : Store). Violates (task_of t) m turns) (sym shown.gives) violates),
)

-- Conflict of `check` shows an input
checked_shows : (file : Known) (effort : Effort) (before now : ℕ) (status : Status) (text : List ℕ)
    → Checks file effort before now status text → status ≡ Conflict → ShowsInput file effort text
checked_shows file effort before now status text (inl f) e = absurd ((without_task file before now status text f).not_conflict e)
checked_shows file effort before now status text (inr c) e =
    let s = checked_conflict c.task effort status text c.answers e in (
      s.input,
      s.printed,
      violated_from file before now c.task c.gives s.store s.input effort.turns s.shown s.violates,
    )

pub shows : (words : Words) (files : Files) (before now : ℕ) (status : Status) (text : List ℕ)
    → IsAnswerTo words files before now status text → status ≡ Conflict → (task proof : List ℕ) (effort : Effort)
    → asked words ≡ Some (check task proof effort) → ShowsInput (files task) effort text
shows words files before now status text answers e task proof effort asks =
    checked_shows (files task) effort before now status text (rw asks at answers) e

-- Conflict of `replay` is shown by the input that it was given
replayed_shows : (file input : Known) (turns before now : ℕ) (status : Status) (text : List ℕ)
    → Replays file input turns before now status text → status ≡ Conflict → IsShownByInput file input turns
replayed_shows file input turns before now status text (inl f) e = absurd ((without_task file before now status text f).not_conflict e)
replayed_shows file input turns before now status text (inr c) e = λ given given_told bytes told.
    let is = replayed_violates c.task input turns c.between now status text c.answers e in (
      c.task,
      subst (λ (b : List ℕ). Spells b c.task) (sym (c.gives.read.held bytes told)) c.gives.spells,
      (
        is.store,
        subst (λ (b : List ℕ). IsInput c.task.names (sort_of c.task.declared) b is.store)
            (sym (is.gives.read.held given given_told)) is.gives.gives,
        is.violates,
      ),
    )

pub replays_shown : (words : Words) (files : Files) (before now : ℕ) (status : Status) (text : List ℕ)
    → IsAnswerTo words files before now status text → status ≡ Conflict → (task input : List ℕ) (turns : ℕ)
    → asked words ≡ Some (replay task input turns) → IsShownByInput (files task) (files input) turns
replays_shown words files before now status text answers e task input turns asks =
    replayed_shows (files task) (files input) turns before now status text (rw asks at answers) e

-- Conflict of `explain` is shown by the input that it was given
pub explains_shown : (words : Words) (files : Files) (before now : ℕ) (status : Status) (text : List ℕ)
    → IsAnswerTo words files before now status text → status ≡ Conflict → (task input : List ℕ) (turns : ℕ)
    → asked words ≡ Some (explain task (Some input) turns) → IsShownByInput (files task) (files input) turns
explains_shown words files before now status text answers e task input turns asks =
    let b = begins_replayed (files task) (files input) turns before now status text (rw asks at answers) in
    replayed_shows (files task) (files input) turns before now status b.0 b.2 e
