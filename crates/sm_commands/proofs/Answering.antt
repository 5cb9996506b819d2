-- What answers say: where Usage is one, and what Accepted promises.
use Rattle.sm_commands.proofs.Imports.{◌≡◌, ◌≢◌, inl, inr, ℕ, List, Option, Some, None, refl, sym, subst, ◌∙◌, Known, WhereHeld, ConflictFree, Parts, task_of, Spells, merge_file, IsSafeMerge, Files, IsAnswerTo, AnswersCommand, AnswersRequest, AsksToVerify, Checks, Verifies, rejected_line, AnswersProof, AnswersDeeper, AnswersTask, meaning, Says, Words, Asked, check, verify, replay, print, suggest, gen, explain, batch, trim, about, asked, IsUsage, Effort, Status, Accepted, Refused, Usage, ReadFault, Memory, SinkFault, IsOfCommand, IsToCommand, without_task, replay_to_command, verify_to_command, explain_to_command, shown_status, suggest_to_command, trim_accepts, trim_to_command, accepted_passes, fault_not_accepted}
use Rattle.sm_proof.specs.declared.word.Word.{Word}
use Rattle.sm_houdini.specs.Outcomes as outcome
use Rattle.sm_replay.specs.declared.verdict.Verdict.TheVariants as verdict
use Rattle.sm_words.proofs.Usage.{usage_asks_nothing}
use Rattle.sm_replies.proofs.BatchStatuses.{batch_to_command}
use Rattle.sm_commands.proofs.Statuses.{about_to_command, check_to_command, gen_to_command, print_to_command}
use Rattle.sm_replies.proofs.Answering.{outcome_accepted}

-- what is accepted beyond the search is free of conflicts, too
pub deeper_free : (t : Parts) (effort : Effort) (status : Status) (text : List ℕ) → AnswersDeeper t effort status text
    → status ≡ Accepted → ConflictFree (task_of t)
deeper_free t effort status text (inl a) e = (outcome_accepted t a.outcome status text a.says e).1
deeper_free t effort status text (inr (inl a)) e =
    let is = shown_status t a.number (meaning a.store) a.verdict status text a.shows in cc
deeper_free t effort status text (inr (inr a)) e = a.free

-- an accepted task is free of conflicts
pub accepted_is_free : (t : Parts) (effort : Effort) (status : Status) (text : List ℕ)
    → AnswersTask t effort status text → status ≡ Accepted → ConflictFree (task_of t)
accepted_is_free t effort status text (inl (inr r)) e = let is = r.says.ended in cc
accepted_is_free t effort status text (inl (inl (inl a))) e = deeper_free t effort status text a.1 e
accepted_is_free t effort status text (inl (inl (inr w))) e = deeper_free t effort status w.line w.answers e
accepted_is_free t effort status text (inr a) e = let is = a.says.ended in cc

-- the file that is asked of is one
pub same_file : (file task : List ℕ) → Some file ≡ Some task → file ≡ task
same_file file task e = cc

pub no_file : (task : List ℕ) → (let o : Option (List ℕ) = None in o) ≡ Some task → ⊥
no_file task e = cc

-- a task with a proof that is accepted is free of conflicts
proof_accepts : (t : Parts) (file : Known) (before now : ℕ) (status : Status) (text : List ℕ)
    → AnswersProof t file before now status text → status ≡ Accepted → ConflictFree (task_of t)
proof_accepts t file before now status text (inl f) e = absurd (fault_not_accepted status f.says.ended e)
proof_accepts t file before now status text (inr c) e = c.free (accepted_passes c.answer (sym c.says.ended ∙ e))

-- Accepted of `verify` is for a task that is free of conflicts
verify_accepts : (file proof : Known) (before now : ℕ) (status : Status) (text : List ℕ) → Verifies file proof before now status text
    → status ≡ Accepted → WhereHeld file IsSafeMerge
verify_accepts file proof before now status text (inl f) e bytes told =
    absurd ((without_task file before now status text f).not_accepted e)
verify_accepts file proof before now status text (inr c) e bytes told = (
  c.task,
  subst (λ (b : List ℕ). Spells b c.task) (sym (c.gives.read.held bytes told)) c.gives.spells,
  proof_accepts c.task proof c.between now status text c.answers e,
)

-- Accepted of `check` is for a task that is free of conflicts
check_accepts : (file : Known) (effort : Effort) (before now : ℕ) (status : Status) (text : List ℕ)
    → Checks file effort before now status text → status ≡ Accepted → WhereHeld file IsSafeMerge
check_accepts file effort before now status text (inl f) e bytes told =
    absurd ((without_task file before now status text f).not_accepted e)
check_accepts file effort before now status text (inr c) e bytes told = (
  c.task,
  subst (λ (b : List ℕ). Spells b c.task) (sym (c.gives.read.held bytes told)) c.gives.spells,
  accepted_is_free c.task effort status text c.answers e,
)

-- Accepted of `check`, `verify` and `trim` is for a task that is free of conflicts
asked_accepts : (ask : Asked) (files : Files) (before now : ℕ) (status : Status) (text : List ℕ)
    → AnswersCommand ask files before now status text → status ≡ Accepted →
    (task : List ℕ) → merge_file ask ≡ Some task → WhereHeld (files task) IsSafeMerge
asked_accepts (check file proof effort) files before now status text a e task is =
    subst (λ (f : List ℕ). WhereHeld (files f) IsSafeMerge) (same_file file task is)
    (check_accepts (files file) effort before now status text a e)
asked_accepts (verify file proof workers) files before now status text a e task is =
    subst (λ (f : List ℕ). WhereHeld (files f) IsSafeMerge) (same_file file task is)
    (verify_accepts (files file) (files proof) before now status text a e)
asked_accepts (replay file input turns) files before now status text a e task is = absurd (no_file task is)
asked_accepts (print file copy) files before now status text a e task is = absurd (no_file task is)
asked_accepts (suggest file effort) files before now status text a e task is = absurd (no_file task is)
asked_accepts (gen seed size effort) files before now status text a e task is = absurd (no_file task is)
asked_accepts (explain file input turns) files before now status text a e task is = absurd (no_file task is)
asked_accepts (batch list cache effort) files before now status text a e task is = absurd (no_file task is)
asked_accepts (trim file proof out) files before now status text a e task is =
    subst (λ (f : List ℕ). WhereHeld (files f) IsSafeMerge) (same_file file task is)
    (trim_accepts (files file) (files proof) before now status text a e)
asked_accepts (about what) files before now status text a e task is = absurd (no_file task is)

pub accepts : (words : Words) (files : Files) (before now : ℕ) (status : Status) (text : List ℕ)
    → IsAnswerTo words files before now status text → status ≡ Accepted →
    (ask : Asked) (task : List ℕ) → asked words ≡ Some ask → merge_file ask ≡ Some task → WhereHeld (files task) IsSafeMerge
accepts words files before now status text answers e ask task asks =
    asked_accepts ask files before now status text (rw asks at answers) e task

-- a bad line is named to words that ask for `verify`
pub record NamesLine (words : Words) (status : Status) (text : List ℕ) : Type 0 where
  pub to_verify : AsksToVerify words
  pub number : ℕ
  pub word : Word
  pub says : Says Refused (rejected_line number word) status text

-- Usage is answered exactly where no command takes the words, want of memory and a fault of the output aren't answers, and only a fault to
-- read raises the count, or a bad line that `verify` names
pub record IsSound (words : Words) (before now : ℕ) (status : Status) (text : List ℕ) : Type 0 where
  pub usage : status ≡ Usage → IsUsage words
  pub only : IsUsage words → status ≡ Usage
  pub not_memory : status ≢ Memory
  pub not_sink : status ≢ SinkFault
  pub quiet : status ≢ ReadFault → (NamesLine words status text → ⊥) → now ≡ before

pub sound : (words : Words) (files : Files) (before now : ℕ) (status : Status) (text : List ℕ)
    → IsAnswerTo words files before now status text → IsSound words before now status text
sound words files before now status text answers = go (asked words) refl answers
  where
    taken : (ask : Asked) → asked words ≡ Some ask → IsOfCommand status →
        (status ≢ ReadFault → (NamesLine words status text → ⊥) → now ≡ before) → IsSound words before now status text
    taken ask e of_command quiet = record {
      usage = λ u. absurd (of_command.not_usage u);
      only = λ u. let none : asked words ≡ None = usage_asks_nothing words u in cc;
      not_memory = of_command.not_memory;
      not_sink = of_command.not_sink;
      quiet = quiet;
    }

    plain : (ask : Asked) → asked words ≡ Some ask → IsToCommand before now status → IsSound words before now status text
    plain ask e to = taken ask e to.of_command.of_command (λ h other. to.quiet h)

    by : (ask : Asked) → asked words ≡ Some ask → AnswersCommand ask files before now status text → IsSound words before now status text
    by (check task proof effort) e a =
        let to = check_to_command (files task) effort before now status text a in
        taken (check task proof effort) e to.of_command (λ h other. to.quiet h)
    by (verify task proof workers) e a =
        let to = verify_to_command (files task) (files proof) before now status text a in
        taken (verify task proof workers) e to.of_command.of_command
        (λ h other. to.quiet h
        (λ n w says. other (record { to_verify = (task, proof, workers, e); number = n; word = w; says = says })))
    by (replay task input turns) e a =
        plain (replay task input turns) e (replay_to_command (files task) (files input) turns before now status text a)
    by (print task copy) e a = plain (print task copy) e (print_to_command (files task) copy before now status text a)
    by (suggest task effort) e a = plain (suggest task effort) e (suggest_to_command (files task) effort before now status text a)
    by (gen seed size effort) e a = plain (gen seed size effort) e (gen_to_command seed size effort before now status text a)
    by (explain task input turns) e a =
        plain (explain task input turns) e (explain_to_command files task input turns before now status text a)
    by (batch list cache effort) e a =
        plain (batch list cache effort) e (batch_to_command files list effort before now status text a)
    by (trim task proof out) e a =
        let to = trim_to_command (files task) (files proof) before now status text a in
        taken (trim task proof out) e to.of_command (λ h other. to.quiet h)
    by (about what) e a = plain (about what) e (about_to_command what before now status text a)

    go : (ask : Option Asked) → asked words ≡ ask → AnswersRequest ask words files before now status text → IsSound words before now status text
    go None e a =
        let is = a.says.ended in
        record {
          usage = λ u. a.refused;
          only = λ u. is;
          not_memory = λ e. cc;
          not_sink = λ e. cc;
          quiet = λ h other. a.quiet;
        }
    go (Some ask) e a = by ask e a
