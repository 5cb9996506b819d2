-- What answers leave in the files.
use Rattle.sm_commands.proofs.Imports.{◌≡◌, ◌≢◌, ◌≤◌, ◌⊎◌, inl, inr, ℕ, List, length, Option, Some, None, refl, sym, ap, subst, ◌∙◌, Outcome, IsOutcome, HasCause, Rose, Known, holds, Verdict, Parts, Spells, outcome_one, reach_of, AnswersCheck, SaysOutcome, AnswersDeeper, FailsToWrite, AnswersInTime, AnswersTask, AnswersWhy, file_limit, Status, Accepted, Unknown, WriteFault, HoldsProof, LeavesFront, LeavesProof, Says, Files, Checks, LeavesBy, LeavesFiles, LeavesPart, LeavesPartBy, EndsWith, Asked, check, verify, replay, print, suggest, gen, explain, batch, trim, about, Effort, Exit, Reply, task_told, ends_by, leaves_whole, none_refused, one_spelled}
use Rattle.std.proofs.Common.{Result, codes}
use Rattle.sm_houdini.specs.Outcomes as outcome
use Rattle.sm_text.proofs.Complete.Tasks as text

-- ---- the files of words

-- no other file than that of the proof that `check` or `trim` makes changes
pub same_by : (o : Option Asked) (before now : Files) (s : Status) → LeavesBy o before s now → (name : List ℕ)
    → ((task : List ℕ) (effort : Effort) → o ≢ Some (check task name effort))
    → ((task proof : List ℕ) → o ≢ Some (trim task proof name)) → now name ≡ before name
same_by None before now s h name never nor = h name
same_by (Some (check task proof effort)) before now s h name never nor =
    h.0 name (λ e. never task effort (ap (λ (p : List ℕ). Some (check task p effort)) (sym e)))
same_by (Some (verify task proof workers)) before now s h name never nor = h name
same_by (Some (replay task input turns)) before now s h name never nor = h name
same_by (Some (print task copy)) before now s h name never nor = h name
same_by (Some (suggest task effort)) before now s h name never nor = h name
same_by (Some (gen seed size effort)) before now s h name never nor = h name
same_by (Some (explain task input turns)) before now s h name never nor = h name
same_by (Some (batch list cache effort)) before now s h name never nor = h name
same_by (Some (trim task proof out)) before now s h name never nor =
    h.0 name (λ e. nor task proof (ap (λ (p : List ℕ). Some (trim task proof p)) (sym e)))
same_by (Some (about what)) before now s h name never nor = h name

pub same_part : (o : Option Asked) (before now : Files) → LeavesPartBy o before now → (name : List ℕ)
    → ((task : List ℕ) (effort : Effort) → o ≢ Some (check task name effort))
    → ((task proof : List ℕ) → o ≢ Some (trim task proof name)) → now name ≡ before name
same_part None before now h name never nor = h name
same_part (Some (check task proof effort)) before now h name never nor =
    h.0 name (λ e. never task effort (ap (λ (p : List ℕ). Some (check task p effort)) (sym e)))
same_part (Some (verify task proof workers)) before now h name never nor = h name
same_part (Some (replay task input turns)) before now h name never nor = h name
same_part (Some (print task copy)) before now h name never nor = h name
same_part (Some (suggest task effort)) before now h name never nor = h name
same_part (Some (gen seed size effort)) before now h name never nor = h name
same_part (Some (explain task input turns)) before now h name never nor = h name
same_part (Some (batch list cache effort)) before now h name never nor = h name
same_part (Some (trim task proof out)) before now h name never nor =
    h.0 name (λ e. nor task proof (ap (λ (p : List ℕ). Some (trim task proof p)) (sym e)))
same_part (Some (about what)) before now h name never nor = h name

-- what is left in the file of the proof that `check` is asked for
pub left_by : (o : Option Asked) (before now : Files) (s : Status) (task proof : List ℕ) (effort : Effort)
    → LeavesBy o before s now → o ≡ Some (check task proof effort) → LeavesProof (before task) s (before proof) (now proof)
left_by o before now s task proof effort h is =
    (subst (λ (p : Option Asked). LeavesBy p before s now) is h).1

-- ---- an accepted task whose answer could not be printed

-- its status is Accepted
accepted_status : (t : Parts) (s : Status) (line : List ℕ) → SaysOutcome t outcome.Accepted s line → s ≡ Accepted
accepted_status t s line h = h.1.2.ended

pub kept_whole : (bytes : List ℕ) (effort : Effort) (b n before now : ℕ) (s : Status) (line : List ℕ) (old new : Known) (t : Parts)
    → effort.seconds ≡ None → (¬ Rose before now) → (¬ Rose b n) → HasCause before now (s ≡ WriteFault) → length bytes ≤ file_limit → Spells bytes t
    → IsOutcome t (reach_of effort) effort.turns outcome.Accepted → Checks (holds bytes) effort b n s line
    → LeavesProof (holds bytes) s old new → HoldsProof t old new
kept_whole bytes effort b n before now s line old new t no_limit no_write no_read cause fits spells accepted (inl f) left =
    absurd (none_refused bytes t b n s line no_read fits spells f)
kept_whole bytes effort b n before now s line old new t no_limit no_write no_read cause fits spells accepted (inr c) left = go c.answers
  where
    same : c.task ≡ t
    same = one_spelled bytes c.task t (task_told (holds bytes) b n c.task c.gives bytes refl) spells

    whole : s ≡ Accepted → HoldsProof t old new
    whole e =
        let w = leaves_whole (holds bytes) s old new e left in
        subst (λ (u : Parts). HoldsProof u old new) (one_spelled bytes w.0 t (w.1 bytes refl) spells) w.2

    -- the answer to it is Accepted
    decided : (u : Status) (text : List ℕ) → AnswersCheck c.task effort u text → u ≡ Accepted
    decided u text a =
        let one : a.outcome ≡ outcome.Accepted =
        outcome_one t (reach_of effort) effort.turns a.outcome outcome.Accepted
        (subst (λ (p : Parts). IsOutcome p (reach_of effort) effort.turns a.outcome) same a.found) accepted in
        accepted_status c.task u text (subst (λ (o : Outcome (ℕ × Verdict)). SaysOutcome c.task o u text) one a.says)

    deeper : (text : List ℕ) → AnswersDeeper c.task effort s text → HoldsProof t old new
    deeper text (inl a) = whole (decided s text a)
    deeper text (inr (inl a)) = let unknown = decided Unknown a.line a.undecided in cc
    deeper text (inr (inr a)) = let unknown = decided Unknown a.line a.undecided in cc

    go : AnswersTask c.task effort s line → HoldsProof t old new
    go (inl (inl (inl a))) = deeper line a.1
    go (inl (inl (inr w))) = deeper w.line w.answers
    go (inl (inr r)) = absurd (let both : Some r.seconds ≡ None = sym r.given ∙ no_limit in cc)
    go (inr a) = absurd (no_write (cause.rose a.says.ended))

-- ---- `check` of a task

-- an accepted task whose proof couldn't be written: words behind the answer aren't printed
unwritten : (t : Parts) (effort : Effort) (s u : Status) (l m : List ℕ) → AnswersWhy t effort s l → s ≡ Accepted
    → Says WriteFault (codes "WriteFault\n") u m → FailsToWrite t effort u m
unwritten t effort s u l m (inl a) e says =
    record { line = l; accepted = subst (λ (x : Status). AnswersDeeper t effort x l) e a.1; says = says }
unwritten t effort s u l m (inr w) e says =
    record { line = w.line; accepted = subst (λ (x : Status). AnswersDeeper t effort x w.line) e w.answers; says = says }

-- the answer to a task that is accepted, once its proof was to be written
pub written_answers : (t : Parts) (effort : Effort) (s u : Status) (l m : List ℕ) (P Q : Type 0) → AnswersInTime t effort s l → s ≡ Accepted
    → (Says s l u m × P) ⊎ (Says WriteFault (codes "WriteFault\n") u m × Q) → AnswersTask t effort u m
written_answers t effort s u l m P Q (inl a) e (inl h) =
    inl (inl (subst (λ (x : Status). AnswersWhy t effort x m) (sym h.0.ended)
    (subst (λ (x : List ℕ). AnswersWhy t effort s x) (sym h.0.printed) a)))
written_answers t effort s u l m P Q (inl a) e (inr h) = inr (unwritten t effort s u l m a e h.0)
written_answers t effort s u l m P Q (inr r) e h = absurd (let both : Unknown ≡ Accepted = sym r.says.ended ∙ e in cc)

-- ---- what `check` leaves

pub check_leaves : (task proof : List ℕ) (effort : Effort) (before now : Files) (r : Result Reply Exit)
    → ((other : List ℕ) → other ≢ proof → now other ≡ before other)
    → EndsWith (λ (s : Status). LeavesProof (before task) s (before proof) (now proof))
    (LeavesFront (before task) (before proof) (now proof)) r
    → EndsWith (λ (s : Status). LeavesFiles (check task proof effort) before s now) (LeavesPart (check task proof effort) before now) r
check_leaves task proof effort before now r others =
    ends_by (λ (s : Status). LeavesProof (before task) s (before proof) (now proof))
    (λ (s : Status). LeavesFiles (check task proof effort) before s now) (LeavesFront (before task) (before proof) (now proof))
    (LeavesPart (check task proof effort) before now) (λ s left. (others, left)) (λ left. (others, left)) r
