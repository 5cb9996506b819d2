-- Two answers of `explain` to the same told files, each without a fault, are equal.
use Rattle.sm_display.proofs.Imports.{◌≡◌, ◌≢◌, ◌++◌, inl, inr, ℕ, List, Option, Some, None, Result, Ok, Err, codes, take, refl, sym, ap, subst, ◌∙◌, meaning, Known, untold, ReplayError, Verdict, Parts, sort_of, task_of, Store, TaskError, one_refusal, GivesTask, Status, Explains, ExplainsInput, ExplainsNoTask, ExplainsReplay, ExplainsRun, ShowsNoTask, ends_text, misfit_of, offset_of, programs_text, start_heading, ShowsEnds, ShowsOffset, ShowsRun, ShowsTokens}
use Rattle.sm_io.specs.Causes.{Rose}
use Rattle.sm_replay.specs.Input.{IsInput}
use Rattle.sm_replay.specs.declared.verdict.Verdict.TheVariants as verdict
use Rattle.sm_replay.proofs.VerdictUnique.{verdict_one}
use Rattle.sm_explain.specs.Places.{place_text}
use Rattle.sm_explain.proofs.PlacesSound.{place_one}
use Rattle.sm_follow.proofs.Lines.{follow_line_one}
use Rattle.sm_answers.proofs.AnswerUnique.{Same, says_same, bytes_or_none, input_or_none, no_bytes_same, no_task_same, read_same, refused_input_same, store_same, task_or_none, task_same, verdict_same}
use Rattle.sm_display.proofs.Begins.{begins_refused}
use Rattle.sm_display.proofs.CellsUnique.{start_one, table_one}

-- ---- refusals

offset_same : (xs : List ℕ) (offset : Option ℕ) (l m : List ℕ) → ShowsOffset xs offset l → ShowsOffset xs offset m → l ≡ m
offset_same xs None l m p q = p ∙ sym q
offset_same xs (Some k) l m p q = p.is ∙ ap (place_text xs k) (place_one xs k p.place q.place p.stands q.stands) ∙ sym q.is

tokens_same : (xs : List ℕ) (offset : Option ℕ) (l m : List ℕ) → ShowsTokens xs offset l → ShowsTokens xs offset m → l ≡ m
tokens_same xs None l m p q = p ∙ sym q
tokens_same xs (Some k) l m p q = follow_line_one (take k xs) l m p q

shown_same : (xs : List ℕ) (s u : Status) (t v : List ℕ) → ShowsNoTask xs s t → ShowsNoTask xs u v → Same s t u v
shown_same xs s u t v f g =
    let line = no_task_same xs s u f.line g.line f.refuses g.refuses in
    let error : f.refuses.error ≡ g.refuses.error =
    one_refusal xs f.refuses.error g.refuses.error f.refuses.first g.refuses.first in
    let place : f.place ≡ g.place =
    offset_same xs (offset_of g.refuses.error) f.place g.place
    (subst (λ (e : TaskError). ShowsOffset xs (offset_of e) f.place) error f.shows) g.shows in
    let tokens : f.tokens ≡ g.tokens =
    tokens_same xs (misfit_of g.refuses.error) f.tokens g.tokens
    (subst (λ (e : TaskError). ShowsTokens xs (misfit_of e) f.tokens) error f.could) g.could in (
      line.0,
      f.printed ∙ ap (λ (x : List ℕ). x ++ (f.place ++ f.tokens)) line.1 ∙ ap (λ (x : List ℕ). g.line ++ (x ++ f.tokens)) place
          ∙ ap (λ (x : List ℕ). g.line ++ (g.place ++ x)) tokens ∙ sym g.printed,
    )

none_same : (file : Known) (b n c m : ℕ) (s u : Status) (t v : List ℕ) → file ≢ untold → (¬ Rose b n) → (¬ Rose c m)
    → ExplainsNoTask file b n s t → ExplainsNoTask file c m u v → Same s t u v
none_same file b n c m s u t v told no_fault nor_later (inl f) (inl g) =
    no_bytes_same (codes "task") file b n c m s u t v no_fault nor_later f g
none_same file b n c m s u t v told no_fault nor_later (inl f) (inr g) =
    absurd (bytes_or_none (codes "task") file c m b n g.bytes s t told no_fault g.read f)
none_same file b n c m s u t v told no_fault nor_later (inr f) (inl g) =
    absurd (bytes_or_none (codes "task") file b n c m f.bytes u v told nor_later f.read g)
none_same file b n c m s u t v told no_fault nor_later (inr f) (inr g) =
    shown_same g.bytes s u t v
    (subst (λ (xs : List ℕ). ShowsNoTask xs s t) (read_same file b n c m f.bytes g.bytes told f.read g.read) f.refuses) g.refuses

-- a file doesn't both give a task and none
one_or_none : (file : Known) (b n c m : ℕ) (p : Parts) (s : Status) (t : List ℕ) → file ≢ untold → (¬ Rose c m) → GivesTask file b n p
    → ExplainsNoTask file c m s t → ⊥
one_or_none file b n c m p s t told no_fault g f =
    let none = begins_refused file c m s t f in task_or_none file b n c m p s none.0 told no_fault g none.2

-- ---- runs

ends_same : (t : Parts) (s : Store) (turns : ℕ) (l m : List ℕ) → ShowsEnds t s turns l → ShowsEnds t s turns m → l ≡ m
ends_same t s turns l m p q = p.is ∙ ap ends_text (table_one t s turns p.rows q.rows p.table q.table) ∙ sym q.is

run_same : (t : Parts) (s : Store) (turns : ℕ) (v : Result Verdict ReplayError) (l m : List ℕ) → ShowsRun t s turns v l
    → ShowsRun t s turns v m → l ≡ m
run_same t s turns (Ok verdict.Holds) l m p q = ends_same t s turns l m p q
run_same t s turns (Ok (verdict.Violates x i clause)) l m p q = ends_same t s turns l m p q
run_same t s turns (Ok verdict.Unmet) l m p q = p ∙ sym q
run_same t s turns (Err e) l m p q = p ∙ sym q

replay_same : (t : Parts) (store : Store) (turns : ℕ) (s u : Status) (l m : List ℕ) → ExplainsReplay t store turns s l
    → ExplainsReplay t store turns u m → Same s l u m
replay_same t store turns s u l m a b =
    let line = verdict_same t store turns s u a.line b.line a.answers b.answers in
    let judged : a.answers.verdict ≡ b.answers.verdict =
    verdict_one (task_of t) store turns a.answers.verdict b.answers.verdict a.answers.known b.answers.known a.answers.judged
    b.answers.judged in
    let start : a.start ≡ b.start = start_one t.names t.declared store a.start b.start a.starts b.starts in
    let ends : a.ends ≡ b.ends =
    run_same t store turns b.answers.verdict a.ends b.ends
    (subst (λ (v : Result Verdict ReplayError). ShowsRun t store turns v a.ends) judged a.shows) b.shows in (
      line.0,
      a.printed ∙ ap (λ (x : List ℕ). x ++ (start_heading ++ (a.start ++ a.ends))) line.1
          ∙ ap (λ (x : List ℕ). b.line ++ (start_heading ++ (x ++ a.ends))) start
          ∙ ap (λ (x : List ℕ). b.line ++ (start_heading ++ (b.start ++ x))) ends ∙ sym b.printed,
    )

input_same : (t : Parts) (file : Known) (turns b n c m : ℕ) (s u : Status) (l k : List ℕ) → file ≢ untold → (¬ Rose b n) → (¬ Rose c m)
    → ExplainsInput t file turns b n s l → ExplainsInput t file turns c m u k → Same s l u k
input_same t file turns b n c m s u l k told no_fault nor_later (inl f) (inl g) =
    refused_input_same t file b n c m s u l k told no_fault nor_later f g
input_same t file turns b n c m s u l k told no_fault nor_later (inl f) (inr g) =
    absurd (input_or_none t file c m b n g.store s l told no_fault g.gives f)
input_same t file turns b n c m s u l k told no_fault nor_later (inr f) (inl g) =
    absurd (input_or_none t file b n c m f.store u k told nor_later f.gives g)
input_same t file turns b n c m s u l k told no_fault nor_later (inr f) (inr g) =
    let given =
    subst (λ (xs : List ℕ). IsInput t.names (sort_of t.declared) xs f.store)
    (read_same file b n c m f.gives.bytes g.gives.bytes told f.gives.read g.gives.read) f.gives.gives in
    let same : meaning f.store ≡ meaning g.store = store_same t g.gives.bytes f.store g.store given g.gives.gives in
    replay_same t (meaning g.store) turns s u l k (subst (λ (z : Store). ExplainsReplay t z turns s l) same f.answers) g.answers

runs_same : (file input : Known) (turns b n c m : ℕ) (s u : Status) (l k : List ℕ) → file ≢ untold → input ≢ untold → (¬ Rose b n)
    → (¬ Rose c m) → ExplainsRun file input turns b n s l → ExplainsRun file input turns c m u k → Same s l u k
runs_same file input turns b n c m s u l k told given no_fault nor_later (inl f) (inl g) =
    none_same file b n c m s u l k told no_fault nor_later f g
runs_same file input turns b n c m s u l k told given no_fault nor_later (inl f) (inr g) =
    absurd (one_or_none file c g.between b n g.task s l told no_fault g.gives f)
runs_same file input turns b n c m s u l k told given no_fault nor_later (inr f) (inl g) =
    absurd (one_or_none file b f.between c m f.task u k told nor_later f.gives g)
runs_same file input turns b n c m s u l k told given no_fault nor_later (inr f) (inr g) =
    input_same g.task input turns f.between n g.between m s u l k given
    (subst (λ (z : ℕ). ¬ Rose z n) (sym f.gives.read.quiet) no_fault) (subst (λ (z : ℕ). ¬ Rose z m) (sym g.gives.read.quiet) nor_later)
    (subst (λ (p : Parts). ExplainsInput p input turns f.between n s l)
    (task_same file b f.between c g.between f.task g.task told f.gives g.gives) f.answers) g.answers

pub explains_same : (files : List ℕ → Known) (task : List ℕ) (input : Option (List ℕ)) (turns b n c m : ℕ) (s u : Status) (l k : List ℕ)
    → ((name : List ℕ) → files name ≢ untold) → (¬ Rose b n) → (¬ Rose c m) → Explains files task input turns b n s l
    → Explains files task input turns c m u k → Same s l u k
explains_same files task None turns b n c m s u l k told no_fault nor_later (inl f) (inl g) =
    none_same (files task) b n c m s u l k (told task) no_fault nor_later f g
explains_same files task None turns b n c m s u l k told no_fault nor_later (inl f) (inr g) =
    absurd (one_or_none (files task) c m b n g.task s l (told task) no_fault g.gives f)
explains_same files task None turns b n c m s u l k told no_fault nor_later (inr f) (inl g) =
    absurd (one_or_none (files task) b n c m f.task u k (told task) nor_later f.gives g)
explains_same files task None turns b n c m s u l k told no_fault nor_later (inr f) (inr g) =
    says_same refl (ap programs_text (task_same (files task) b n c m f.task g.task (told task) f.gives g.gives)) f.says g.says
explains_same files task (Some input) turns b n c m s u l k told no_fault nor_later x y =
    runs_same (files task) (files input) turns b n c m s u l k (told task) (told input) no_fault nor_later x y
