-- Two answers to the same told files, each without a fault, are equal: what a file gives, and the answers of
-- `replay` and `verify`.
use Rattle.sm_answers.proofs.Imports.{◌≡◌, ◌≢◌, ◌⊎◌, ◌<◌, inl, inr, ℕ, List, Result, Ok, Err, length, codes, refl, sym, ap, subst, ◌∙◌, arith, FileAnswer, file_answer, meaning, Rose, Known, untold, absent, holds, WhereHeld, subject_of, Parts, sort_of, task_of, Spells, Store, names_of, one_refusal, file_limit, FailsToRead, GivesNoBytes, GivesNoTask, GivesTask, IsNoTask, IsRead, IsTooLong, input_refusal_line, refusal_line, verdict_line, verdict_status, AnswersReplay, GivesInput, GivesNoInput, IsNoInput, Replays, ReplaysInput, Says, Verifies, answer_line, answer_status, proof_limit, AnswersProof}
use Rattle.sm_eval.specs.declared.store.Store as code
use Rattle.sm_replay.specs.Input.{IsInput, Reads}
use Rattle.sm_replay.specs.declared.error.InputError.{InputError}
use Rattle.sm_replay.specs.declared.error.InputError.TheVariants as no_input
use Rattle.sm_replay.proofs.InputUnique.{reading_one}
use Rattle.sm_replay.proofs.VerdictUnique.{verdict_one}
use Rattle.sm_text.proofs.Complete.Tasks as text
use Rattle.sm_answers.specs.File.{Status}

-- two replies are equal
abbrev pub Same : Status → List ℕ → Status → List ℕ → Type 0
Same s t u v = (s ≡ u) × (t ≡ v)

-- replies that say the same are equal
pub says_same : {p q : Status} {l m : List ℕ} {s u : Status} {t v : List ℕ} → p ≡ q → l ≡ m → Says p l s t → Says q m u v → Same s t u v
says_same same alike a b = (a.ended ∙ same ∙ sym b.ended, a.printed ∙ alike ∙ sym b.printed)

-- a file has one list of bytes
pub read_same : (file : Known) (b n c m : ℕ) (xs ys : List ℕ) → file ≢ untold → IsRead file b n xs → IsRead file c m ys → xs ≡ ys
read_same untold b n c m xs ys told r q = absurd (told refl)
read_same absent b n c m xs ys told r q = absurd (r.there refl)
read_same (holds h) b n c m xs ys told r q = sym (r.held h refl) ∙ q.held h refl

-- a file that was read is there, and has few bytes
read_within : (file : Known) (kind : List ℕ) (b n c m : ℕ) (xs : List ℕ) (s : Status) (t : List ℕ) → file ≢ untold → IsRead file b n xs
    → IsTooLong kind file c m s t → ⊥
read_within untold kind b n c m xs s t told r q = told refl
read_within absent kind b n c m xs s t told r q = r.there refl
read_within (holds h) kind b n c m xs s t told r q =
    let over : file_limit < length xs = subst (λ (zs : List ℕ). file_limit < length zs) (r.held h refl) (q.over h refl) in
    omega (arith, over, r.within)

-- without a fault, only a file that isn't there can't be read
pub not_there : (file : Known) (b n : ℕ) (s : Status) (t : List ℕ) → (¬ Rose b n) → FailsToRead file b n s t → file ≡ absent
not_there file b n s t no_fault f = go f.cause
  where
    go : Rose b n ⊎ (file ≡ absent) → file ≡ absent
    go (inl rose) = absurd (no_fault rose)
    go (inr gone) = gone

-- a file doesn't both give bytes and none
pub bytes_or_none : (kind : List ℕ) (file : Known) (b n c m : ℕ) (xs : List ℕ) (s : Status) (t : List ℕ) → file ≢ untold → (¬ Rose c m)
    → IsRead file b n xs → GivesNoBytes kind file c m s t → ⊥
bytes_or_none kind file b n c m xs s t told no_fault r (inl f) = r.there (not_there file c m s t no_fault f)
bytes_or_none kind file b n c m xs s t told no_fault r (inr f) = read_within file kind b n c m xs s t told r f

-- without a fault, two answers that say that a file gives no bytes are equal
pub no_bytes_same : (kind : List ℕ) (file : Known) (b n c m : ℕ) (s u : Status) (t v : List ℕ) → (¬ Rose b n) → (¬ Rose c m)
    → GivesNoBytes kind file b n s t → GivesNoBytes kind file c m u v → Same s t u v
no_bytes_same kind file b n c m s u t v no_fault nor_later (inl f) (inl g) = says_same refl refl f.says g.says
no_bytes_same kind file b n c m s u t v no_fault nor_later (inl f) (inr g) = absurd (g.there (not_there file b n s t no_fault f))
no_bytes_same kind file b n c m s u t v no_fault nor_later (inr f) (inl g) = absurd (f.there (not_there file c m u v nor_later g))
no_bytes_same kind file b n c m s u t v no_fault nor_later (inr f) (inr g) = says_same refl refl f.says g.says

-- bytes are refused in one way
pub no_task_same : (xs : List ℕ) (s u : Status) (t v : List ℕ) → IsNoTask xs s t → IsNoTask xs u v → Same s t u v
no_task_same xs s u t v f g =
    says_same refl (ap (refusal_line (names_of xs)) (one_refusal xs f.error g.error f.first g.first)) f.says g.says

-- a file gives no task in one way
pub refused_same : (file : Known) (b n c m : ℕ) (s u : Status) (t v : List ℕ) → file ≢ untold → (¬ Rose b n) → (¬ Rose c m)
    → GivesNoTask file b n s t → GivesNoTask file c m u v → Same s t u v
refused_same file b n c m s u t v told no_fault nor_later (inl f) (inl g) =
    no_bytes_same (codes "task") file b n c m s u t v no_fault nor_later f g
refused_same file b n c m s u t v told no_fault nor_later (inl f) (inr g) =
    absurd (bytes_or_none (codes "task") file c m b n g.bytes s t told no_fault g.read f)
refused_same file b n c m s u t v told no_fault nor_later (inr f) (inl g) =
    absurd (bytes_or_none (codes "task") file b n c m f.bytes u v told nor_later f.read g)
refused_same file b n c m s u t v told no_fault nor_later (inr f) (inr g) =
    no_task_same g.bytes s u t v
    (subst (λ (xs : List ℕ). IsNoTask xs s t) (read_same file b n c m f.bytes g.bytes told f.read g.read) f.refuses) g.refuses

-- a file doesn't both give a task and none
pub task_or_none : (file : Known) (b n c m : ℕ) (p : Parts) (s : Status) (t : List ℕ) → file ≢ untold → (¬ Rose c m) → GivesTask file b n p
    → GivesNoTask file c m s t → ⊥
task_or_none file b n c m p s t told no_fault g (inl f) = bytes_or_none (codes "task") file b n c m g.bytes s t told no_fault g.read f
task_or_none file b n c m p s t told no_fault g (inr f) =
    f.refuses.spells_none p (subst (λ (xs : List ℕ). Spells xs p) (read_same file b n c m g.bytes f.bytes told g.read f.read) g.spells)

-- a file that is told gives one task
pub task_same : (file : Known) (b n c m : ℕ) (p q : Parts) → file ≢ untold → GivesTask file b n p → GivesTask file c m q → p ≡ q
task_same file b n c m p q told g h =
    let spelled : Spells h.bytes p =
    subst (λ (xs : List ℕ). Spells xs p) (read_same file b n c m g.bytes h.bytes told g.read h.read) g.spells in
    text.one_parse h.bytes p q spelled.text h.spells.text

-- bytes that are refused for a cause
abbrev refused_for : InputError → Result code.Store InputError
refused_for e = Err e

-- equal refusals have equal causes
err_same : (e f : InputError) → refused_for e ≡ refused_for f → e ≡ f
err_same e f p = cc

-- bytes give one store, or are refused in one way
pub store_same : (t : Parts) (xs : List ℕ) (s u : code.Store) → IsInput t.names (sort_of t.declared) xs s
    → IsInput t.names (sort_of t.declared) xs u → meaning s ≡ meaning u
store_same t xs s u a b = (reading_one t.names (sort_of t.declared) xs (Ok s) (Ok u) (λ e. cc) (λ e. cc) a b).0

store_or_none : (t : Parts) (xs : List ℕ) (s : code.Store) (e : InputError) → e ≢ no_input.Memory
    → IsInput t.names (sort_of t.declared) xs s → Reads t.names (sort_of t.declared) xs (Err e) → ⊥
store_or_none t xs s e cause a b =
    reading_one t.names (sort_of t.declared) xs (Ok s) (Err e) (λ p. cc) (λ p. cause (err_same e no_input.Memory p)) a b

no_input_same : (t : Parts) (xs : List ℕ) (s u : Status) (l m : List ℕ) → IsNoInput t xs s l → IsNoInput t xs u m → Same s l u m
no_input_same t xs s u l m f g =
    let same : f.error ≡ g.error =
    reading_one t.names (sort_of t.declared) xs (Err f.error) (Err g.error) (λ p. f.cause (err_same f.error no_input.Memory p))
    (λ p. g.cause (err_same g.error no_input.Memory p)) f.refused g.refused in
    says_same refl (ap (input_refusal_line t.names) same) f.says g.says

-- a file gives no input in one way
pub refused_input_same : (t : Parts) (file : Known) (b n c m : ℕ) (s u : Status) (l k : List ℕ) → file ≢ untold → (¬ Rose b n)
    → (¬ Rose c m) → GivesNoInput t file b n s l → GivesNoInput t file c m u k → Same s l u k
refused_input_same t file b n c m s u l k told no_fault nor_later (inl f) (inl g) =
    no_bytes_same (codes "input") file b n c m s u l k no_fault nor_later f g
refused_input_same t file b n c m s u l k told no_fault nor_later (inl f) (inr g) =
    absurd (bytes_or_none (codes "input") file c m b n g.bytes s l told no_fault g.read f)
refused_input_same t file b n c m s u l k told no_fault nor_later (inr f) (inl g) =
    absurd (bytes_or_none (codes "input") file b n c m f.bytes u k told nor_later f.read g)
refused_input_same t file b n c m s u l k told no_fault nor_later (inr f) (inr g) =
    no_input_same t g.bytes s u l k
    (subst (λ (xs : List ℕ). IsNoInput t xs s l) (read_same file b n c m f.bytes g.bytes told f.read g.read) f.refuses) g.refuses

-- a file doesn't both give an input and none
pub input_or_none : (t : Parts) (file : Known) (b n c m : ℕ) (store : code.Store) (s : Status) (l : List ℕ) → file ≢ untold → (¬ Rose c m)
    → GivesInput t file b n store → GivesNoInput t file c m s l → ⊥
input_or_none t file b n c m store s l told no_fault g (inl f) =
    bytes_or_none (codes "input") file b n c m g.bytes s l told no_fault g.read f
input_or_none t file b n c m store s l told no_fault g (inr f) =
    store_or_none t f.bytes store f.refuses.error f.refuses.cause
    (subst (λ (xs : List ℕ). IsInput t.names (sort_of t.declared) xs store)
    (read_same file b n c m g.bytes f.bytes told g.read f.read) g.gives) f.refuses.refused

-- a verdict is answered in one way
pub verdict_same : (t : Parts) (store : Store) (turns : ℕ) (s u : Status) (l m : List ℕ) → AnswersReplay t store turns s l
    → AnswersReplay t store turns u m → Same s l u m
verdict_same t store turns s u l m a b =
    let same : a.verdict ≡ b.verdict = verdict_one (task_of t) store turns a.verdict b.verdict a.known b.known a.judged b.judged in
    says_same (ap verdict_status same) (ap (verdict_line t.names) same) a.says b.says

pub input_same : (t : Parts) (file : Known) (turns b n c m : ℕ) (s u : Status) (l k : List ℕ) → file ≢ untold → (¬ Rose b n) → (¬ Rose c m)
    → ReplaysInput t file turns b n s l → ReplaysInput t file turns c m u k → Same s l u k
input_same t file turns b n c m s u l k told no_fault nor_later (inl f) (inl g) =
    refused_input_same t file b n c m s u l k told no_fault nor_later f g
input_same t file turns b n c m s u l k told no_fault nor_later (inl f) (inr g) =
    absurd (input_or_none t file c m b n g.store s l told no_fault g.gives f)
input_same t file turns b n c m s u l k told no_fault nor_later (inr f) (inl g) =
    absurd (input_or_none t file b n c m f.store u k told nor_later f.gives g)
input_same t file turns b n c m s u l k told no_fault nor_later (inr f) (inr g) =
    let given =
    subst (λ (xs : List ℕ). IsInput t.names (sort_of t.declared) xs f.store)
    (read_same file b n c m f.gives.bytes g.gives.bytes told f.gives.read g.gives.read) f.gives.gives in
    let same : meaning f.store ≡ meaning g.store = store_same t g.gives.bytes f.store g.store given g.gives.gives in
    verdict_same t (meaning g.store) turns s u l k (subst (λ (z : Store). AnswersReplay t z turns s l) same f.answers) g.answers

-- a file that is told has one answer
answer_same : (t : Parts) (file : Known) (a d : FileAnswer) → file ≢ untold → file ≢ absent
    → WhereHeld file (λ (bytes : List ℕ). file_answer proof_limit (subject_of t) bytes ≡ a)
    → WhereHeld file (λ (bytes : List ℕ). file_answer proof_limit (subject_of t) bytes ≡ d) → a ≡ d
answer_same t untold a d told there f g = absurd (told refl)
answer_same t absent a d told there f g = absurd (there refl)
answer_same t (holds h) a d told there f g = sym (f h refl) ∙ g h refl

proof_same : (t : Parts) (file : Known) (b n c m : ℕ) (s u : Status) (l k : List ℕ) → file ≢ untold → (¬ Rose b n) → (¬ Rose c m)
    → AnswersProof t file b n s l → AnswersProof t file c m u k → Same s l u k
proof_same t file b n c m s u l k told no_fault nor_later (inl f) (inl g) = says_same refl refl f.says g.says
proof_same t file b n c m s u l k told no_fault nor_later (inl f) (inr g) = absurd (g.there (not_there file b n s l no_fault f))
proof_same t file b n c m s u l k told no_fault nor_later (inr f) (inl g) = absurd (f.there (not_there file c m u k nor_later g))
proof_same t file b n c m s u l k told no_fault nor_later (inr f) (inr g) =
    let same : f.answer ≡ g.answer = answer_same t file f.answer g.answer told f.there f.held g.held in
    says_same (ap answer_status same) (ap answer_line same) f.says g.says

pub verifies_same : (file proof : Known) (b n c m : ℕ) (s u : Status) (l k : List ℕ) → file ≢ untold → proof ≢ untold
    → (¬ Rose b n) → (¬ Rose c m) → Verifies file proof b n s l → Verifies file proof c m u k → Same s l u k
verifies_same file proof b n c m s u l k told given no_fault nor_later (inl f) (inl g) =
    refused_same file b n c m s u l k told no_fault nor_later f g
verifies_same file proof b n c m s u l k told given no_fault nor_later (inl f) (inr g) =
    absurd (task_or_none file c g.between b n g.task s l told no_fault g.gives f)
verifies_same file proof b n c m s u l k told given no_fault nor_later (inr f) (inl g) =
    absurd (task_or_none file b f.between c m f.task u k told nor_later f.gives g)
verifies_same file proof b n c m s u l k told given no_fault nor_later (inr f) (inr g) =
    proof_same g.task proof f.between n g.between m s u l k given
    (subst (λ (z : ℕ). ¬ Rose z n) (sym f.gives.read.quiet) no_fault) (subst (λ (z : ℕ). ¬ Rose z m) (sym g.gives.read.quiet) nor_later)
    (subst (λ (p : Parts). AnswersProof p proof f.between n s l)
    (task_same file b f.between c g.between f.task g.task told f.gives g.gives) f.answers) g.answers

pub replays_same : (file input : Known) (turns b n c m : ℕ) (s u : Status) (l k : List ℕ) → file ≢ untold → input ≢ untold → (¬ Rose b n)
    → (¬ Rose c m) → Replays file input turns b n s l → Replays file input turns c m u k → Same s l u k
replays_same file input turns b n c m s u l k told given no_fault nor_later (inl f) (inl g) =
    refused_same file b n c m s u l k told no_fault nor_later f g
replays_same file input turns b n c m s u l k told given no_fault nor_later (inl f) (inr g) =
    absurd (task_or_none file c g.between b n g.task s l told no_fault g.gives f)
replays_same file input turns b n c m s u l k told given no_fault nor_later (inr f) (inl g) =
    absurd (task_or_none file b f.between c m f.task u k told nor_later f.gives g)
replays_same file input turns b n c m s u l k told given no_fault nor_later (inr f) (inr g) =
    input_same g.task input turns f.between n g.between m s u l k given
    (subst (λ (z : ℕ). ¬ Rose z n) (sym f.gives.read.quiet) no_fault) (subst (λ (z : ℕ). ¬ Rose z m) (sym g.gives.read.quiet) nor_later)
    (subst (λ (p : Parts). ReplaysInput p input turns f.between n s l)
    (task_same file b f.between c g.between f.task g.task told f.gives g.gives) f.answers) g.answers
