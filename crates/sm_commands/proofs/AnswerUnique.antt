-- Two answers to the same words and told files, each without a fault, are equal.
use Rattle.sm_commands.proofs.Imports.{◌≡◌, ◌≢◌, ◌++◌, inl, inr, ℕ, true, false, List, Option, Some, None, refl, sym, ap, subst, ◌∙◌, Rose, Known, untold, Parts, generated, A, B, AnswersCheck, AnswersDeeper, AnswersGenInTime, AnswersTask, SaysWhy, CopyName, summary_line, Files, AnswersCommand, AnswersRequest, Checks, Generates, IsAnswerTo, canonical_text, Prints, Words, Asked, check, verify, replay, print, suggest, gen, explain, batch, trim, about, asked, Effort, Status, Accepted, Conflict, Unknown, Refused, Usage, ReadFault, Memory, WriteFault, SinkFault}
use Rattle.sm_replay.specs.declared.verdict.Verdict.TheVariants as verdict
use Rattle.sm_gen.specs.Drawing.{edits, edit_count}
use Rattle.sm_houdini.specs.Outcomes as outcome
use Rattle.sm_commands.specs.Laws.{AreTold, AskAlike, IsPlain, OneAnswer, with_cache, with_workers}
use Rattle.sm_display.proofs.ExplainUnique.{explains_same}
use Rattle.sm_replies.proofs.BatchUnique.{batches_same, fewer_batches}
use Rattle.sm_answers.proofs.AnswerUnique.{Same, says_same, refused_same, task_or_none, task_same, replays_same, verifies_same}
use Rattle.sm_replies.proofs.AnswerUnique.{fewer_over, no_limit, fewer_suggests, fewer_check, suggests_same, check_same}

-- ---- check

-- an answer that isn't a fault to write, where neither `--deeper` nor `--why` is asked for
no_write : (t : Parts) (effort : Effort) (s : Status) (l : List ℕ) → (effort.deeper ≡ false) × (effort.why ≡ false) × (effort.seconds ≡ None) → s ≢ WriteFault
    → AnswersTask t effort s l → AnswersCheck t effort s l
no_write t effort s l plain no_fault (inl (inl (inl (why, inl a)))) = a
no_write t effort s l plain no_fault (inl (inl (inl (why, inr (inl a))))) = absurd (let both : true ≡ false = sym a.asked ∙ plain.0 in cc)
no_write t effort s l plain no_fault (inl (inl (inl (why, inr (inr a))))) = absurd (let both : true ≡ false = sym a.asked ∙ plain.0 in cc)
no_write t effort s l plain no_fault (inl (inl (inr w))) = absurd (let both : true ≡ false = sym w.asked ∙ plain.1 in cc)
no_write t effort s l plain no_fault (inl (inr r)) = absurd (no_limit effort s l plain.2 r)
no_write t effort s l plain no_fault (inr a) = absurd (no_fault a.says.ended)

checks_same : (file : Known) (effort : Effort) (b n c m : ℕ) (s u : Status) (t v : List ℕ) → (effort.deeper ≡ false) × (effort.why ≡ false) × (effort.seconds ≡ None) → file ≢ untold → (¬ Rose b n)
    → (¬ Rose c m) → s ≢ WriteFault → u ≢ WriteFault → Checks file effort b n s t → Checks file effort c m u v → Same s t u v
checks_same file effort b n c m s u t v plain told no_fault nor_later whole also (inl f) (inl g) =
    refused_same file b n c m s u t v told no_fault nor_later f g
checks_same file effort b n c m s u t v plain told no_fault nor_later whole also (inl f) (inr g) =
    absurd (task_or_none file c m b n g.task s t told no_fault g.gives f)
checks_same file effort b n c m s u t v plain told no_fault nor_later whole also (inr f) (inl g) =
    absurd (task_or_none file b n c m f.task u v told nor_later f.gives g)
checks_same file effort b n c m s u t v plain told no_fault nor_later whole also (inr f) (inr g) =
    check_same g.task effort s u t v
    (subst (λ (p : Parts). AnswersCheck p effort s t) (task_same file b n c m f.task g.task told f.gives g.gives)
    (no_write f.task effort s t plain whole f.answers)) (no_write g.task effort u v plain also g.answers)

gen_same : (seed size : ℕ) (effort : Effort) (b n c m : ℕ) (s u : Status) (t v : List ℕ) → effort.seconds ≡ None → Generates seed size effort b n s t
    → Generates seed size effort c m u v → Same s t u v
gen_same seed size effort b n c m s u t v plain f g = go f.answers g.answers
  where
    go : AnswersGenInTime seed size effort s t → AnswersGenInTime seed size effort u v → Same s t u v
    go (inl x) (inl y) =
        let same = check_same (generated seed size) effort s u x.answer y.answer x.answers y.answers in
        let drawn = edits seed size in (
          same.0,
          x.printed ∙ ap (λ (answer : List ℕ). summary_line seed size (edit_count A drawn) (edit_count B drawn) ++ answer) same.1
              ∙ sym y.printed,
        )
    go (inl x) (inr r) = absurd (no_limit effort u v plain r)
    go (inr r) y = absurd (no_limit effort s t plain r)

-- ---- print

prints_same : (file : Known) (copy : Option CopyName) (b n c m : ℕ) (s u : Status) (t v : List ℕ) → file ≢ untold → (¬ Rose b n)
    → (¬ Rose c m) → Prints file copy b n s t → Prints file copy c m u v → Same s t u v
prints_same file copy b n c m s u t v told no_fault nor_later (inl f) (inl g) =
    refused_same file b n c m s u t v told no_fault nor_later f g
prints_same file copy b n c m s u t v told no_fault nor_later (inl f) (inr g) =
    absurd (task_or_none file c m b n g.task s t told no_fault g.gives f)
prints_same file copy b n c m s u t v told no_fault nor_later (inr f) (inl g) =
    absurd (task_or_none file b n c m f.task u v told nor_later f.gives g)
prints_same file copy b n c m s u t v told no_fault nor_later (inr f) (inr g) =
    says_same refl (ap (λ (p : Parts). canonical_text p copy) (task_same file b n c m f.task g.task told f.gives g.gives)) f.says
    g.says

-- ---- words

command_same : (ask : Asked) (files : Files) (b n c m : ℕ) (s u : Status) (l k : List ℕ) → IsPlain ask → AreTold files → (¬ Rose b n) → (¬ Rose c m)
    → s ≢ WriteFault → u ≢ WriteFault → AnswersCommand ask files b n s l → AnswersCommand ask files c m u k → Same s l u k
command_same (check task proof effort) files b n c m s u l k plain told no_fault nor_later whole also x y =
    checks_same (files task) effort b n c m s u l k plain (told task) no_fault nor_later whole also x y
command_same (verify task proof workers) files b n c m s u l k plain told no_fault nor_later whole also x y =
    verifies_same (files task) (files proof) b n c m s u l k (told task) (told proof) no_fault nor_later x y
command_same (replay task input turns) files b n c m s u l k plain told no_fault nor_later whole also x y =
    replays_same (files task) (files input) turns b n c m s u l k (told task) (told input) no_fault nor_later x y
command_same (print task copy) files b n c m s u l k plain told no_fault nor_later whole also x y =
    prints_same (files task) copy b n c m s u l k (told task) no_fault nor_later x y
command_same (suggest task effort) files b n c m s u l k plain told no_fault nor_later whole also x y =
    suggests_same (files task) effort b n c m s u l k plain (told task) no_fault nor_later x y
command_same (gen seed size effort) files b n c m s u l k plain told no_fault nor_later whole also x y =
    gen_same seed size effort b n c m s u l k plain x y
command_same (explain task input turns) files b n c m s u l k plain told no_fault nor_later whole also x y =
    explains_same files task input turns b n c m s u l k told no_fault nor_later x y
command_same (batch list cache effort) files b n c m s u l k plain told no_fault nor_later whole also x y =
    batches_same check_same files list effort b n c m s u l k told no_fault nor_later x y
command_same (trim task proof out) files b n c m s u l k plain told no_fault nor_later whole also x y = absurd plain
command_same (about what) files b n c m s u l k plain told no_fault nor_later whole also x y = says_same refl refl x.says y.says

request_same : (ask : Option Asked) (words : Words) (files : Files) (b n c m : ℕ) (s u : Status) (l k : List ℕ)
    → ((given : Asked) → ask ≡ Some given → IsPlain given) → AreTold files
    → (¬ Rose b n) → (¬ Rose c m) → s ≢ WriteFault → u ≢ WriteFault → AnswersRequest ask words files b n s l
    → AnswersRequest ask words files c m u k → Same s l u k
request_same None words files b n c m s u l k plain told no_fault nor_later whole also x y = says_same refl refl x.says y.says
request_same (Some ask) words files b n c m s u l k plain told no_fault nor_later whole also x y =
    command_same ask files b n c m s u l k (plain ask refl) told no_fault nor_later whole also x y

-- ---- workers

fewer_deeper : (t : Parts) (effort : Effort) (workers : ℕ) (s : Status) (l : List ℕ) →
    let hired : Effort = record effort { workers = workers } in
    AnswersDeeper t hired s l → AnswersDeeper t effort s l
fewer_deeper t effort workers s l (inl a) = inl (fewer_check t effort workers s l a)
fewer_deeper t effort workers s l (inr (inl a)) =
    inr (inl (record {
      asked = a.asked;
      line = a.line;
      undecided = fewer_check t effort workers Unknown a.line a.undecided;
      number = a.number;
      beyond = a.beyond;
      store = a.store;
      violates = a.violates;
      verdict = a.verdict;
      judged = a.judged;
      shows = a.shows;
    }))
fewer_deeper t effort workers s l (inr (inr a)) =
    inr (inr (record {
      asked = a.asked;
      line = a.line;
      undecided = fewer_check t effort workers Unknown a.line a.undecided;
      free = a.free;
      says = a.says;
    }))

-- the words behind an answer don't depend on the workers
fewer_why : (t : Parts) (effort : Effort) (workers : ℕ) (s : Status) (l more : List ℕ) →
    let hired : Effort = record effort { workers = workers } in
    SaysWhy t hired s l more → SaysWhy t effort s l more
fewer_why t effort workers Accepted l more h = h
fewer_why t effort workers Conflict l more h =
    record { number = h.number; store = h.store; verdict = h.verdict; shows = h.shows; ends = h.ends }
fewer_why t effort workers Unknown l more h = record {
  outcome = h.outcome;
  found = h.found;
  stop = h.stop;
  stopped = h.stopped;
  bytes = h.bytes;
  spells = h.spells;
  reason = h.reason;
  says = h.says;
  trials = h.trials;
  counts = h.counts;
  printed = h.printed;
}
fewer_why t effort workers Refused l more h = absurd h
fewer_why t effort workers Usage l more h = absurd h
fewer_why t effort workers ReadFault l more h = absurd h
fewer_why t effort workers Memory l more h = absurd h
fewer_why t effort workers WriteFault l more h = absurd h
fewer_why t effort workers SinkFault l more h = absurd h

fewer_written : (t : Parts) (effort : Effort) (workers : ℕ) (s : Status) (l : List ℕ) →
    let hired : Effort = record effort { workers = workers } in
    AnswersTask t hired s l → AnswersTask t effort s l
fewer_written t effort workers s l (inl (inr r)) = inl (inr (fewer_over effort workers s l r))
fewer_written t effort workers s l (inl (inl (inl a))) = inl (inl (inl (a.0, fewer_deeper t effort workers s l a.1)))
fewer_written t effort workers s l (inl (inl (inr w))) =
    inl (inl (inr (record {
      asked = w.asked;
      line = w.line;
      answers = fewer_deeper t effort workers s w.line w.answers;
      more = w.more;
      says = fewer_why t effort workers s w.line w.more w.says;
      printed = w.printed;
    })))
fewer_written t effort workers s l (inr f) =
    inr (record { line = f.line; accepted = fewer_deeper t effort workers Accepted f.line f.accepted; says = f.says })

fewer_checks : (file : Known) (effort : Effort) (workers b n : ℕ) (s : Status) (l : List ℕ) →
    let hired : Effort = record effort { workers = workers } in
    Checks file hired b n s l → Checks file effort b n s l
fewer_checks file effort workers b n s l (inl f) = inl f
fewer_checks file effort workers b n s l (inr g) =
    inr (record { task = g.task; gives = g.gives; answers = fewer_written g.task effort workers s l g.answers })

-- what is answered to a task that is made doesn't depend on the workers
fewer_gen : (seed size : ℕ) (effort : Effort) (workers : ℕ) (s : Status) (l : List ℕ) →
    let hired : Effort = record effort { workers = workers } in
    AnswersGenInTime seed size hired s l → AnswersGenInTime seed size effort s l
fewer_gen seed size effort workers s l (inl a) = inl (record {
  answer = a.answer;
  answers = fewer_check (generated seed size) effort workers s a.answer a.answers;
  printed = a.printed;
})
fewer_gen seed size effort workers s l (inr r) = inr (fewer_over effort workers s l r)

-- what is answered to what is asked for doesn't depend on the workers
fewer_workers : (ask : Asked) (workers : ℕ) (files : Files) (b n : ℕ) (s : Status) (l : List ℕ)
    → AnswersCommand (with_workers workers ask) files b n s l → AnswersCommand ask files b n s l
fewer_workers (check task proof effort) workers files b n s l x = fewer_checks (files task) effort workers b n s l x
fewer_workers (verify task proof others) workers files b n s l x = x
fewer_workers (replay task input turns) workers files b n s l x = x
fewer_workers (print task copy) workers files b n s l x = x
fewer_workers (suggest task effort) workers files b n s l x = fewer_suggests (files task) effort workers b n s l x
fewer_workers (explain task input turns) workers files b n s l x = x
fewer_workers (batch list cache effort) workers files b n s l x = fewer_batches files list effort workers b n s l x
fewer_workers (trim task proof out) workers files b n s l x = x
fewer_workers (about what) workers files b n s l x = x
fewer_workers (gen seed size effort) workers files b n s l x =
    record {
      quiet = x.quiet;
      answers = fewer_gen seed size effort workers s l x.answers;
    }

-- what is answered to what is asked for doesn't depend on how many answers are kept
any_cache : (ask : Asked) (cache : ℕ) (files : Files) (b n : ℕ) (s : Status) (l : List ℕ)
    → AnswersCommand (with_cache cache ask) files b n s l → AnswersCommand ask files b n s l
any_cache (check task proof effort) cache files b n s l x = x
any_cache (verify task proof workers) cache files b n s l x = x
any_cache (replay task input turns) cache files b n s l x = x
any_cache (print task copy) cache files b n s l x = x
any_cache (suggest task effort) cache files b n s l x = x
any_cache (gen seed size effort) cache files b n s l x = x
any_cache (explain task input turns) cache files b n s l x = x
any_cache (batch list others effort) cache files b n s l x = x
any_cache (trim task proof out) cache files b n s l x = x
any_cache (about what) cache files b n s l x = x

-- an answer to words is one to those that ask alike
alike_answers : (words others : Words) (files : Files) (b n : ℕ) (s : Status) (l : List ℕ) → AskAlike words others
    → IsAnswerTo others files b n s l → IsAnswerTo words files b n s l
alike_answers words others files b n s l (inl same) x = subst (λ (ws : Words). IsAnswerTo ws files b n s l) same x
alike_answers words others files b n s l (inr alike) x =
    let given : AnswersCommand (with_cache alike.2 (with_workers alike.1 alike.0)) files b n s l =
    subst (λ (a : Option Asked). AnswersRequest a others files b n s l) alike.4 x in
    subst (λ (a : Option Asked). AnswersRequest a words files b n s l) (sym alike.3)
    (fewer_workers alike.0 alike.1 files b n s l (any_cache (with_workers alike.1 alike.0) alike.2 files b n s l given))

pub answer_one : OneAnswer
answer_one words others files before now earlier later status other line text plain alike told no_fault whole x nor_later also y =
    request_same (asked words) words files before now earlier later status other line text plain told no_fault nor_later whole also x
    (alike_answers words others files earlier later other text alike y)
