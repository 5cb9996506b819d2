-- Two answers to the same words and told files, each without a fault, are equal.
use Rattle.sm_replies.proofs.Imports.{◌≡◌, ◌≢◌, ◌<◌, ◌∷◌, ◌++◌, inl, inr, ℕ, Bool, true, false, List, [], Option, Some, None, codes, refl, sym, ap, subst, ◌∙◌, arith, Rose, Known, untold, trial, Verdict, AreWritten, Parts, sort_of, Store, signed_decimal, reach_of, AnswersCheck, IsInputText, IsNote, SaysNoted, SaysOutcome, ShowsTrial, RunsOut, is_accepted, AnswersSuggest, Decides, SaysSuggestion, Suggests, choices, combination, hole_count, IsFirst, goal_line, input_line, op_word, suggestion_line, too_many_line, trial_line, Effort, Status, Accepted, Conflict, Unknown, Same, says_same, refused_same, task_or_none, task_same}
use Rattle.serde_json.specs.Data.{Members, object}
use Rattle.serde_json.specs.Written.{compact_text}
use Rattle.sm_replay.specs.declared.verdict.Verdict.TheVariants as verdict
use Rattle.sm_replay.proofs.InputUnique.{written_one}
use Rattle.sm_houdini.specs.Outcomes as outcome
use Rattle.sm_houdini.specs.Outcomes.{Outcome}
use Rattle.sm_replies.proofs.SpelledLemmas.{outcome_one}

-- ---- check

-- the text of a store is one
text_same : (t : Parts) (s u : Store) (xs ys : List ℕ) → s ≡ u → IsInputText t s xs → IsInputText t u ys → xs ≡ ys
text_same t s u xs ys same a b =
    let written = subst (λ (z : Store). AreWritten t.names (sort_of t.declared) z a.members) same a.written in
    let alike : a.members ≡ b.members = written_one t.names (sort_of t.declared) u a.members b.members written b.written in
    a.compact ∙ ap (λ (ms : Members). compact_text (object ms)) alike ∙ sym b.compact

-- a trial is shown in one way
trial_same : (t : Parts) (j : ℕ) (v : Verdict) (s u : Status) (l m : List ℕ) → ShowsTrial t j v s l → ShowsTrial t j v u m → Same s l u m
trial_same t j verdict.Holds s u l m a b = absurd a
trial_same t j verdict.Unmet s u l m a b = absurd a
trial_same t j (verdict.Violates x i clause) s u l m a b =
    let here = trial (sort_of t.declared) j in
    says_same refl
    (ap (λ (given : List ℕ). trial_line t.names j x i clause ++ input_line given) (text_same t here here a.0 b.0 refl a.1 b.1)) a.2 b.2

-- a note is one
note_same : (t : Parts) (xs ys : List ℕ) → IsNote t xs → IsNote t ys → xs ≡ ys
note_same t xs ys (inl a) (inl b) = a.1 ∙ sym b.1
note_same t xs ys (inl a) (inr b) = absurd (b.0 a.0)
note_same t xs ys (inr a) (inl b) = absurd (a.0 b.0)
note_same t xs ys (inr a) (inr b) = a.1 ∙ sym b.1

noted_same : (t : Parts) (wanted : Status) (line : List ℕ) (s u : Status) (l m : List ℕ) → SaysNoted t wanted line s l
    → SaysNoted t wanted line u m → Same s l u m
noted_same t wanted line s u l m a b =
    says_same refl (ap (λ (note : List ℕ). line ++ note) (note_same t a.0 b.0 a.1 b.1)) a.2 b.2

outcome_same : (t : Parts) (o : Outcome (ℕ × Verdict)) (s u : Status) (l m : List ℕ) → SaysOutcome t o s l → SaysOutcome t o u m
    → Same s l u m
outcome_same t outcome.Accepted s u l m a b = noted_same t Accepted (codes "Accepted\n") s u l m a.1 b.1
outcome_same t (outcome.Conflict f) s u l m a b = trial_same t f.0 f.1 s u l m a b
outcome_same t (outcome.Open node goal) s u l m a b = noted_same t Unknown (goal_line (codes "Open") node goal []) s u l m a b
outcome_same t (outcome.Steps node goal) s u l m a b = noted_same t Unknown (goal_line (codes "Steps") node goal []) s u l m a b
outcome_same t (outcome.Coefficient node goal op y z) s u l m a b =
    noted_same t Unknown (goal_line (codes "Coefficient") node goal (op_word op ∷ signed_decimal y ∷ signed_decimal z ∷ [])) s u l m a b
outcome_same t outcome.TooMany s u l m a b = noted_same t Unknown too_many_line s u l m a b

pub check_same : (t : Parts) (effort : Effort) (s u : Status) (l m : List ℕ) → AnswersCheck t effort s l → AnswersCheck t effort u m
    → Same s l u m
check_same t effort s u l m a b =
    let one : a.outcome ≡ b.outcome = outcome_one t (reach_of effort) effort.turns a.outcome b.outcome a.found b.found in
    outcome_same t b.outcome s u l m (subst (λ (o : Outcome (ℕ × Verdict)). SaysOutcome t o s l) one a.says) b.says

-- without a limit no time is over
pub no_limit : (effort : Effort) (s : Status) (l : List ℕ) → effort.seconds ≡ None → RunsOut effort s l → ⊥
no_limit effort s l none r = let both : Some r.seconds ≡ None = sym r.given ∙ none in cc

-- ---- suggest

-- a decision is one
decided_same : (t : Parts) (effort : Effort) (p q : Bool) → Decides t effort p → Decides t effort q → p ≡ q
decided_same t effort p q a b =
    a.is ∙ ap is_accepted (outcome_one t (reach_of effort) effort.turns a.outcome b.outcome a.found b.found) ∙ sym b.is

-- of two first combinations neither is before the other
not_before : (t : Parts) (effort : Effort) (j k : ℕ) → IsFirst (λ (u : Parts) (answer : Bool). Decides u effort answer) t j
    → IsFirst (λ (u : Parts) (answer : Bool). Decides u effort answer) t k → ¬ (j < k)
not_before t effort j k a b before =
    let same : true ≡ false = decided_same (combination t j) effort true false a.accepted (b.others_refused j before) in cc

first_same : (t : Parts) (effort : Effort) (j k : ℕ) → IsFirst (λ (u : Parts) (answer : Bool). Decides u effort answer) t j
    → IsFirst (λ (u : Parts) (answer : Bool). Decides u effort answer) t k → j ≡ k
first_same t effort j k a b =
    let nor = not_before t effort j k a b in
    let later = not_before t effort k j b a in
    omega (arith, nor, later)

found_same : (t : Parts) (effort : Effort) (f g : Option ℕ) (s u : Status) (l m : List ℕ) → SaysSuggestion t effort f s l
    → SaysSuggestion t effort g u m → Same s l u m
found_same t effort None None s u l m a b = says_same refl refl a.1 b.1
found_same t effort None (Some k) s u l m a b =
    let same : true ≡ false =
    decided_same (combination t k) effort true false b.0.accepted (a.0 k b.0.is_one) in cc
found_same t effort (Some j) None s u l m a b =
    let same : true ≡ false =
    decided_same (combination t j) effort true false a.0.accepted (b.0 j a.0.is_one) in cc
found_same t effort (Some j) (Some k) s u l m a b =
    says_same refl (ap (λ (n : ℕ). suggestion_line (choices (hole_count t) n)) (first_same t effort j k a.0 b.0)) a.1 b.1

suggestion_same : (t : Parts) (effort : Effort) (s u : Status) (l m : List ℕ) → effort.seconds ≡ None → AnswersSuggest t effort s l → AnswersSuggest t effort u m
    → Same s l u m
suggestion_same t effort s u l m plain (inl a) (inl b) = says_same refl refl a.1 b.1
suggestion_same t effort s u l m plain (inl a) (inr (inl b)) = let many = a.0 in let few = b.0 in absurd (omega (arith, many, few))
suggestion_same t effort s u l m plain (inr (inl a)) (inl b) = let few = a.0 in let many = b.0 in absurd (omega (arith, many, few))
suggestion_same t effort s u l m plain (inr (inl a)) (inr (inl b)) = found_same t effort a.1 b.1 s u l m a.2 b.2
suggestion_same t effort s u l m plain (inr (inr r)) b = absurd (no_limit effort s l plain r)
suggestion_same t effort s u l m plain (inl a) (inr (inr r)) = absurd (no_limit effort u m plain r)
suggestion_same t effort s u l m plain (inr (inl a)) (inr (inr r)) = absurd (no_limit effort u m plain r)

pub suggests_same : (file : Known) (effort : Effort) (b n c m : ℕ) (s u : Status) (t v : List ℕ) → effort.seconds ≡ None → file ≢ untold → (¬ Rose b n)
    → (¬ Rose c m) → Suggests file effort b n s t → Suggests file effort c m u v → Same s t u v
suggests_same file effort b n c m s u t v plain told no_fault nor_later (inl f) (inl g) =
    refused_same file b n c m s u t v told no_fault nor_later f g
suggests_same file effort b n c m s u t v plain told no_fault nor_later (inl f) (inr g) =
    absurd (task_or_none file c m b n g.task s t told no_fault g.gives f)
suggests_same file effort b n c m s u t v plain told no_fault nor_later (inr f) (inl g) =
    absurd (task_or_none file b n c m f.task u v told nor_later f.gives g)
suggests_same file effort b n c m s u t v plain told no_fault nor_later (inr f) (inr g) =
    suggestion_same g.task effort s u t v plain
    (subst (λ (p : Parts). AnswersSuggest p effort s t) (task_same file b n c m f.task g.task told f.gives g.gives) f.answers)
    g.answers

-- ---- workers

-- what is answered to a task doesn't depend on them
pub fewer_check : (t : Parts) (effort : Effort) (workers : ℕ) (s : Status) (l : List ℕ) →
    let hired : Effort = record effort { workers = workers } in
    AnswersCheck t hired s l → AnswersCheck t effort s l
fewer_check t effort workers s l a = record { outcome = a.outcome; found = a.found; says = a.says }

-- that the time is over doesn't depend on the workers
pub fewer_over : (effort : Effort) (workers : ℕ) (s : Status) (l : List ℕ) →
    let hired : Effort = record effort { workers = workers } in
    RunsOut hired s l → RunsOut effort s l
fewer_over effort workers s l r = record { seconds = r.seconds; given = r.given; says = r.says }

-- what is decided and suggested doesn't depend on the workers
fewer_decides : (t : Parts) (effort : Effort) (workers : ℕ) (answer : Bool) →
    let hired : Effort = record effort { workers = workers } in
    Decides t hired answer → Decides t effort answer
fewer_decides t effort workers answer d = record { outcome = d.outcome; found = d.found; is = d.is; free = d.free }

fewer_found : (t : Parts) (effort : Effort) (workers : ℕ) (found : Option ℕ) (s : Status) (l : List ℕ) →
    let hired : Effort = record effort { workers = workers } in
    SaysSuggestion t hired found s l → SaysSuggestion t effort found s l
fewer_found t effort workers None s l a =
    ((λ k lt. fewer_decides (combination t k) effort workers false (a.0 k lt)), a.1)
fewer_found t effort workers (Some k) s l a = (
  record {
    is_one = a.0.is_one;
    accepted = fewer_decides (combination t k) effort workers true a.0.accepted;
    others_refused = λ j lt. fewer_decides (combination t j) effort workers false (a.0.others_refused j lt);
  },
  a.1,
)

fewer_suggestion : (t : Parts) (effort : Effort) (workers : ℕ) (s : Status) (l : List ℕ) →
    let hired : Effort = record effort { workers = workers } in
    AnswersSuggest t hired s l → AnswersSuggest t effort s l
fewer_suggestion t effort workers s l (inl a) = inl a
fewer_suggestion t effort workers s l (inr (inl a)) = inr (inl (a.0, a.1, fewer_found t effort workers a.1 s l a.2))
fewer_suggestion t effort workers s l (inr (inr r)) = inr (inr (fewer_over effort workers s l r))

pub fewer_suggests : (file : Known) (effort : Effort) (workers b n : ℕ) (s : Status) (l : List ℕ) →
    let hired : Effort = record effort { workers = workers } in
    Suggests file hired b n s l → Suggests file effort b n s l
fewer_suggests file effort workers b n s l (inl f) = inl f
fewer_suggests file effort workers b n s l (inr g) =
    inr (record { task = g.task; gives = g.gives; answers = fewer_suggestion g.task effort workers s l g.answers })
