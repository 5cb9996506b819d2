-- What was looked up and what was answered give each task its reply.
use Rattle.sm_batch.proofs.Imports.{◌≡◌, ℕ, ◌+◌, ◌<◌, suc, Bool, true, false, if◌then◌else◌, Option, Some, None, IfSome, IsSome, is_some, MatchOption, List, [], ◌∷◌, ◌++◌, map, length, All, slice_get, slice_index_or, refl, sym, ap, subst, ◌∙◌, Vec, Global, arith, append_assoc, append-nil, get_or, drop, AllZip, option_map_or, lookup, All-head, All-tail, All-cons, All-nil, nil_from_length, drop_more, ConflictFree, Parts, task_of, HasText, parts_of, Task, Kept, Looked, Step, Answered, IsAnswer, Entry, Entries, IsAccepted, IsKept, key_of, is_key_of, IsLookedUp, IsReply, IsStep, IsKeptOf, IsStepOfHit, IsStepOfAnswer, IsTold, AreTold, missed, misses, entry_of}
use Rattle.sm_batch.specs.Groups.{is_hit}

-- each task that was no hit is one of the tasks
pub missed_all : (P : Task → Type 0) (ts : List Task) (ls : List Looked) → All P ts → All P (missed ts ls)
missed_all P [] ls all = all
missed_all P (t ∷ ts) [] all = All-nil P
missed_all P (t ∷ ts) (l ∷ ls) all = by (is_some l.reply) (missed_all P ts ls (All-tail P t ts all))
  where
    by : (b : Bool) → All P (missed ts ls) → All P (if b then missed ts ls else t ∷ missed ts ls)
    by true rest = rest
    by false rest = All-cons P t (missed ts ls) (All-head P t ts all) rest

-- the tasks that were no hit are as many as the look-ups without a hit
pub missed_length : (ts : List Task) (ls : List Looked) → length ts ≡ length ls → length (missed ts ls) ≡ misses ls
missed_length [] [] same = refl
missed_length [] (l ∷ ls) same = absurd (omega arith)
missed_length (t ∷ ts) [] same = absurd (omega arith)
missed_length (t ∷ ts) (l ∷ ls) same = by (is_some l.reply) (missed_length ts ls (omega arith))
  where
    by : (b : Bool) → length (missed ts ls) ≡ misses ls
        → length (if b then missed ts ls else t ∷ missed ts ls) ≡ (if b then misses ls else 1 + misses ls)
    by true rest = rest
    by false rest = omega arith

-- what is missed from a place on
missed_from : (ts : List Task) (ls : List Looked) (i : ℕ) (t : Task) (l : Looked) → i < length ts → i < length ls
    → t ≡ get_or ts i t → l ≡ get_or ls i l → missed (drop i ts) (drop i ls) ≡ missed (t ∷ drop (i + 1) ts) (l ∷ drop (i + 1) ls)
missed_from ts ls i t l short within task_at look_at =
    ap (λ x. missed x (drop i ls)) (drop_more ts i t short ∙ ap (λ x. x ∷ drop (i + 1) ts) (sym task_at))
    ∙ ap (missed (t ∷ drop (i + 1) ts)) (drop_more ls i l within ∙ ap (λ x. x ∷ drop (i + 1) ls) (sym look_at))

-- a hit isn't missed
pub missed_hit : (front : List Task) (ts : List Task) (ls : List Looked) (i : ℕ) (t : Task) (l : Looked) → i < length ts → i < length ls
    → t ≡ get_or ts i t → l ≡ get_or ls i l → is_some l.reply ≡ true
    → front ++ missed (drop i ts) (drop i ls) ≡ missed ts ls → front ++ missed (drop (i + 1) ts) (drop (i + 1) ls) ≡ missed ts ls
missed_hit front ts ls i t l short within task_at look_at hit so_far =
    let rest = missed (drop (i + 1) ts) (drop (i + 1) ls) in
    sym (ap (λ x. front ++ x) (missed_from ts ls i t l short within task_at look_at ∙ ap (λ b. if b then rest else t ∷ rest) hit)) ∙ so_far

-- as many answers are left as there are no hits left
pub misses_more : (l : Looked) (ls : List Looked) (before after : List Answered) (told : Vec ℕ Global) (s : Step)
    → IsTold l before after told s → misses (l ∷ ls) ≡ length before → misses ls ≡ length after
misses_more l ls before after told s one same = by l.reply one same
  where
    by : (o : Option (Vec ℕ Global))
        → MatchOption o
        ((a : Answered) × (before ≡ a ∷ after) × IsStepOfAnswer l a told s)
        (λ kept. (before ≡ after) × IsStepOfHit l kept told s)
        → (if is_some o then misses ls else 1 + misses ls) ≡ length before → misses ls ≡ length after
    by None one same = let more = ap length one.1 in omega arith
    by (Some kept) one same = same ∙ ap length one.0

-- one more is told
pub told_more : (looked : List Looked) (answers : List Answered) (replies : List (Vec ℕ Global)) (steps : List Step)
    (l : Looked) (ls : List Looked) (before after : List Answered) (told : Vec ℕ Global) (s : Step)
    → IsTold l before after told s
    → ((rs : List (Vec ℕ Global)) (ss : List Step) → AreTold (l ∷ ls) before rs ss → AreTold looked answers (replies ++ rs) (steps ++ ss))
    → (rs : List (Vec ℕ Global)) (ss : List Step) → AreTold ls after rs ss
    → AreTold looked answers ((replies ++ told ∷ []) ++ rs) ((steps ++ s ∷ []) ++ ss)
told_more looked answers replies steps l ls before after told s one so_far rs ss rest =
    let whole = so_far (told ∷ rs) (s ∷ ss) (after, told, rs, s, ss, refl, refl, one, rest) in
    subst (λ (r : List (Vec ℕ Global)). AreTold looked answers r ((steps ++ s ∷ []) ++ ss)) (sym (append_assoc replies (told ∷ []) rs))
    (subst (λ (x : List Step). AreTold looked answers (replies ++ told ∷ rs) x) (sym (append_assoc steps (s ∷ []) ss)) whole)

-- all are told
pub told_end : (looked : List Looked) (answers : List Answered) (replies : List (Vec ℕ Global)) (steps : List Step)
    (ls : List Looked) (left : List Answered) → ls ≡ [] → misses ls ≡ length left
    → ((rs : List (Vec ℕ Global)) (ss : List Step) → AreTold ls left rs ss → AreTold looked answers (replies ++ rs) (steps ++ ss))
    → AreTold looked answers replies steps
told_end looked answers replies steps ls left none same so_far =
    let nothing : left ≡ [] = nil_from_length left (sym same ∙ ap misses none) in
    let end = so_far [] [] (subst (λ (x : List Looked). AreTold x left [] []) (sym none) (nothing, refl, refl)) in
    subst (λ (r : List (Vec ℕ Global)). AreTold looked answers r steps) (append-nil replies)
    (subst (λ (x : List Step). AreTold looked answers (replies ++ []) x) (append-nil steps) end)

module _ (Replies : Parts → List ℕ → Type 0) (Accepts : Parts → Type 0) (takes : Parts → List ℕ → Bool)
    (free : (t : Parts) (c : List ℕ) → HasText t → takes t c ≡ true → ConflictFree (task_of t)) (entries : Entries) where
  abbrev Looks : Task → Looked → Type 0
  Looks = IsLookedUp Replies Accepts takes entries

  abbrev Answers : Task → Answered → Type 0
  Answers = IsAnswer Replies Accepts takes

  abbrev Reply : Task → Vec ℕ Global → Type 0
  Reply = IsReply Replies Accepts takes

  abbrev Does : Task → Step → Type 0
  Does = IsStep Replies Accepts takes entries

  -- a hit is free of conflicts
  hit_free : (t : Parts) → HasText t → is_hit takes entries t ≡ true → ConflictFree (task_of t)
  unfolding is_hit
  hit_free t text hit = by (lookup (is_key_of t) entries) hit
    where
      by : (o : Option Entry) → option_map_or (λ (entry : Entry). takes t entry.cert) o false ≡ true → ConflictFree (task_of t)
      by None never = cc
      by (Some entry) taken = free t entry.cert text taken

  -- a task that was accepted is free of conflicts
  answer_free : (t : Task) (a : Answered) → Answers t a → HasText (parts_of t) → Accepts (parts_of t) → ConflictFree (task_of (parts_of t))
  answer_free t a is text accepted = by a.cert (is.accepts.1 accepted) is.taken
    where
      by : (o : Option (Vec ℕ Global)) → IsSome o → IfSome o (λ c. takes (parts_of t) c.items ≡ true) → ConflictFree (task_of (parts_of t))
      by None some taken = cc
      by (Some c) some taken = free (parts_of t) c.items text taken

  -- what is kept of an answer may be kept
  answer_kept : (t : Task) (a : Answered) → Answers t a → (o : Option Kept) → MatchOption o (a.cert ≡ None) (IsKeptOf a)
      → IfSome o (λ k. IsKept Replies Accepts takes (parts_of t) (entry_of k))
  answer_kept t a is None none = tt
  answer_kept t a is (Some k) kept = record {
    accepted = (is.accepts.0 (subst IsSome (sym kept.some) refl), subst (Replies (parts_of t)) (sym kept.reply) is.reply);
    taken =
        ap (takes (parts_of t)) kept.cert
        ∙ subst (λ o. IfSome o (λ (c : Vec ℕ Global). takes (parts_of t) c.items ≡ true)) kept.some is.taken;
  }

  -- of an accepting answer something may be
  answer_fresh : (t : Task) (a : Answered) → Answers t a → (o : Option Kept) → MatchOption o (a.cert ≡ None) (IsKeptOf a)
      → Accepts (parts_of t) → IsSome o
  answer_fresh t a is None none accepted = let some = is.accepts.1 accepted in cc
  answer_fresh t a is (Some k) kept accepted = refl

  -- a hit: its reply and its step
  hit_told : (t : Task) (l : Looked) (kept reply : Vec ℕ Global) (s : Step) → l.key.items ≡ key_of (parts_of t)
      → true ≡ is_hit takes entries (parts_of t) → IsAccepted Replies Accepts (parts_of t) kept.items
      → IsStepOfHit l kept reply s → Reply t reply × Does t s
  hit_told t l kept reply s key hit accepted step = (
    record {
      is = subst (Replies (parts_of t)) (sym step.reply) accepted.1;
      free = λ text _. hit_free (parts_of t) text (sym hit);
    },
    record {
      key = step.key ∙ key;
      hit = step.hit ∙ hit;
      kept = rw step.none tt;
      none = λ _. step.none;
      some = λ no accepted. let yes = step.hit in cc;
    },
  )

  -- an answer: its reply and its step
  answer_told : (t : Task) (l : Looked) (a : Answered) (reply : Vec ℕ Global) (s : Step) → l.key.items ≡ key_of (parts_of t)
      → false ≡ is_hit takes entries (parts_of t) → Answers t a
      → IsStepOfAnswer l a reply s → Reply t reply × Does t s
  answer_told t l a reply s key hit is step = (
    record {
      is = subst (Replies (parts_of t)) (sym step.reply) is.reply;
      free = answer_free t a is;
    },
    record {
      key = step.key ∙ key;
      hit = step.hit ∙ hit;
      kept = answer_kept t a is s.fresh step.fresh;
      none = λ yes. let no = step.hit in cc;
      some = λ no accepted. answer_fresh t a is s.fresh step.fresh accepted;
    },
  )

  -- all of them
  pub all_told : (ts : List Task) (ls : List Looked) (answers : List Answered) (replies : List (Vec ℕ Global)) (steps : List Step)
      → AllZip Looks ts ls → AllZip Answers (missed ts ls) answers → AreTold ls answers replies steps
      → AllZip Reply ts replies × AllZip Does ts steps
  all_told [] [] answers replies steps looks answered told =
      (subst (AllZip Reply []) (sym told.1) tt, subst (AllZip Does []) (sym told.2) tt)
  all_told [] (l ∷ ls) answers replies steps looks answered told = absurd looks
  all_told (t ∷ ts) [] answers replies steps looks answered told = absurd looks
  all_told (t ∷ ts) (l ∷ ls) answers replies steps looks answered told =
      at l.reply answered told.7 looks.0.hit looks.0.reply (λ others. all_told ts ls told.0 told.2 told.4 looks.1 others told.8)
    where
      more : List Answered
      more = told.0

      reply : Vec ℕ Global
      reply = told.1

      step : Step
      step = told.3

      whole : Reply t reply × Does t step → AllZip Reply ts told.2 × AllZip Does ts told.4
          → AllZip Reply (t ∷ ts) replies × AllZip Does (t ∷ ts) steps
      whole one rest =
          (subst (AllZip Reply (t ∷ ts)) (sym told.5) (one.0, rest.0), subst (AllZip Does (t ∷ ts)) (sym told.6) (one.1, rest.1))

      at : (o : Option (Vec ℕ Global)) → AllZip Answers (if is_some o then missed ts ls else t ∷ missed ts ls) answers
          → MatchOption o
          ((a : Answered) × (answers ≡ a ∷ more) × IsStepOfAnswer l a reply step)
          (λ kept. (answers ≡ more) × IsStepOfHit l kept reply step)
          → is_some o ≡ is_hit takes entries (parts_of t)
          → IfSome o (λ r. IsAccepted Replies Accepts (parts_of t) r.items)
          → (AllZip Answers (missed ts ls) more → AllZip Reply ts told.2 × AllZip Does ts told.4)
          → AllZip Reply (t ∷ ts) replies × AllZip Does (t ∷ ts) steps
      at None others one hit accepted rest =
          let all : AllZip Answers (t ∷ missed ts ls) (one.0 ∷ more) = subst (AllZip Answers (t ∷ missed ts ls)) one.1 others in
          whole (answer_told t l one.0 reply step looks.0.key hit all.0 one.2) (rest all.1)
      at (Some kept) others one hit accepted rest =
          whole (hit_told t l kept reply step looks.0.key hit accepted one.1) (rest (subst (AllZip Answers (missed ts ls)) one.0 others))

-- results that are each right by place are right side by side
pub zip_of_places : {A B : Type 0} (R : A → B → Type 0) (xs : List A) (ys : List B) → length ys ≡ length xs
    → ((k : ℕ) (x : A) (d : B) → slice_get xs k ≡ Some x → R x (slice_index_or ys k d)) → AllZip R xs ys
zip_of_places R [] [] same each = tt
zip_of_places R [] (y ∷ ys) same each = absurd (omega arith)
zip_of_places R (x ∷ xs) [] same each = absurd (omega arith)
zip_of_places R (x ∷ xs) (y ∷ ys) same each =
    (each 0 x y refl, zip_of_places R xs ys (omega arith) (λ k z d at. each (suc k) z d at))

-- no task with the accepting reply has a conflict
pub all_free : (Replies : Parts → List ℕ → Type 0) (Accepts : Parts → Type 0) (takes : Parts → List ℕ → Bool) (ts : List Task)
    (replies : List (Vec ℕ Global)) → All (λ (t : Task). HasText (parts_of t)) ts → AllZip (IsReply Replies Accepts takes) ts replies
    → All (λ (t : Parts). Accepts t → ConflictFree (task_of t)) (map parts_of ts)
all_free Replies Accepts takes [] [] texts all = All-nil (λ (t : Parts). Accepts t → ConflictFree (task_of t))
all_free Replies Accepts takes [] (r ∷ rs) texts all = absurd all
all_free Replies Accepts takes (t ∷ ts) [] texts all = absurd all
all_free Replies Accepts takes (t ∷ ts) (r ∷ rs) texts all =
    All-cons (λ (t : Parts). Accepts t → ConflictFree (task_of t)) (parts_of t) (map parts_of ts)
    (all.0.free (All-head (λ (t : Task). HasText (parts_of t)) t ts texts))
    (all_free Replies Accepts takes ts rs (All-tail (λ (t : Task). HasText (parts_of t)) t ts texts) all.1)

-- what may be answered to tasks is answered to them
pub answers_told : (May Is : Task → Answered → Type 0) → ((t : Task) (a : Answered) → HasText (parts_of t) → May t a → Is t a)
    → (ts : List Task) (answers : List Answered) → All (λ (t : Task). HasText (parts_of t)) ts → AllZip May ts answers → AllZip Is ts answers
answers_told May Is told [] [] texts all = tt
answers_told May Is told [] (a ∷ more) texts all = absurd all
answers_told May Is told (t ∷ ts) [] texts all = absurd all
answers_told May Is told (t ∷ ts) (a ∷ more) texts all = (
  told t a (All-head (λ (t : Task). HasText (parts_of t)) t ts texts) all.0,
  answers_told May Is told ts more (All-tail (λ (t : Task). HasText (parts_of t)) t ts texts) all.1,
)
