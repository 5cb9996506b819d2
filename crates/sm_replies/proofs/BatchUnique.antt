-- Two answers to one list of told files, each without a fault, are equal, where two to one task are.
use Rattle.sm_replies.proofs.Imports.{◌≡◌, ◌≢◌, ◌<◌, ◌⊎◌, inl, inr, ℕ, zero, suc, List, [], ◌∷◌, length, map, get_or, refl, sym, ap, subst, ◌∙◌, arith, AllZip, Contains, Rose, Known, untold, absent, Parts, Same, says_same, refused_same, task_or_none, task_same, not_there, list_same, list_or_none, no_list_same, Line, AnswersFile, IsLineOf, first_line, numbered, status_of_all, FailsToReadOne, AnswersAll, Batches, AnswersCheck, Effort, Status}

same_pair : (l m : Line) → l.0 ≡ m.0 → l.1 ≡ m.1 → l ≡ m
same_pair (s, t) (u, v) p q = rw (p, q) refl

-- where nothing rose, a count that is as it was didn't rise
still : (b n : ℕ) → n ≡ b → (¬ Rose b n) → ¬ Rose b b
still b n same no_fault = subst (λ (m : ℕ). ¬ Rose b m) same no_fault

-- a file that is answered is there
is_there : (file : Known) (effort : Effort) (c : ℕ) (s : Status) (t : List ℕ) → AnswersFile file effort c s t → file ≢ absent
is_there file effort c s t (inl (inl (inl f), able)) e = able f.says.ended
is_there file effort c s t (inl (inl (inr f), able)) e = f.there e
is_there file effort c s t (inl (inr f, able)) e = f.read.there e
is_there file effort c s t (inr (p, f, a)) e = f.read.there e

-- what there is at a place of the first list, has what belongs to it
zip_at : {A B : Type 0} (R : A → B → Type 0) (xs : List A) (ys : List B) (x : A) → AllZip R xs ys → Contains xs x → (y : B) × R x y
zip_at {A = A} {B = B} R xs ys x all (k, within, is) = go xs ys k all within is
  where
    go : (xs : List A) (ys : List B) (k : ℕ) → AllZip R xs ys → k < length xs → get_or xs k x ≡ x → (y : B) × R x y
    go [] ys k all within is = absurd (omega (arith, within))
    go (z ∷ xs) [] k all within is = absurd all
    go (z ∷ xs) (y ∷ ys) zero (first, all) within is = (y, subst (λ (a : A). R a y) is first)
    go (z ∷ xs) (y ∷ ys) (suc k) (first, all) within is = go xs ys k all (omega (arith, within)) is

module _ (check_same : (t : Parts) (effort : Effort) (s u : Status) (l m : List ℕ) → AnswersCheck t effort s l
    → AnswersCheck t effort u m → Same s l u m) where
  file_same : (file : Known) (effort : Effort) (c d : ℕ) (s u : Status) (t v : List ℕ) → file ≢ untold → (¬ Rose c c) → (¬ Rose d d)
      → AnswersFile file effort c s t → AnswersFile file effort d u v → Same s t u v
  file_same file effort c d s u t v told no_fault nor_later (inl (f, able)) (inl (g, also)) =
      refused_same file c c d d s u t v told no_fault nor_later f g
  file_same file effort c d s u t v told no_fault nor_later (inl (f, able)) (inr (q, g, b)) =
      absurd (task_or_none file d d c c q s t told no_fault g f)
  file_same file effort c d s u t v told no_fault nor_later (inr (p, f, a)) (inl (g, also)) =
      absurd (task_or_none file c c d d p u v told nor_later f g)
  file_same file effort c d s u t v told no_fault nor_later (inr (p, f, a)) (inr (q, g, b)) =
      check_same q effort s u t v (subst (λ (r : Parts). AnswersCheck r effort s t) (task_same file c c d d p q told f g) a) b

  line_same : (file : Known) (effort : Effort) (c d : ℕ) (l m : Line) → file ≢ untold → (¬ Rose c c) → (¬ Rose d d)
      → IsLineOf file effort c l → IsLineOf file effort d m → l ≡ m
  line_same file effort c d l m told no_fault nor_later f g =
      let same = file_same file effort c d l.0 m.0 f.text g.text told no_fault nor_later f.answers g.answers in
      same_pair l m same.0 (f.first ∙ ap first_line same.1 ∙ sym g.first)

  lines_same : (files : List ℕ → Known) (effort : Effort) (c d : ℕ) (names : List (List ℕ)) (ls ms : List Line)
      → ((name : List ℕ) → files name ≢ untold) → (¬ Rose c c) → (¬ Rose d d)
      → AllZip (λ (name : List ℕ) (line : Line). IsLineOf (files name) effort c line) names ls
      → AllZip (λ (name : List ℕ) (line : Line). IsLineOf (files name) effort d line) names ms → ls ≡ ms
  lines_same files effort c d [] [] [] told no_fault nor_later f g = refl
  lines_same files effort c d [] [] (m ∷ ms) told no_fault nor_later f g = absurd g
  lines_same files effort c d [] (l ∷ ls) ms told no_fault nor_later f g = absurd f
  lines_same files effort c d (name ∷ names) [] ms told no_fault nor_later f g = absurd f
  lines_same files effort c d (name ∷ names) (l ∷ ls) [] told no_fault nor_later f g = absurd g
  lines_same files effort c d (name ∷ names) (l ∷ ls) (m ∷ ms) told no_fault nor_later (f, fs) (g, gs) =
      let first = line_same (files name) effort c d l m (told name) no_fault nor_later f g in
      let more = lines_same files effort c d names ls ms told no_fault nor_later fs gs in
      rw (first, more) refl

  -- not one of the files fails where each is answered
  one_or_all : (files : List ℕ → Known) (names : List (List ℕ)) (effort : Effort) (b n c m : ℕ) (s u : Status) (t v : List ℕ)
      → (¬ Rose b n) → FailsToReadOne files names b n s t → AnswersAll files names effort c m u v → ⊥
  one_or_all files names effort b n c m s u t v no_fault f g =
      let at = zip_at (λ (name : List ℕ) (line : Line). IsLineOf (files name) effort c line) names g.lines f.name g.each f.named in
      is_there (files f.name) effort c at.0.0 at.1.text at.1.answers (not_there (files f.name) b n s t no_fault f.fails)

  names_same : (files : List ℕ → Known) (names : List (List ℕ)) (effort : Effort) (b n c m : ℕ) (s u : Status) (t v : List ℕ)
      → ((name : List ℕ) → files name ≢ untold) → (¬ Rose b n) → (¬ Rose c m)
      → FailsToReadOne files names b n s t ⊎ AnswersAll files names effort b n s t
      → FailsToReadOne files names c m u v ⊎ AnswersAll files names effort c m u v → Same s t u v
  names_same files names effort b n c m s u t v told no_fault nor_later (inl f) (inl g) = says_same refl refl f.fails.says g.fails.says
  names_same files names effort b n c m s u t v told no_fault nor_later (inl f) (inr g) =
      absurd (one_or_all files names effort b n c m s u t v no_fault f g)
  names_same files names effort b n c m s u t v told no_fault nor_later (inr f) (inl g) =
      absurd (one_or_all files names effort c m b n u s v t nor_later g f)
  names_same files names effort b n c m s u t v told no_fault nor_later (inr f) (inr g) =
      let same =
      lines_same files effort b c names f.lines g.lines told (still b n f.quiet no_fault) (still c m g.quiet nor_later) f.each g.each in
      says_same (ap (λ (ls : List Line). status_of_all (map (λ (l : Line). l.0) ls)) same)
      (ap (λ (ls : List Line). numbered 1 (map (λ (l : Line). l.1) ls)) same) f.says g.says

  pub batches_same : (files : List ℕ → Known) (list : List ℕ) (effort : Effort) (b n c m : ℕ) (s u : Status) (t v : List ℕ)
      → ((name : List ℕ) → files name ≢ untold) → (¬ Rose b n) → (¬ Rose c m) → Batches files list effort b n s t
      → Batches files list effort c m u v → Same s t u v
  batches_same files list effort b n c m s u t v told no_fault nor_later (inl f) (inl g) =
      no_list_same (files list) b n c m s u t v (told list) no_fault nor_later f g
  batches_same files list effort b n c m s u t v told no_fault nor_later (inl f) (inr g) =
      absurd (list_or_none (files list) c g.between b n g.names s t (told list) no_fault g.gives f)
  batches_same files list effort b n c m s u t v told no_fault nor_later (inr f) (inl g) =
      absurd (list_or_none (files list) b f.between c m f.names u v (told list) nor_later f.gives g)
  batches_same files list effort b n c m s u t v told no_fault nor_later (inr f) (inr g) =
      let same = list_same (files list) b f.between c g.between f.names g.names (told list) f.gives g.gives in
      names_same files g.names effort f.between n g.between m s u t v told
      (subst (λ (z : ℕ). ¬ Rose z n) (sym f.gives.read.quiet) no_fault) (subst (λ (z : ℕ). ¬ Rose z m) (sym g.gives.read.quiet) nor_later)
      (subst (λ (ns : List (List ℕ)). FailsToReadOne files ns f.between n s t ⊎ AnswersAll files ns effort f.between n s t) same
      f.answers) g.answers

-- how many workers there are changes nothing

fewer_line : (file : Known) (effort : Effort) (workers c : ℕ) (l : Line) → IsLineOf file (record effort { workers = workers }) c l
    → IsLineOf file effort c l
fewer_line file effort workers c l h = record { text = h.text; answers = go h.answers; first = h.first }
  where
    go : AnswersFile file (record effort { workers = workers }) c l.0 h.text → AnswersFile file effort c l.0 h.text
    go (inl f) = inl f
    go (inr (t, gives, a)) = inr (t, gives, record { outcome = a.outcome; found = a.found; says = a.says })

fewer_lines : (files : List ℕ → Known) (effort : Effort) (workers c : ℕ) (names : List (List ℕ)) (ls : List Line)
    → AllZip (λ (name : List ℕ) (line : Line). IsLineOf (files name) (record effort { workers = workers }) c line) names ls
    → AllZip (λ (name : List ℕ) (line : Line). IsLineOf (files name) effort c line) names ls
fewer_lines files effort workers c [] [] h = h
fewer_lines files effort workers c [] (l ∷ ls) h = h
fewer_lines files effort workers c (name ∷ names) [] h = h
fewer_lines files effort workers c (name ∷ names) (l ∷ ls) (h, more) =
    (fewer_line (files name) effort workers c l h, fewer_lines files effort workers c names ls more)

pub fewer_batches : (files : List ℕ → Known) (list : List ℕ) (effort : Effort) (workers b n : ℕ) (s : Status) (t : List ℕ)
    → Batches files list (record effort { workers = workers }) b n s t → Batches files list effort b n s t
fewer_batches files list effort workers b n s t (inl f) = inl f
fewer_batches files list effort workers b n s t (inr f) =
    inr (record { names = f.names; between = f.between; gives = f.gives; answers = go f.answers })
  where
    go : FailsToReadOne files f.names f.between n s t ⊎ AnswersAll files f.names (record effort { workers = workers }) f.between n s t
        → FailsToReadOne files f.names f.between n s t ⊎ AnswersAll files f.names effort f.between n s t
    go (inl h) = inl h
    go (inr h) = inr (record {
      quiet = h.quiet;
      lines = h.lines;
      each = fewer_lines files effort workers f.between f.names h.lines h.each;
      says = h.says;
    })
