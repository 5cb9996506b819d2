-- The rounds come to an end: one that changes anything drops a template. Under the kept choice each goal that a site asks closes.
use Rattle.sm_houdini.proofs.Imports.{◌≡◌, ◌⊎◌, inl, inr, ℕ, zero, suc, ◌+◌, ◌==◌, ◌≤◌, ◌<◌, Bool, true, false, not, ◌||◌, if◌then◌else◌, List, [], ◌∷◌, length, refl, sym, ap, ◌∙◌, subst, arith, ⊎_elim, option_to_list, list_all, length-append, length-map, and_parts, and_from, nat_tests, Decides-eqb, Copy, Parts, task_of, Assertion, at_stores, all_at_stores, SymbolicStore, Fault, obligations, Choice, chosen_at, picked, templates, plan_of, full_choice, AllAskChosen, AllClose, AllOwnedClose, KeptIsInductive, AsksChosen, owner_of, dues_of, is_site, closes_if, holds_at, numbers_kept, sites_kept, next_round, total, same_numbers, same_choice, settled, kept}
use Rattle.std.proofs.Common.{Option, Some, None, Result, Ok, Err, slice_get}
use Rattle.sm_plan.specs.Plans.{Due}
use Rattle.sm_houdini.specs.Rounds.{dues_in}
use Rattle.sm_houdini.proofs.OwnersLemmas.{owners_ask}

-- lists of numbers that the test finds the same are equal
numbers_same : (ms ns : List ℕ) → same_numbers ms ns ≡ true → ms ≡ ns
numbers_same [] [] e = refl
numbers_same [] (n ∷ ns) e = absurd cc
numbers_same (m ∷ ms) [] e = absurd cc
numbers_same (m ∷ ms) (n ∷ ns) e =
    let both = and_parts (m == n) (same_numbers ms ns) e in
    let first : m ≡ n = (Decides-eqb m n).0 both.0 in
    let rest = numbers_same ms ns both.1 in
    λ i. first i ∷ rest i

pub same_choices : (xs ys : Choice) → same_choice xs ys ≡ true → xs ≡ ys
same_choices [] [] e = refl
same_choices [] (ns ∷ ys) e = absurd cc
same_choices (ms ∷ xs) [] e = absurd cc
same_choices (ms ∷ xs) (ns ∷ ys) e =
    let both = and_parts (same_numbers ms ns) (same_choice xs ys) e in
    let first = numbers_same ms ns both.0 in
    let rest = same_choices xs ys both.1 in
    λ i. first i ∷ rest i

numbers_themselves : (ns : List ℕ) → same_numbers ns ns ≡ true
numbers_themselves [] = refl
numbers_themselves (n ∷ ns) = and_from (n == n) (same_numbers ns ns) (itself n) (numbers_themselves ns)
  where
    itself : (m : ℕ) → (m == m) ≡ true
    itself m = grind (arith, nat_tests)

choice_itself : (xs : Choice) → same_choice xs xs ≡ true
choice_itself [] = refl
choice_itself (ns ∷ xs) = and_from (same_numbers ns ns) (same_choice xs xs) (numbers_themselves ns) (choice_itself xs)

-- all numbers are kept, or fewer are
numbers_fewer : (passes : ℕ → Bool) (i : ℕ) (ns : List ℕ) →
    (numbers_kept passes i ns ≡ ns) ⊎ (length (numbers_kept passes i ns) < length ns)
numbers_fewer passes i [] = inl refl
numbers_fewer passes i (n ∷ ns) = by (passes i) (numbers_fewer passes (suc i) ns)
  where
    by : (b : Bool) → (numbers_kept passes (suc i) ns ≡ ns) ⊎ (length (numbers_kept passes (suc i) ns) < length ns) →
        ((if b then n ∷ numbers_kept passes (suc i) ns else numbers_kept passes (suc i) ns) ≡ n ∷ ns)
        ⊎ (length (if b then n ∷ numbers_kept passes (suc i) ns else numbers_kept passes (suc i) ns) < suc (length ns))
    by true (inl e) = inl (ap (λ (l : List ℕ). n ∷ l) e)
    by true (inr h) = inr (omega (arith, h))
    by false (inl e) =
        inr (let same : length (numbers_kept passes (suc i) ns) ≡ length ns = ap (λ (l : List ℕ). length l) e in omega (arith, same))
    by false (inr h) = inr (omega (arith, h))

sites_fewer : (passes : ℕ → ℕ → Bool) (s : ℕ) (xs : Choice) →
    (sites_kept passes s xs ≡ xs) ⊎ (total (sites_kept passes s xs) < total xs)
sites_fewer passes s [] = inl refl
sites_fewer passes s (ns ∷ xs) =
    by (numbers_kept (passes s) 0 ns) (sites_kept passes (suc s) xs) (numbers_fewer (passes s) 0 ns) (sites_fewer passes (suc s) xs)
  where
    by : (few : List ℕ) (rest : Choice) → (few ≡ ns) ⊎ (length few < length ns) → (rest ≡ xs) ⊎ (total rest < total xs) →
        (few ∷ rest ≡ ns ∷ xs) ⊎ (length few + total rest < length ns + total xs)
    by few rest (inl e) (inl f) = inl (λ i. e i ∷ f i)
    by few rest (inl e) (inr h) =
        inr (let same : length few ≡ length ns = ap (λ (l : List ℕ). length l) e in omega (arith, same, h))
    by few rest (inr h) (inl f) = inr (let same : total rest ≡ total xs = ap total f in omega (arith, same, h))
    by few rest (inr h) (inr g) = inr (omega (arith, h, g))

-- rounds that drop a template where they change anything come to an end
module _ (next : Choice → Choice) (fewer : (xs : Choice) → (next xs ≡ xs) ⊎ (total (next xs) < total xs)) where
  settled_stays : (n : ℕ) (xs : Choice) → total xs ≤ n → next (settled next n xs) ≡ settled next n xs
  settled_stays zero xs room =
      ⊎_elim (λ (e : next xs ≡ xs). e) (λ (h : total (next xs) < total xs). absurd (omega (arith, h, room))) (fewer xs)
  settled_stays (suc n) xs room = by (same_choice (next xs) xs) refl (fewer xs) (settled_stays n (next xs))
    where
      by : (b : Bool) → same_choice (next xs) xs ≡ b → (next xs ≡ xs) ⊎ (total (next xs) < total xs) →
          (total (next xs) ≤ n → next (settled next n (next xs)) ≡ settled next n (next xs)) →
          next (if b then xs else settled next n (next xs)) ≡ (if b then xs else settled next n (next xs))
      by true e f later = same_choices (next xs) xs e
      by false e (inl f) later = absurd (different (sym (subst (λ (ys : Choice). same_choice ys xs ≡ false) f e) ∙ choice_itself xs))
        where
          different : false ≡ true → ⊥
          different h = absurd cc
      by false e (inr h) later = later (omega (arith, h, room))

-- each round keeps all or fewer
next_fewer : (closes : List Assertion → Assertion → Bool) (t : Parts) (xs : Choice) →
    (next_round closes t xs ≡ xs) ⊎ (total (next_round closes t xs) < total xs)
next_fewer closes t xs = sites_fewer (holds_at closes (owner_of t) (dues_of t xs)) 0 xs

pub kept_settled : (closes : List Assertion → Assertion → Bool) (t : Parts) → next_round closes t (kept closes t) ≡ kept closes t
kept_settled closes t =
    settled_stays (next_round closes t) (next_fewer closes t) (total (full_choice t)) (full_choice t) (omega arith)

-- where all numbers are kept, each place passes
numbers_pass : (passes : ℕ → Bool) (i : ℕ) (ns : List ℕ) → numbers_kept passes i ns ≡ ns → (j : ℕ) → j < length ns →
    passes (i + j) ≡ true
numbers_pass passes i [] e j less = absurd (omega (arith, less))
numbers_pass passes i (n ∷ ns) e j less =
    by (passes i) refl e (numbers_fewer passes (suc i) ns) j less
    (λ (f : numbers_kept passes (suc i) ns ≡ ns) (m : ℕ) (h : m < length ns). numbers_pass passes (suc i) ns f m h)
  where
    few_of : (l : List ℕ) → (l ≡ ns) ⊎ (length l < length ns) → l ≡ n ∷ ns → ⊥
    few_of l (inl f) g =
        let one : length l ≡ length ns = ap (λ (m : List ℕ). length m) f in
        let other : length l ≡ suc (length ns) = ap (λ (m : List ℕ). length m) g in
        omega (arith, one, other)
    few_of l (inr h) g =
        let other : length l ≡ suc (length ns) = ap (λ (m : List ℕ). length m) g in omega (arith, h, other)

    tail_of : List ℕ → List ℕ
    tail_of [] = []
    tail_of (m ∷ ms) = ms

    by : (b : Bool) → passes i ≡ b → (if b then n ∷ numbers_kept passes (suc i) ns else numbers_kept passes (suc i) ns) ≡ n ∷ ns →
        (numbers_kept passes (suc i) ns ≡ ns) ⊎ (length (numbers_kept passes (suc i) ns) < length ns) → (k : ℕ) → k < suc (length ns) →
        ((numbers_kept passes (suc i) ns ≡ ns) → (m : ℕ) → m < length ns → passes (suc i + m) ≡ true) → passes (i + k) ≡ true
    by true p f fewer zero h later = let same : i + 0 ≡ i = omega arith in ap passes same ∙ p
    by true p f fewer (suc k) h later =
        let same : i + suc k ≡ suc i + k = omega arith in ap passes same ∙ later (ap tail_of f) k (omega (arith, h))
    by false p f fewer k h later = absurd (few_of (numbers_kept passes (suc i) ns) fewer f)

sites_pass : (passes : ℕ → ℕ → Bool) (s : ℕ) (xs : Choice) → sites_kept passes s xs ≡ xs → (m j : ℕ) → j < length (chosen_at xs m) →
    passes (s + m) j ≡ true
sites_pass passes s [] e m j less = absurd (omega (arith, less))
sites_pass passes s (ns ∷ xs) e zero j less =
    let same : s + 0 ≡ s = omega arith in
    let place : 0 + j ≡ j = omega arith in
    ap (λ (n : ℕ). passes n j) same
    ∙ (ap (passes s) (sym place) ∙ numbers_pass (passes s) 0 ns (ap (λ (ys : Choice). chosen_at ys 0) e) j less)
sites_pass passes s (ns ∷ xs) e (suc m) j less =
    let same : s + suc m ≡ suc s + m = omega arith in
    ap (λ (n : ℕ). passes n j) same ∙ sites_pass passes (suc s) xs (ap tail_of e) m j less
  where
    tail_of : Choice → Choice
    tail_of [] = []
    tail_of (ys ∷ rest) = rest

-- goals each of which closes
all_close : (closes : Assertion → Bool) (gs : List Assertion) (n : ℕ) → length gs ≤ n →
    ((j : ℕ) → j < n → closes_if closes (slice_get gs j) ≡ true) → AllClose closes gs
all_close closes [] n room each = tt
all_close closes (g ∷ gs) zero room each = absurd (omega (arith, room))
all_close closes (g ∷ gs) (suc n) room each = (
  each 0 (omega arith),
  all_close closes gs n (omega (arith, room)) (λ (j : ℕ) (h : j < n). each (suc j) (omega (arith, h))),
)

-- no more templates are picked than numbers are there
picked_few : (ts : List Assertion) (ns : List ℕ) → length (picked ts ns) ≤ length ns
picked_few ts [] = omega arith
picked_few ts (n ∷ ns) =
    let rest = picked_few ts ns in
    let whole = length-append (option_to_list (slice_get ts n)) (picked ts ns) in
    omega (arith, rest, whole, one (slice_get ts n))
  where
    one : (o : Option Assertion) → length (option_to_list o) ≤ 1
    one None = omega arith
    one (Some f) = omega arith

few_asked : (ts : List Assertion) (ns : List ℕ) (goals : List Assertion) →
    ((stores : Copy → SymbolicStore) × (goals ≡ all_at_stores stores (picked ts ns))) → length goals ≤ length ns
few_asked ts ns goals h =
    let same : length goals ≡ length (picked ts ns) =
    ap (λ (gs : List Assertion). length gs) h.1 ∙ length-map (picked ts ns) (at_stores h.0) in
    omega (arith, same, picked_few ts ns)

module _ (closes : List Assertion → Assertion → Bool) (t : Parts) (choice : Choice) where
  -- whether the j-th goal of a site closes in an obligation
  abbrev is_closed : ℕ → ℕ → Due → Bool
  is_closed s j d = not (is_site (owner_of t d) s) || closes_if (closes d.facts) (slice_get d.goals j)

  own_closes : (s j : ℕ) (d : Due) → owner_of t d ≡ Some s → is_closed s j d ≡ true →
      closes_if (closes d.facts) (slice_get d.goals j) ≡ true
  own_closes s j d own h =
      so (s == s) (closes_if (closes d.facts) (slice_get d.goals j)) (itself s)
      (subst (λ (o : Option ℕ). (not (is_site o s) || closes_if (closes d.facts) (slice_get d.goals j)) ≡ true) own h)
    where
      itself : (m : ℕ) → (m == m) ≡ true
      itself m = grind (arith, nat_tests)

      so : (a b : Bool) → a ≡ true → (not a || b) ≡ true → b ≡ true
      so true b e g = g
      so false b e g = absurd cc

  asked_few : (s : ℕ) (d : Due) → AsksChosen t choice s d → length d.goals ≤ length (chosen_at choice s)
  asked_few s d h = few_asked (templates t s) (chosen_at choice s) d.goals (h.state.stores, h.goals)

  owned_close : (ds : List Due) → ((s j : ℕ) → j < length (chosen_at choice s) → list_all (is_closed s j) ds ≡ true) →
      AllAskChosen t choice ds → AllOwnedClose closes t ds
  owned_close [] each asks = tt
  owned_close (d ∷ ds) each asks = (
    λ (s : ℕ) (own : owner_of t d ≡ Some s).
        all_close (closes d.facts) d.goals (length (chosen_at choice s)) (asked_few s d (asks.0 s own))
        (λ (j : ℕ) (h : j < length (chosen_at choice s)).
        own_closes s j d own (and_parts (is_closed s j d) (list_all (is_closed s j) ds) (each s j h)).0),
    owned_close ds
        (λ (s j : ℕ) (h : j < length (chosen_at choice s)). (and_parts (is_closed s j d) (list_all (is_closed s j) ds) (each s j h)).1) asks.1,
  )

  -- a choice that another round leaves as it is
  settled_closes : next_round closes t choice ≡ choice → AllOwnedClose closes t (dues_of t choice)
  settled_closes e =
      owned_close (dues_of t choice)
      (λ (s j : ℕ) (h : j < length (chosen_at choice s)).
      let same : s ≡ 0 + s = omega arith in
      ap (λ (n : ℕ). holds_at closes (owner_of t) (dues_of t choice) n j) same
      ∙ sites_pass (holds_at closes (owner_of t) (dues_of t choice)) 0 choice e s j h)
      (asks (obligations (task_of t) (plan_of t choice)) refl)
    where
      asks : (r : Result (List Due) Fault) → obligations (task_of t) (plan_of t choice) ≡ r → AllAskChosen t choice (dues_in r)
      asks (Err w) e = tt
      asks (Ok ds) e = owners_ask t choice ds e

pub kept_inductive : KeptIsInductive
kept_inductive closes t =
    let settles = kept_settled closes t in (settles, settled_closes closes t (kept closes t) settles)
