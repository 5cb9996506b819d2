-- A set that grows within a list is closed after as many rounds as the list is long.
use Rattle.sm_cc.proofs.Imports.{◌≡◌, ◌⊎◌, ◌≤◌, ◌<◌, ℕ, zero, suc, ◌+◌, Bool, true, false, if◌then◌else◌, List, [], ◌∷◌, length, inl, inr, ⊎_elim, refl, sym, ap, subst, ◌∙◌, arith, fun_ext, same_tests}

-- each that is in one set is in another
abbrev pub Below : {X : Type 0} → (X → Bool) → (X → Bool) → Type 0
Below set more = (x : _) → set x ≡ true → more x ≡ true

-- it stands in a list
abbrev pub IsIn : {X : Type 0} → List X → X → Type 0
IsIn [] x = ⊥
IsIn (y ∷ ys) x = (y ≡ x) ⊎ IsIn ys x

-- how many of a list are in a set
abbrev count : {X : Type 0} → (X → Bool) → List X → ℕ
count set [] = 0
count set (x ∷ xs) = if set x then suc (count set xs) else count set xs

-- so many rounds
abbrev pub rounds : {X : Type 0} → ℕ → ((X → Bool) → X → Bool) → (X → Bool) → X → Bool
rounds zero round set = set
rounds (suc n) round set = rounds n round (round set)

-- at most all of them are
one_at_most : (b : Bool) (m n : ℕ) → m ≤ n → (if b then suc m else m) ≤ suc n
one_at_most true m n h = omega arith
one_at_most false m n h = omega arith

-- a count that goes on
one_more : (b c : Bool) (m n : ℕ) → (b ≡ true → c ≡ true) → m ≤ n → (if b then suc m else m) ≤ (if c then suc n else n)
one_more true true m n grows h = omega arith
one_more true false m n grows h = absurd (let no : false ≡ true = grows refl in cc)
one_more false true m n grows h = omega arith
one_more false false m n grows h = h

-- one that is new in a greater set, or none
here_or_none : (b c : Bool) → ((b ≡ false) × (c ≡ true)) ⊎ (c ≡ true → b ≡ true)
here_or_none true c = inr (λ h. refl)
here_or_none false true = inl (refl, refl)
here_or_none false false = inr (λ h. h)

new_here : (b c : Bool) (m n : ℕ) → b ≡ false → c ≡ true → m ≤ n → (if b then suc m else m) < (if c then suc n else n)
new_here true c m n old new h = absurd cc
new_here false true m n old new h = omega arith
new_here false false m n old new h = absurd cc

new_after : (b c : Bool) (m n : ℕ) → (b ≡ true → c ≡ true) → m < n → (if b then suc m else m) < (if c then suc n else n)
new_after true true m n grows h = omega arith
new_after true false m n grows h = absurd (let no : false ≡ true = grows refl in cc)
new_after false true m n grows h = omega arith
new_after false false m n grows h = h

-- where all of them are, each is
all_here : (b : Bool) (m n : ℕ) → m ≤ n → suc n ≤ (if b then suc m else m) → (b ≡ true) × (n ≤ m)
all_here true m n h k = (refl, omega arith)
all_here false m n h k = absurd (omega arith)

module _ (X : Type 0) where
  count_all : (set : X → Bool) (xs : List X) → count set xs ≤ length xs
  count_all set [] = omega arith
  count_all set (x ∷ xs) = one_at_most (set x) (count set xs) (length xs) (count_all set xs)

  -- a greater set has at least as many
  count_grows : (set more : X → Bool) → Below set more → (xs : List X) → count set xs ≤ count more xs
  count_grows set more below [] = omega arith
  count_grows set more below (x ∷ xs) =
      one_more (set x) (more x) (count set xs) (count more xs) (below x) (count_grows set more below xs)

  -- it has more, or no other ones
  more_or_same : (set more : X → Bool) → Below set more → (xs : List X) →
      (count set xs < count more xs) ⊎ ((x : X) → IsIn xs x → more x ≡ true → set x ≡ true)
  more_or_same set more below [] = inr (λ x h k. absurd h)
  more_or_same set more below (y ∷ xs) =
      ⊎_elim
      (λ (h : count set xs < count more xs). inl (new_after (set y) (more y) (count set xs) (count more xs) (below y) h))
      (λ (same : (x : X) → IsIn xs x → more x ≡ true → set x ≡ true).
      ⊎_elim
      (λ (new : (set y ≡ false) × (more y ≡ true)).
      inl (new_here (set y) (more y) (count set xs) (count more xs) new.0 new.1 (count_grows set more below xs)))
      (λ (old : more y ≡ true → set y ≡ true).
      inr (λ (x : X) (h : (y ≡ x) ⊎ IsIn xs x) (k : more x ≡ true).
      ⊎_elim
      (λ (e : y ≡ x). subst (λ (z : X). set z ≡ true) e (old (subst (λ (z : X). more z ≡ true) (sym e) k)))
      (λ (later : IsIn xs x). same x later k) h))
      (here_or_none (set y) (more y)))
      (more_or_same set more below xs)

  -- where all are, each is
  each_of_all : (set : X → Bool) (xs : List X) → length xs ≤ count set xs → (x : X) → IsIn xs x → set x ≡ true
  each_of_all set [] h x k = absurd k
  each_of_all set (y ∷ xs) h x k =
      let here = all_here (set y) (count set xs) (length xs) (count_all set xs) h in
      ⊎_elim (λ (e : y ≡ x). subst (λ (z : X). set z ≡ true) e here.0)
      (λ (later : IsIn xs x). each_of_all set xs here.1 x later) k

  -- a closed set stays as it is
  rounds-closed : (n : ℕ) (round : (X → Bool) → X → Bool) (set : X → Bool) → Below set (round set) → Below (round set) set →
      rounds n round set ≡ set
  rounds-closed zero round set up down = refl
  rounds-closed (suc n) round set up down =
      let same : round set ≡ set = fun_ext (λ (x : X). same_tests (round set x) (set x) (down x) (up x)) in
      ap (rounds n round) same ∙ rounds-closed n round set up down

  -- closed after as many rounds as are lacking
  closed_after : (all : List X) (round : (X → Bool) → X → Bool) →
      ((set : X → Bool) (x : X) → round set x ≡ true → IsIn all x) →
      ((set : X → Bool) → Below (round set) (round (round set))) →
      (n : ℕ) (set : X → Bool) → Below set (round set) → length all ≤ n + count set all →
      Below (round (rounds n round set)) (rounds n round set)
  closed_after all round within grows zero set up few x h =
      each_of_all set all (omega (arith, few)) x (within set x h)
  closed_after all round within grows (suc n) set up few x h =
      let closed : Below (round (rounds n round (round set))) (rounds n round (round set)) =
      ⊎_elim
      (λ (new : count set all < count (round set) all).
      closed_after all round within grows n (round set) (grows set) (omega (arith, few, new)))
      (λ (same : (x : X) → IsIn all x → round set x ≡ true → set x ≡ true).
      let down : Below (round set) set = λ (x : X) (h : round set x ≡ true). same x (within set x h) h in
      subst (λ (s : X → Bool). Below (round s) s) (sym (rounds-closed (suc n) round set up down)) down)
      (more_or_same set (round set) up all) in
      closed x h

  -- closed after as many rounds as the list is long
  pub rounds_closed : (all : List X) (round : (X → Bool) → X → Bool) →
      ((set : X → Bool) (x : X) → round set x ≡ true → IsIn all x) →
      ((set : X → Bool) → Below (round set) (round (round set))) →
      (n : ℕ) → length all ≤ n → (set : X → Bool) → Below set (round set) →
      Below (round (rounds n round set)) (rounds n round set)
  rounds_closed all round within grows n few set up = closed_after all round within grows n set up (omega (arith, few))

  -- rounds stay within what keeps each of them
  pub rounds_within : (round : (X → Bool) → X → Bool) (whole : X → Bool) →
      ((set : X → Bool) → Below set whole → Below (round set) whole) → (n : ℕ) (set : X → Bool) → Below set whole →
      Below (rounds n round set) whole
  rounds_within round whole keeps zero set below = below
  rounds_within round whole keeps (suc n) set below = rounds_within round whole keeps n (round set) (keeps set below)
