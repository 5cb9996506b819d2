-- A set that grows by names of a list alone is closed after as many rounds as the list is long.
use Rattle.sm_deps.proofs.Imports.{◌≡◌, ◌⊎◌, ◌≤◌, ◌<◌, ℕ, zero, suc, Bool, true, false, ◌==◌, ◌||◌, if◌then◌else◌, List, [], ◌∷◌, length, inl, inr, ⊎_elim, refl, sym, ap, subst, ◌∙◌, arith, eqb-true, eq-eqb, or_left, or_right, or_cases, fun_ext, is_in, grown, Below}

-- a set, and what makes sets greater
abbrev Test : Type 0
Test = ℕ → Bool

-- a set that brings nothing new
abbrev pub Closed : (Test → Test) → Test → Type 0
Closed brings set = Below (brings set) set

-- one round
abbrev pub round : (Test → Test) → Test → Test
round brings set x = set x || brings set x

-- what is there stays
pub grown_starts : (n : ℕ) (brings : Test → Test) (set : Test) → Below set (grown n brings set)
grown_starts zero brings set x h = h
grown_starts (suc n) brings set x h = grown_starts n brings (round brings set) x (or_left (set x) (brings set x) h)

-- rounds stay within what keeps each of them
pub grown_within : (n : ℕ) (brings : Test → Test) (set whole : Test) → ((part : Test) → Below part whole → Below (brings part) whole)
    → Below set whole →
    Below (grown n brings set) whole
grown_within zero brings set whole keeps h = h
grown_within (suc n) brings set whole keeps h =
    grown_within n brings (round brings set) whole keeps
    (λ (x : ℕ) (m : round brings set x ≡ true). ⊎_elim (h x) (keeps set h x) (or_cases (set x) (brings set x) m))

-- how many of a list's names a set lacks
abbrev lacking : Test → List ℕ → ℕ
lacking set [] = 0
lacking set (y ∷ rest) = if set y then lacking set rest else suc (lacking set rest)

-- one name of the list more
all_step : (b : Bool) (m n : ℕ) → m ≤ n → (if b then m else suc m) ≤ suc n
all_step true m n more = omega arith
all_step false m n more = omega arith

-- at most all of them
lacking_all : (set : Test) (list : List ℕ) → lacking set list ≤ length list
lacking_all set [] = omega arith
lacking_all set (y ∷ rest) = all_step (set y) (lacking set rest) (length rest) (lacking_all set rest)

-- a count that goes on
fewer_step : (b c : Bool) (m n : ℕ) → (b ≡ true → c ≡ true) → n ≤ m → (if c then n else suc n) ≤ (if b then m else suc m)
fewer_step true true m n grows more = more
fewer_step true false m n grows more = absurd (let no : false ≡ true = grows refl in cc)
fewer_step false true m n grows more = omega arith
fewer_step false false m n grows more = omega arith

-- a greater set lacks no more
fewer : (set more : Test) (list : List ℕ) → Below set more → lacking more list ≤ lacking set list
fewer set more [] h = omega arith
fewer set more (y ∷ rest) h = fewer_step (set y) (more y) (lacking set rest) (lacking more rest) (h y) (fewer set more rest h)

-- a count that loses one here
lost_here : (b c : Bool) (m n : ℕ) → b ≡ false → c ≡ true → n ≤ m → (if c then n else suc n) < (if b then m else suc m)
lost_here true c m n lacked got more = absurd cc
lost_here false true m n lacked got more = omega arith
lost_here false false m n lacked got more = absurd cc

-- a count that loses one later
lost_after : (b c : Bool) (m n : ℕ) → (b ≡ true → c ≡ true) → n < m → (if c then n else suc n) < (if b then m else suc m)
lost_after true true m n grows more = more
lost_after true false m n grows more = absurd (let no : false ≡ true = grows refl in cc)
lost_after false true m n grows more = omega arith
lost_after false false m n grows more = omega arith

-- a greater set with a name more lacks fewer
fewer_by_one : (set more : Test) (list : List ℕ) (y : ℕ) → Below set more → is_in list y ≡ true → set y ≡ false → more y ≡ true
    → lacking more list < lacking set list
fewer_by_one set more [] y h there lacked got = absurd cc
fewer_by_one set more (z ∷ rest) y h there lacked got =
    ⊎_elim
    (λ (here : (y == z) ≡ true).
    let same : y ≡ z = eqb-true y z here in
    lost_here (set z) (more z) (lacking set rest) (lacking more rest) (subst (λ (q : ℕ). set q ≡ false) same lacked)
    (subst (λ (q : ℕ). more q ≡ true) same got) (fewer set more rest h))
    (λ (after : is_in rest y ≡ true).
    lost_after (set z) (more z) (lacking set rest) (lacking more rest) (h z) (fewer_by_one set more rest y h after lacked got))
    (or_cases (y == z) (is_in rest y) there)

-- a name of the list that is new in a greater set, or none
abbrev New : Test → Test → List ℕ → ℕ → Type 0
New set more list y = (is_in list y ≡ true) × (set y ≡ false) × (more y ≡ true)

first_new : (set more : Test) (list : List ℕ)
    → ((y : ℕ) × New set more list y) ⊎ ((y : ℕ) → is_in list y ≡ true → more y ≡ true → set y ≡ true)
first_new set more [] = inr (λ (y : ℕ) (there : false ≡ true) (m : more y ≡ true). absurd cc)
first_new set more (z ∷ rest) =
    ⊎_elim
    (λ (found : (y : ℕ) × New set more rest y).
    inl (found.0, (or_right (found.0 == z) (is_in rest found.0) found.1.0, found.1.1, found.1.2)))
    (λ (none : (y : ℕ) → is_in rest y ≡ true → more y ≡ true → set y ≡ true).
    ⊎_elim
    (λ (kept : more z ≡ true → set z ≡ true).
    inr
    (λ (y : ℕ) (there : is_in (z ∷ rest) y ≡ true) (m : more y ≡ true).
    ⊎_elim
    (λ (here : (y == z) ≡ true).
    let same : y ≡ z = eqb-true y z here in subst (λ (q : ℕ). set q ≡ true) (sym same) (kept (subst (λ (q : ℕ). more q ≡ true) same m)))
    (λ (after : is_in rest y ≡ true). none y after m)
    (or_cases (y == z) (is_in rest y) there)))
    (λ (new : (set z ≡ false) × (more z ≡ true)). inl (z, (or_left (z == z) (is_in rest z) (eq-eqb z z refl), new.0, new.1)))
    (kept_or_new (set z) (more z)))
    (first_new set more rest)
  where
    kept_or_new : (b c : Bool) → (c ≡ true → b ≡ true) ⊎ ((b ≡ false) × (c ≡ true))
    kept_or_new true c = inl (λ (m : c ≡ true). refl)
    kept_or_new false true = inr (refl, refl)
    kept_or_new false false = inl (λ (m : false ≡ true). m)

-- what a set brings stands in the list, whatever greater set it is
abbrev pub From : List ℕ → (Test → Test) → Test → Type 0
From list brings set = (more : Test) → Below set more → (x : ℕ) → brings more x ≡ true → (more x ≡ true) ⊎ (is_in list x ≡ true)

-- either of two tests, where the second brings nothing, is the first
or_same : (b c : Bool) → (c ≡ true → b ≡ true) → (b || c) ≡ b
or_same true c h = refl
or_same false true h = absurd (let no : false ≡ true = h refl in cc)
or_same false false h = refl

-- a closed set doesn't grow
pub grown-closed : (n : ℕ) (brings : Test → Test) (set : Test) → Closed brings set → grown n brings set ≡ set
grown-closed zero brings set closed = refl
grown-closed (suc n) brings set closed =
    let same : round brings set ≡ set = fun_ext (λ (x : ℕ). or_same (set x) (brings set x) (closed x)) in
    ap (λ (t : Test). grown n brings t) same ∙ grown-closed n brings set closed

-- a set that brings no new name of the list is closed
closed_here : (list : List ℕ) (brings : Test → Test) (set : Test) → From list brings set →
    ((y : ℕ) → is_in list y ≡ true → brings set y ≡ true → set y ≡ true) → Closed brings set
closed_here list brings set from none x b =
    ⊎_elim (λ (had : set x ≡ true). had) (λ (listed : is_in list x ≡ true). none x listed b)
    (from set (λ (y : ℕ) (h : set y ≡ true). h) x b)

-- a round that brings one lacks fewer
one_fewer : (list : List ℕ) (brings : Test → Test) (set : Test) (y : ℕ) → New set (brings set) list y
    → lacking (round brings set) list < lacking set list
one_fewer list brings set y new =
    fewer_by_one set (round brings set) list y (λ (x : ℕ) (h : set x ≡ true). or_left (set x) (brings set x) h) new.0 new.1
    (or_right (set y) (brings set y) new.2)

-- closed after as many rounds as names are lacking
closed_after : (list : List ℕ) (brings : Test → Test) (n : ℕ) (set : Test) → From list brings set → lacking set list ≤ n
    → Closed brings (grown n brings set)
closed_after list brings zero set from few =
    ⊎_elim
    (λ (found : (y : ℕ) × New set (brings set) list y). let less = one_fewer list brings set found.0 found.1 in
    absurd (omega (arith, less, few)))
    (λ (none : (y : ℕ) → is_in list y ≡ true → brings set y ≡ true → set y ≡ true). closed_here list brings set from none)
    (first_new set (brings set) list)
closed_after list brings (suc n) set from few =
    let later : From list brings (round brings set) =
    λ (more : Test) (h : Below (round brings set) more).
    from more (λ (y : ℕ) (m : set y ≡ true). h y (or_left (set y) (brings set y) m)) in
    let next : lacking (round brings set) list ≤ n → Closed brings (grown n brings (round brings set)) =
    closed_after list brings n (round brings set) later in
    ⊎_elim
    (λ (found : (y : ℕ) × New set (brings set) list y). let less = one_fewer list brings set found.0 found.1 in
    next (omega (arith, less, few)))
    (λ (none : (y : ℕ) → is_in list y ≡ true → brings set y ≡ true → set y ≡ true).
    let closed : Closed brings set = closed_here list brings set from none in
    subst (Closed brings) (sym (grown-closed (suc n) brings set closed)) closed)
    (first_new set (brings set) list)

-- after as many rounds as the list is long
pub grown_closed : (list : List ℕ) (brings : Test → Test) (set : Test) → From list brings set
    → Closed brings (grown (length list) brings set)
grown_closed list brings set from = closed_after list brings (length list) set from (lacking_all set list)
