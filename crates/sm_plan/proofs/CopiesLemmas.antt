-- Values for each copy, sets of copies and their subsets.
use Rattle.sm_plan.proofs.Imports.{◌≡◌, ◌⊎◌, Bool, true, false, ◌&&◌, ◌||◌, cond, List, [], ◌∷◌, ◌++◌, map, inl, inr, refl, ap, sym, ◌∙◌, subst, filter, flat_map, and_parts, cases_Bool, Copy, O, A, B, M, Copies, each, has, with_copy, copies_that, is_inhabited, choices, all_subsets, subsets}

-- what holds of new values for one copy, and of the old ones for each copy
pub one_copy : {X Y : Type 0} (P : X → Y → Copy → Type 0) (f : Copy → X) (g : Copy → Y) (c : Copy) (v : X) (w : Y) → P v w c
    → ((d : Copy) → P (f d) (g d) d) →
    (d : Copy) → P (with_copy f c v d) (with_copy g c w d) d
one_copy P f g O v w new old O = new
one_copy P f g O v w new old A = old A
one_copy P f g O v w new old B = old B
one_copy P f g O v w new old M = old M
one_copy P f g A v w new old O = old O
one_copy P f g A v w new old A = new
one_copy P f g A v w new old B = old B
one_copy P f g A v w new old M = old M
one_copy P f g B v w new old O = old O
one_copy P f g B v w new old A = old A
one_copy P f g B v w new old B = new
one_copy P f g B v w new old M = old M
one_copy P f g M v w new old O = old O
one_copy P f g M v w new old A = old A
one_copy P f g M v w new old B = old B
one_copy P f g M v w new old M = new

-- a test of each copy, at one
pub each_true : (test : Copy → Bool) → each test ≡ true → (c : Copy) → test c ≡ true
each_true test all c =
    let first = and_parts (test O) (test A && (test B && test M)) all in
    let second = and_parts (test A) (test B && test M) first.1 in
    let third = and_parts (test B) (test M) second.1 in
    at first.0 second.0 third.0 third.1 c
  where
    at : test O ≡ true → test A ≡ true → test B ≡ true → test M ≡ true → (d : Copy) → test d ≡ true
    at o a b m O = o
    at o a b m A = a
    at o a b m B = b
    at o a b m M = m

-- the copies that pass a test are those that do
pub has_that : (test : Copy → Bool) (c : Copy) → has (copies_that test) c ≡ test c
has_that test O = refl
has_that test A = refl
has_that test B = refl
has_that test M = refl

-- a set with a copy
pub inhabited_by : (set : Copies) (c : Copy) → has set c ≡ true → is_inhabited set ≡ true
inhabited_by set c h = by set.base set.variant_a set.variant_b set.candidate c h
  where
    by : (o a b m : Bool) (d : Copy) → has (record { base = o; variant_a = a; variant_b = b; candidate = m }) d ≡ true
        → (o || (a || (b || m))) ≡ true
    by true a b m d g = refl
    by false true b m d g = refl
    by false false true m d g = refl
    by false false false true d g = refl
    by false false false false O g = g
    by false false false false A g = g
    by false false false false B g = g
    by false false false false M g = g

-- some copy passes a test, or none does
pub some_or_none : (test : Copy → Bool) → ((c : Copy) × (test c ≡ true)) ⊎ ((c : Copy) → test c ≡ false)
some_or_none test = first (cases_Bool (test O)) (cases_Bool (test A)) (cases_Bool (test B)) (cases_Bool (test M))
  where
    none : test O ≡ false → test A ≡ false → test B ≡ false → test M ≡ false → (d : Copy) → test d ≡ false
    none o a b m O = o
    none o a b m A = a
    none o a b m B = b
    none o a b m M = m

    first : (test O ≡ true) ⊎ (test O ≡ false) → (test A ≡ true) ⊎ (test A ≡ false) → (test B ≡ true) ⊎ (test B ≡ false)
        → (test M ≡ true) ⊎ (test M ≡ false) →
        ((c : Copy) × (test c ≡ true)) ⊎ ((c : Copy) → test c ≡ false)
    first (inl o) a b m = inl (O, o)
    first (inr o) (inl a) b m = inl (A, a)
    first (inr o) (inr a) (inl b) m = inl (B, b)
    first (inr o) (inr a) (inr b) (inl m) = inl (M, m)
    first (inr o) (inr a) (inr b) (inr m) = inr (none o a b m)

-- x stands in a list
abbrev pub In : {T : Type 0} → T → List T → Type 0
In x [] = ⊥
In x (y ∷ ys) = (y ≡ x) ⊎ In x ys

-- in the first of two lists
pub in_left : {T : Type 0} (x : T) (ys zs : List T) → In x ys → In x (ys ++ zs)
in_left x [] zs h = elim h [ ]
in_left x (y ∷ ys) zs (inl e) = inl e
in_left x (y ∷ ys) zs (inr h) = inr (in_left x ys zs h)

-- in the second
pub in_right : {T : Type 0} (x : T) (ys zs : List T) → In x zs → In x (ys ++ zs)
in_right x [] zs h = h
in_right x (y ∷ ys) zs h = inr (in_right x ys zs h)

-- among images
pub in_map : {T U : Type 0} (f : T → U) (x : T) (ys : List T) → In x ys → In (f x) (map f ys)
in_map f x [] h = elim h [ ]
in_map f x (y ∷ ys) (inl e) = inl (ap f e)
in_map f x (y ∷ ys) (inr h) = inr (in_map f x ys h)

-- among what the elements give
pub in_flat_map : {T U : Type 0} (f : T → List U) (x : T) (u : U) (ys : List T) → In x ys → In u (f x) → In u (flat_map f ys)
in_flat_map f x u [] h g = elim h [ ]
in_flat_map f x u (y ∷ ys) (inl e) g = in_left u (f y) (flat_map f ys) (subst (λ z. In u (f z)) (sym e) g)
in_flat_map f x u (y ∷ ys) (inr h) g = in_right u (f y) (flat_map f ys) (in_flat_map f x u ys h g)

-- among those that pass
pub in_filter : {T : Type 0} (test : T → Bool) (x : T) (ys : List T) → In x ys → test x ≡ true → In x (filter test ys)
in_filter test x [] h passes = elim h [ ]
in_filter {T} test x (y ∷ ys) (inl e) passes = here (test y) (ap test e ∙ passes)
  where
    here : (b : Bool) → b ≡ true → In x (cond b (y ∷ filter test ys) (filter test ys))
    here true g = inl e
    here false g = absurd cc
in_filter {T} test x (y ∷ ys) (inr h) passes = there (test y) (in_filter test x ys h passes)
  where
    there : (b : Bool) → In x (filter test ys) → In x (cond b (y ∷ filter test ys) (filter test ys))
    there true g = inr g
    there false g = g

-- what a subset may say of a copy
in_choices : (b v : Bool) → (v ≡ true → b ≡ true) → In v (choices b)
in_choices false false h = inl refl
in_choices false true h = let e = h refl in absurd cc
in_choices true false h = inl refl
in_choices true true h = inr (inl refl)

-- each subset with a copy is among the subsets
pub in_subsets : (set v : Copies) → ((c : Copy) → has v c ≡ true → has set c ≡ true) → is_inhabited v ≡ true → In v (subsets set)
in_subsets set v within some =
    in_filter is_inhabited v (all_subsets set)
    (in_flat_map _ v.candidate v (choices set.candidate) (in_choices set.candidate v.candidate (within M))
    (in_flat_map _ v.variant_b v (choices set.variant_b) (in_choices set.variant_b v.variant_b (within B))
    (in_flat_map _ v.variant_a v (choices set.variant_a) (in_choices set.variant_a v.variant_a (within A))
    (in_map (λ (o : Bool). record { base = o; variant_a = v.variant_a; variant_b = v.variant_b; candidate = v.candidate }) v.base
    (choices set.base) (in_choices set.base v.base (within O))))))
    some
