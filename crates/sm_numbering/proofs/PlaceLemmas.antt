-- Places of values, where one goes last and where the last goes.
use Rattle.std.proofs.Common.{◌≡◌, ℕ, suc, Bool, true, false, ◌||◌, cond, if◌then◌else◌, Option, Some, None, List, [], ◌∷◌, ◌++◌, length, slice_get, is_some, ◌+◌, arith, refl, sym, ap, ◌∙◌}
use Rattle.std.specs.List.{list_any, position, position_from, AllByRecursion, IsDistinct}
use Rattle.std.proofs.lemmas.Iterator.Adapters.{position_from-zero}
use Rattle.std.specs.Option.{option_map}
use Rattle.std.specs.Map.{lookup}
use Rattle.std.specs.Cmp.{IsEquivalence}
use Rattle.std.proofs.lemmas.Bool.{or_parts}
use Rattle.sm_numbering.specs.Places.{place_of, AreApart}

-- a place, or that of a value that goes last, where it passes
abbrev pub or_last : Option ℕ → Bool → ℕ → Option ℕ
or_last (Some i) b n = Some i
or_last None b n = if b then Some n else None

pub place_last : {T : Type 0} (p : T → Bool) (ts : List T) (v : T) → place_of p (ts ++ v ∷ []) ≡ or_last (place_of p ts) (p v) (length ts)
place_last p [] v = refl
place_last p (t ∷ ts) v = by (p t) (place_of p ts) (place_last p ts v)
  where
    up : (o : Option ℕ) (b : Bool) → option_map (λ (n : ℕ). suc n) (or_last o b (length ts)) ≡ or_last (option_map (λ (n : ℕ). suc n) o) b (suc (length ts))
    up (Some i) b = refl
    up None true = refl
    up None false = refl

    by : (b : Bool) (o : Option ℕ) → place_of p (ts ++ v ∷ []) ≡ or_last o (p v) (length ts) →
        (if b then Some 0 else option_map (λ (n : ℕ). suc n) (place_of p (ts ++ v ∷ [])))
        ≡ or_last (if b then Some 0 else option_map (λ (n : ℕ). suc n) o) (p v) (suc (length ts))
    by true o e = refl
    by false o e = ap (option_map (λ (n : ℕ). suc n)) e ∙ up o (p v)

-- tests that agree have one place
pub same_place : {T : Type 0} (p q : T → Bool) (ts : List T) → ((t : T) → p t ≡ q t) → place_of p ts ≡ place_of q ts
same_place p q [] h = refl
same_place p q (t ∷ ts) h =
    ap (λ (b : Bool). if b then Some 0 else option_map (λ (n : ℕ). suc n) (place_of p ts)) (h t)
    ∙ ap (λ (o : Option ℕ). if q t then Some 0 else option_map (λ (n : ℕ). suc n) o) (same_place p q ts h)

-- no place, where no value passes
pub no_place : {T : Type 0} (p : T → Bool) (ts : List T) → list_any p ts ≡ false → place_of p ts ≡ None
no_place p [] h = refl
no_place p (t ∷ ts) h =
    let both = or_parts (p t) (list_any p ts) h in
    ap (λ (b : Bool). if b then Some 0 else option_map (λ (n : ℕ). suc n) (place_of p ts)) both.0
    ∙ ap (option_map (λ (n : ℕ). suc n)) (no_place p ts both.1)

-- the value at a place passes
abbrev pub Passes : {T : Type 0} → (T → Bool) → List T → ℕ → Type 0
Passes {T} p ts n = (list_any p ts ≡ true) × ((k : T) × (slice_get ts n ≡ Some k) × (p k ≡ true))

pub place_passes : {T : Type 0} (p : T → Bool) (ts : List T) (n : ℕ) → place_of p ts ≡ Some n → Passes p ts n
place_passes p [] n h = absurd cc
place_passes {T} p (t ∷ ts) n h = by (p t) refl (place_of p ts) refl h (place_passes p ts)
  where
    by : (b : Bool) → p t ≡ b → (o : Option ℕ) → place_of p ts ≡ o → (if b then Some 0 else option_map (λ (n : ℕ). suc n) o) ≡ Some n →
        ((m : ℕ) → place_of p ts ≡ Some m → Passes p ts m) → Passes p (t ∷ ts) n
    by true e o f k rest =
        let first : n ≡ 0 = cc in
        (ap (λ (b : Bool). b || list_any p ts) e, (t, ap (slice_get (t ∷ ts)) first, e))
    by false e None f k rest = absurd cc
    by false e (Some m) f k rest =
        let after : n ≡ suc m = cc in
        let there = rest m f in (
          ap (λ (b : Bool). b || list_any p ts) e ∙ there.0,
          (there.1.0, ap (slice_get (t ∷ ts)) after ∙ there.1.1, there.1.2),
        )

module _ {T : Type 0} (eq : T → T → Bool) (laws : IsEquivalence eq) where
  -- a test on the left finds a value that isn't equal to the last one, and none else
  any_last : (p : T → Bool) (ts : List T) (v : T) → list_any p (ts ++ v ∷ []) ≡ false → (list_any p ts ≡ false) × (p v ≡ false)
  any_last p [] v h = (refl, (or_parts (p v) false h).0)
  any_last p (t ∷ ts) v h =
      let both = or_parts (p t) (list_any p (ts ++ v ∷ [])) h in
      let rest = any_last p ts v both.1 in (ap (λ (b : Bool). b || list_any p ts) both.0 ∙ rest.0, rest.1)

  any_put : (p : T → Bool) (ts : List T) (v : T) → list_any p ts ≡ false → p v ≡ false → list_any p (ts ++ v ∷ []) ≡ false
  any_put p [] v h e = ap (λ (b : Bool). b || false) e
  any_put p (t ∷ ts) v h e =
      let both = or_parts (p t) (list_any p ts) h in
      ap (λ (b : Bool). b || list_any p (ts ++ v ∷ [])) both.0 ∙ any_put p ts v both.1 e

  -- of values that are apart the last is equal to none before it
  pub apart_last : (ts : List T) (v : T) → AreApart eq (ts ++ v ∷ []) → AreApart eq ts × (list_any (eq v) ts ≡ false)
  apart_last [] v h = (tt, refl)
  apart_last (t ∷ ts) v h =
      let first = any_last (eq t) ts v h.0 in
      let rest = apart_last ts v h.1 in (
        (first.0, rest.0),
        ap (λ (b : Bool). b || list_any (eq v) ts) (laws.symm v t ∙ first.1) ∙ rest.1,
      )

  pub apart_put : (ts : List T) (v : T) → AreApart eq ts → list_any (eq v) ts ≡ false → AreApart eq (ts ++ v ∷ [])
  apart_put [] v h e = (refl, tt)
  apart_put (t ∷ ts) v h e =
      let both = or_parts (eq v t) (list_any (eq v) ts) e in
      (any_put (eq t) ts v h.0 (laws.symm t v ∙ both.0), apart_put ts v h.1 both.1)

  -- a value that is equal to one that isn't there isn't there
  elsewhere : (ts : List T) (v q : T) → eq q v ≡ true → list_any (eq v) ts ≡ false → place_of (eq q) ts ≡ None
  elsewhere ts v q same new = same_place (eq q) (eq v) ts (λ (t : T). laws.congr q v t same) ∙ no_place (eq v) ts new

  stays : (o : Option ℕ) (b : Bool) (n : ℕ) → b ≡ false → o ≡ or_last o b n
  stays (Some i) b n e = refl
  stays None b n e = sym (ap (λ (c : Bool). if c then Some n else None) e)

  put_there : (o : Option ℕ) (b : Bool) (n : ℕ) → b ≡ true → o ≡ None → Some n ≡ or_last o b n
  put_there o b n e f = sym (ap (λ (x : Option ℕ). or_last x b n) f ∙ ap (λ (c : Bool). if c then Some n else None) e)

  -- the places of values, where one that isn't there goes last, under a key that is equal to it
  pub places_put : (ts : List T) (v k q : T) → eq k v ≡ true → list_any (eq v) ts ≡ false →
      cond (eq k q) (Some (length ts)) (place_of (eq q) ts) ≡ place_of (eq q) (ts ++ v ∷ [])
  places_put ts v k q same new = by (eq k q) refl ∙ sym (place_last (eq q) ts v)
    where
      agree : eq k q ≡ eq q v
      agree = laws.congr k v q same ∙ laws.symm v q

      by : (b : Bool) → eq k q ≡ b → cond b (Some (length ts)) (place_of (eq q) ts) ≡ or_last (place_of (eq q) ts) (eq q v) (length ts)
      by true e = put_there (place_of (eq q) ts) (eq q v) (length ts) (sym agree ∙ e) (elsewhere ts v q (sym agree ∙ e) new)
      by false e = stays (place_of (eq q) ts) (eq q v) (length ts) (sym agree ∙ e)

  -- the places of values, where the last goes
  pub places_cut : (ts : List T) (v q : T) → list_any (eq v) ts ≡ false →
      cond (eq v q) None (place_of (eq q) (ts ++ v ∷ [])) ≡ place_of (eq q) ts
  places_cut ts v q new = by (eq v q) refl
    where
      by : (b : Bool) → eq v q ≡ b → cond b None (place_of (eq q) (ts ++ v ∷ [])) ≡ place_of (eq q) ts
      by true e = sym (elsewhere ts v q (laws.symm q v ∙ e) new)
      by false e = place_last (eq q) ts v ∙ sym (stays (place_of (eq q) ts) (eq q v) (length ts) (laws.symm q v ∙ e))

-- entries looked up by tests that agree
pub same_lookup : {T X : Type 0} (p q : T → Bool) (es : List (T × X)) → ((t : T) → p t ≡ q t) → lookup p es ≡ lookup q es
same_lookup p q [] h = refl
same_lookup {T} {X} p q (e ∷ es) h =
    ap (λ (b : Bool). cond b (Some e.1) (lookup p es)) (h e.0) ∙ ap (λ (o : Option X). cond (q e.0) (Some e.1) o) (same_lookup p q es h)

-- where each value is found at its place, one that is found by a test which agrees with equality is at its place, too
pub found_there : {T : Type 0} (eq : T → T → Bool) (test : T → Bool) → ((x y : T) → test x ≡ true → test y ≡ eq x y) →
    (es : List (T × ℕ)) (ts : List T) → ((q : T) → lookup (eq q) es ≡ place_of (eq q) ts) → (k : T) → test k ≡ true →
    lookup test es ≡ place_of test ts
found_there eq test agrees es ts places k passes =
    same_lookup test (eq k) es (λ t. agrees k t passes) ∙ places k ∙ sym (same_place test (eq k) ts (λ t. agrees k t passes))

-- and one that isn't found is nowhere
pub not_found : {T : Type 0} (eq : T → T → Bool) (test : T → Bool) → ((x y : T) → test x ≡ true → test y ≡ eq x y) →
    (es : List (T × ℕ)) (ts : List T) → ((q : T) → lookup (eq q) es ≡ place_of (eq q) ts) → lookup test es ≡ None →
    None ≡ place_of test ts
not_found {T} eq test agrees es ts places none = by (place_of test ts) refl
  where
    by : (o : Option ℕ) → place_of test ts ≡ o → None ≡ place_of test ts
    by None e = sym e
    by (Some n) e =
        let there = (place_passes test ts n e).1 in
        sym none ∙ found_there eq test agrees es ts places there.0 there.2

-- whether there is a place
pub any_placed : {T : Type 0} (p : T → Bool) (ts : List T) → is_some (place_of p ts) ≡ list_any p ts
any_placed p [] = refl
any_placed p (t ∷ ts) = by (p t) (place_of p ts) (any_placed p ts)
  where
    by : (b : Bool) (o : Option ℕ) → is_some o ≡ list_any p ts →
        is_some (if b then Some 0 else option_map (λ (n : ℕ). suc n) o) ≡ (b || list_any p ts)
    by true o e = refl
    by false (Some n) e = e
    by false None e = e

-- the first place counts from any number on
place_from : {T : Type 0} (p : T → Bool) (ts : List T) (n : ℕ) → option_map (λ (m : ℕ). n + m) (place_of p ts) ≡ position_from p n ts
place_from p [] n = refl
place_from p (t ∷ ts) n = by (p t) (place_of p ts) (place_from p ts (n + 1))
  where
    by : (b : Bool) (o : Option ℕ) → option_map (λ (m : ℕ). (n + 1) + m) o ≡ position_from p (n + 1) ts →
        option_map (λ (m : ℕ). n + m) (if b then Some 0 else option_map (λ (m : ℕ). suc m) o) ≡ cond b (Some n) (position_from p (n + 1) ts)
    by true o e = let none : n + 0 ≡ n = omega arith in ap Some none
    by false (Some m) e = let one : n + suc m ≡ (n + 1) + m = omega arith in ap Some one ∙ e
    by false None e = e

pub place_position : {T : Type 0} (p : T → Bool) (ts : List T) → place_of p ts ≡ position p ts
place_position p ts = by (place_of p ts) (place_from p ts 0) ∙ sym (position_from-zero p ts)
  where
    by : (o : Option ℕ) → option_map (λ (m : ℕ). 0 + m) o ≡ position_from p 0 ts → o ≡ position_from p 0 ts
    by (Some m) e = let none : m ≡ 0 + m = omega arith in ap Some none ∙ e
    by None e = e

-- values that are apart are distinct
unequal : {T : Type 0} (p : T → Bool) (ts : List T) → list_any p ts ≡ false → AllByRecursion (λ (t : T). p t ≡ false) ts
unequal p [] h = tt
unequal p (t ∷ ts) h = let both = or_parts (p t) (list_any p ts) h in (both.0, unequal p ts both.1)

pub distinct : {T : Type 0} (eq : T → T → Bool) (ts : List T) → AreApart eq ts → IsDistinct eq ts
unfolding IsDistinct
distinct eq [] h = tt
distinct eq (t ∷ ts) h = (unequal (eq t) ts h.0, distinct eq ts h.1)
