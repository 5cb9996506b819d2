-- What is kept is the choice of a round, and each template that isn't kept was refuted in a round.
use Rattle.sm_houdini.proofs.Imports.{◌≡◌, ◌⊎◌, inl, inr, ℕ, zero, suc, ◌+◌, ◌==◌, ◌<◌, Bool, true, false, not, ◌&&◌, ◌||◌, if◌then◌else◌, List, [], ◌∷◌, ◌++◌, length, refl, sym, ap, ◌∙◌, subst, arith, unwrap_or, option_to_list, list_all, range_with_len, nat_tests, Decides-eqb, same_Some, is_in, Parts, task_of, Assertion, at_stores, Fault, obligations, Each, Choice, chosen_at, picked, all_chosen, sites_of, templates, plan_of, full_choice, sketch_of, AllAskChosen, round_at, IsRefuted, DroppedAreRefuted, AsksChosen, owner_of, dues_of, is_site, closes_if, holds_at, numbers_kept, sites_kept, next_round, total, same_choice, settled, kept, or_right, or_left, or_from, itself}
use Rattle.std.proofs.Common.{Option, Some, None, Result, Ok, Err, map, slice_get}
use Rattle.sm_plan.specs.Plans.{Due}
use Rattle.sm_houdini.specs.Rounds.{dues_in}
use Rattle.sm_houdini.proofs.OwnersLemmas.{owners_ask}

-- rounds from a round end with one
module _ (closes : List Assertion → Assertion → Bool) (t : Parts) where
  settled_round : (n r : ℕ) → (m : ℕ) × (settled (next_round closes t) n (round_at closes t r) ≡ round_at closes t m)
  settled_round zero r = (r, refl)
  settled_round (suc n) r = by (same_choice (round_at closes t (suc r)) (round_at closes t r)) (settled_round n (suc r))
    where
      by : (b : Bool) → (m : ℕ) × (settled (next_round closes t) n (round_at closes t (suc r)) ≡ round_at closes t m) →
          (m : ℕ) × ((if b then round_at closes t r else settled (next_round closes t) n (round_at closes t (suc r))) ≡ round_at closes t m)
      by true later = (r, refl)
      by false later = later

-- the numbers that are kept at a site
pub sites_at : (passes : ℕ → ℕ → Bool) (s : ℕ) (xs : Choice) (m : ℕ) →
    chosen_at (sites_kept passes s xs) m ≡ numbers_kept (passes (s + m)) 0 (chosen_at xs m)
sites_at passes s [] m = refl
sites_at passes s (ns ∷ xs) zero =
    let same : s ≡ s + 0 = omega arith in ap (λ (n : ℕ). numbers_kept (passes n) 0 ns) same
sites_at passes s (ns ∷ xs) (suc m) =
    let same : suc s + m ≡ s + suc m = omega arith in
    sites_at passes (suc s) xs m ∙ ap (λ (n : ℕ). numbers_kept (passes n) 0 (chosen_at xs m)) same

-- all templates are chosen at first
full_at : (sites : List (List Assertion)) (s : ℕ) →
    chosen_at (all_chosen sites) s ≡ range_with_len 0 (length (unwrap_or (slice_get sites s) []))
full_at [] s = refl
full_at (ts ∷ sites) zero = refl
full_at (ts ∷ sites) (suc s) = full_at sites s

range_has : (k len n : ℕ) → n < len → is_in (range_with_len k len) (k + n) ≡ true
range_has k zero n less = absurd (omega (arith, less))
range_has k (suc len) zero less =
    let same : k + 0 ≡ k = omega arith in
    or_left (k + 0 == k) (is_in (range_with_len (k + 1) len) (k + 0))
    (ap (λ (m : ℕ). m == k) same ∙ itself k)
range_has k (suc len) (suc n) less =
    let same : k + 1 + n ≡ k + suc n = omega arith in
    or_right (k + suc n == k) (is_in (range_with_len (k + 1) len) (k + suc n))
    (subst (λ (m : ℕ). is_in (range_with_len (k + 1) len) m ≡ true) same (range_has (k + 1) len n (omega (arith, less))))

-- numbers below one
abbrev pub AreBelow : ℕ → List ℕ → Type 0
AreBelow len ns = Each (λ (n : ℕ). n < len) ns

range_below : (k len most : ℕ) → k + len ≡ most → AreBelow most (range_with_len k len)
range_below k zero most e = tt
range_below k (suc len) most e = (omega (arith, e), range_below (k + 1) len most (omega (arith, e)))

kept_below : (most : ℕ) (passes : ℕ → Bool) (i : ℕ) (ns : List ℕ) → AreBelow most ns → AreBelow most (numbers_kept passes i ns)
kept_below most passes i [] h = tt
kept_below most passes i (n ∷ ns) h = by (passes i) (kept_below most passes (suc i) ns h.1)
  where
    by : (b : Bool) → AreBelow most (numbers_kept passes (suc i) ns) →
        AreBelow most (if b then n ∷ numbers_kept passes (suc i) ns else numbers_kept passes (suc i) ns)
    by true g = (h.0, g)
    by false g = g

-- a number in a list has a place
pub place_in : (ns : List ℕ) (n : ℕ) → is_in ns n ≡ true → (i : ℕ) × (slice_get ns i ≡ Some n)
place_in [] n h = absurd cc
place_in (m ∷ ns) n h = by (n == m) refl h (place_in ns n)
  where
    by : (b : Bool) → (n == m) ≡ b → (b || is_in ns n) ≡ true → (is_in ns n ≡ true → (i : ℕ) × (slice_get ns i ≡ Some n)) →
        (i : ℕ) × (slice_get (m ∷ ns) i ≡ Some n)
    by true e g later = (0, ap (λ (k : ℕ). Some k) (sym ((Decides-eqb n m).0 e)))
    by false e g later = let p = later g in (suc p.0, p.1)

-- where its place passes, it is kept
pub number_kept : (passes : ℕ → Bool) (i : ℕ) (ns : List ℕ) (j n : ℕ) → slice_get ns j ≡ Some n → passes (i + j) ≡ true →
    is_in (numbers_kept passes i ns) n ≡ true
number_kept passes i [] j n e h = absurd cc
number_kept passes i (m ∷ ns) zero n e h =
    let same : i + 0 ≡ i = omega arith in by (passes i) (ap passes (sym same) ∙ h)
  where
    by : (b : Bool) → b ≡ true → is_in (if b then m ∷ numbers_kept passes (suc i) ns else numbers_kept passes (suc i) ns) n ≡ true
    by true f =
        or_left (n == m) (is_in (numbers_kept passes (suc i) ns) n)
        (ap (λ (k : ℕ). n == k) (same_Some m n e) ∙ itself n)
    by false f = absurd cc
number_kept passes i (m ∷ ns) (suc j) n e h =
    let same : suc i + j ≡ i + suc j = omega arith in
    by (passes i) (number_kept passes (suc i) ns j n e (ap passes same ∙ h))
  where
    by : (b : Bool) → is_in (numbers_kept passes (suc i) ns) n ≡ true →
        is_in (if b then m ∷ numbers_kept passes (suc i) ns else numbers_kept passes (suc i) ns) n ≡ true
    by true f = or_right (n == m) (is_in (numbers_kept passes (suc i) ns) n) f
    by false f = f

-- no number stands twice
abbrev AreOnce : List ℕ → Type 0
AreOnce [] = Unit {0}
AreOnce (n ∷ ns) = (is_in ns n ≡ false) × AreOnce ns

range_without : (k len n : ℕ) → n < k → is_in (range_with_len k len) n ≡ false
range_without k zero n less = refl
range_without k (suc len) n less =
    or_from (n == k) (is_in (range_with_len (k + 1) len) n) (other n k less) (range_without (k + 1) len n (omega (arith, less)))
  where
    other : (m l : ℕ) → m < l → (m == l) ≡ false
    other m l h = grind (arith, nat_tests, h)

range_once : (k len : ℕ) → AreOnce (range_with_len k len)
range_once k zero = tt
range_once k (suc len) = (range_without (k + 1) len k (omega arith), range_once (k + 1) len)

-- what isn't there isn't kept
kept_without : (passes : ℕ → Bool) (i : ℕ) (ns : List ℕ) (n : ℕ) → is_in ns n ≡ false → is_in (numbers_kept passes i ns) n ≡ false
kept_without passes i [] n h = refl
kept_without passes i (m ∷ ns) n h = by (n == m) refl h (passes i) (kept_without passes (suc i) ns n)
  where
    by : (b : Bool) → (n == m) ≡ b → (b || is_in ns n) ≡ false → (c : Bool) →
        (is_in ns n ≡ false → is_in (numbers_kept passes (suc i) ns) n ≡ false) →
        is_in (if c then m ∷ numbers_kept passes (suc i) ns else numbers_kept passes (suc i) ns) n ≡ false
    by true e g c later = absurd cc
    by false e g true later = or_from (n == m) (is_in (numbers_kept passes (suc i) ns) n) e (later g)
    by false e g false later = later g

kept_once : (passes : ℕ → Bool) (i : ℕ) (ns : List ℕ) → AreOnce ns → AreOnce (numbers_kept passes i ns)
kept_once passes i [] h = tt
kept_once passes i (n ∷ ns) h = by (passes i) (kept_once passes (suc i) ns h.1)
  where
    by : (b : Bool) → AreOnce (numbers_kept passes (suc i) ns) →
        AreOnce (if b then n ∷ numbers_kept passes (suc i) ns else numbers_kept passes (suc i) ns)
    by true g = (kept_without passes (suc i) ns n h.0, g)
    by false g = g

-- what has a place is there
in_place : (ns : List ℕ) (j n : ℕ) → slice_get ns j ≡ Some n → is_in ns n ≡ true
in_place [] j n e = absurd cc
in_place (m ∷ ns) zero n e = or_left (n == m) (is_in ns n) (ap (λ (k : ℕ). n == k) (same_Some m n e) ∙ itself n)
in_place (m ∷ ns) (suc j) n e = or_right (n == m) (is_in ns n) (in_place ns j n e)

-- where its place doesn't pass, it isn't kept
number_gone : (passes : ℕ → Bool) (i : ℕ) (ns : List ℕ) (j n : ℕ) → AreOnce ns → slice_get ns j ≡ Some n → passes (i + j) ≡ false →
    is_in (numbers_kept passes i ns) n ≡ false
number_gone passes i [] j n once e h = refl
number_gone passes i (m ∷ ns) zero n once e h =
    let same : i + 0 ≡ i = omega arith in by (passes i) (ap passes (sym same) ∙ h)
  where
    by : (b : Bool) → b ≡ false → is_in (if b then m ∷ numbers_kept passes (suc i) ns else numbers_kept passes (suc i) ns) n ≡ false
    by true f = absurd cc
    by false f =
        kept_without passes (suc i) ns n (subst (λ (k : ℕ). is_in ns k ≡ false) (same_Some m n e) once.0)
number_gone passes i (m ∷ ns) (suc j) n once e h =
    let same : suc i + j ≡ i + suc j = omega arith in
    by (passes i) (n == m) refl (number_gone passes (suc i) ns j n once.1 e (ap passes same ∙ h))
  where
    different : true ≡ false → ⊥
    different g = absurd cc

    by : (b c : Bool) → (n == m) ≡ c → is_in (numbers_kept passes (suc i) ns) n ≡ false →
        is_in (if b then m ∷ numbers_kept passes (suc i) ns else numbers_kept passes (suc i) ns) n ≡ false
    by true true f g =
        absurd
        (different
        (sym (in_place ns j n e) ∙ subst (λ (k : ℕ). is_in ns k ≡ false) (sym ((Decides-eqb n m).0 f)) once.0))
    by true false f g = or_from (n == m) (is_in (numbers_kept passes (suc i) ns) n) f g
    by false c f g = g

pub there_is : (us : List Assertion) (k : ℕ) → k < length us → (f : Assertion) × (slice_get us k ≡ Some f)
there_is [] k less = absurd (omega (arith, less))
there_is (u ∷ us) zero less = (u, refl)
there_is (u ∷ us) (suc k) less = there_is us k (omega (arith, less))

-- the template at a number's place
pub picked_at : (ts : List Assertion) (ns : List ℕ) (i n : ℕ) → AreBelow (length ts) ns → slice_get ns i ≡ Some n →
    slice_get (picked ts ns) i ≡ slice_get ts n
picked_at ts [] i n below e = absurd cc
picked_at ts (m ∷ ns) i n below e = by i e (there_is ts m below.0) (λ (j : ℕ) (f : slice_get ns j ≡ Some n). picked_at ts ns j n below.1 f)
  where
    by : (j : ℕ) → slice_get (m ∷ ns) j ≡ Some n → (f : Assertion) × (slice_get ts m ≡ Some f) →
        ((k : ℕ) → slice_get ns k ≡ Some n → slice_get (picked ts ns) k ≡ slice_get ts n) →
        slice_get (option_to_list (slice_get ts m) ++ picked ts ns) j ≡ slice_get ts n
    by zero g f later =
        ap (λ (o : Option Assertion). slice_get (option_to_list o ++ picked ts ns) 0) f.1
        ∙ (sym f.1 ∙ ap (slice_get ts) (same_Some m n g))
    by (suc j) g f later =
        ap (λ (o : Option Assertion). slice_get (option_to_list o ++ picked ts ns) (suc j)) f.1 ∙ later j g

pub map_at : (f : Assertion → Assertion) (gs : List Assertion) (i : ℕ) (g : Assertion) → slice_get gs i ≡ Some g →
    slice_get (map f gs) i ≡ Some (f g)
map_at f [] i g e = absurd cc
map_at f (h ∷ gs) zero g e = ap (λ (k : Assertion). Some (f k)) (same_Some h g e)
map_at f (h ∷ gs) (suc i) g e = map_at f gs i g e

-- a test that one of a list fails
record Fails (test : Due → Bool) (ds : List Due) : Type 0 where
  place : ℕ
  due : Due
  there : slice_get ds place ≡ Some due
  fails : test due ≡ false

one_fails : (test : Due → Bool) (ds : List Due) → list_all test ds ≡ false → Fails test ds
one_fails test [] h = absurd cc
one_fails test (d ∷ ds) h = by (test d) refl h (one_fails test ds)
  where
    by : (b : Bool) → test d ≡ b → (b && list_all test ds) ≡ false → (list_all test ds ≡ false → Fails test ds) → Fails test (d ∷ ds)
    by true e g later = let f = later g in record { place = suc f.place; due = f.due; there = f.there; fails = f.fails }
    by false e g later = record { place = 0; due = d; there = refl; fails = e }

-- what an obligation of a site asks
ask_at : (t : Parts) (choice : Choice) (ds : List Due) (place : ℕ) (d : Due) → AllAskChosen t choice ds → slice_get ds place ≡ Some d →
    (s : ℕ) → owner_of t d ≡ Some s → AsksChosen t choice s d
ask_at t choice [] place d asks e = absurd cc
ask_at t choice (c ∷ ds) zero d asks e =
    subst (λ (b : Due). (s : ℕ) → owner_of t b ≡ Some s → AsksChosen t choice s b) (same_Some c d e) asks.0
ask_at t choice (c ∷ ds) (suc place) d asks e = ask_at t choice ds place d asks.1 e

-- a test that fails though a site may own it
not_closed : (a b : Bool) → (not a || b) ≡ false → (a ≡ true) × (b ≡ false)
not_closed true b h = (refl, h)
not_closed false b h = absurd cc

owned_by : (o : Option ℕ) (s : ℕ) → is_site o s ≡ true → o ≡ Some s
owned_by None s h = absurd cc
owned_by (Some n) s h = ap (λ (k : ℕ). Some k) ((Decides-eqb n s).0 h)

module _ (closes : List Assertion → Assertion → Bool) (t : Parts) where
  -- the numbers of a round are those of templates
  pub round_below : (r s : ℕ) → AreBelow (length (templates t s)) (chosen_at (round_at closes t r) s)
  round_below zero s =
      subst (AreBelow (length (templates t s))) (sym (full_at (sites_of (sketch_of t)) s))
      (range_below 0 (length (templates t s)) (length (templates t s)) (omega arith))
  round_below (suc r) s =
      let passes = holds_at closes (owner_of t) (dues_of t (round_at closes t r)) in
      subst (AreBelow (length (templates t s))) (sym (sites_at passes 0 (round_at closes t r) s))
      (kept_below (length (templates t s)) (passes (0 + s)) 0 (chosen_at (round_at closes t r) s) (round_below r s))

  -- no number of a round stands twice
  round_once : (r s : ℕ) → AreOnce (chosen_at (round_at closes t r) s)
  round_once zero s =
      subst AreOnce (sym (full_at (sites_of (sketch_of t)) s)) (range_once 0 (length (templates t s)))
  round_once (suc r) s =
      let passes = holds_at closes (owner_of t) (dues_of t (round_at closes t r)) in
      subst AreOnce (sym (sites_at passes 0 (round_at closes t r) s))
      (kept_once (passes (0 + s)) 0 (chosen_at (round_at closes t r) s) (round_once r s))

  all_ask : (choice : Choice) → AllAskChosen t choice (dues_of t choice)
  all_ask choice = by (obligations (task_of t) (plan_of t choice)) refl
    where
      by : (x : Result (List Due) Fault) → obligations (task_of t) (plan_of t choice) ≡ x → AllAskChosen t choice (dues_in x)
      by (Err w) e = tt
      by (Ok ds) e = owners_ask t choice ds e

  -- a template whose place doesn't hold is refuted
  pub place_refuted : (r s n i : ℕ) (template : Assertion) → slice_get (templates t s) n ≡ Some template →
      slice_get (chosen_at (round_at closes t r) s) i ≡ Some n →
      holds_at closes (owner_of t) (dues_of t (round_at closes t r)) s i ≡ false →
      IsRefuted closes t (round_at closes t r) s n
  place_refuted r s n i template there chosen h =
      let choice = round_at closes t r in
      let failed = one_fails
      (λ (d : Due). not (is_site (owner_of t d) s) || closes_if (closes d.facts) (slice_get d.goals i)) (dues_of t choice) h in
      let d = failed.due in
      let both = not_closed (is_site (owner_of t d) s) (closes_if (closes d.facts) (slice_get d.goals i)) failed.fails in
      let own = owned_by (owner_of t d) s both.0 in
      let asks = ask_at t choice (dues_of t choice) failed.place d (all_ask choice) failed.there s own in
      let stands = picked_at (templates t s) (chosen_at choice s) i n (round_below r s) chosen ∙ there in
      let goal : slice_get d.goals i ≡ Some (at_stores asks.state.stores template) =
      ap (λ (gs : List Assertion). slice_get gs i) asks.goals
      ∙ map_at (at_stores asks.state.stores) (picked (templates t s) (chosen_at choice s)) i template stands in
      let site : 0 + s ≡ s = omega arith in
      record {
        obligation = record {
          number = failed.place;
          due = d;
          is_due = failed.there;
          owner = own;
          place = i;
          is_chosen = chosen;
          goal = at_stores asks.state.stores template;
          is_goal = goal;
        };
        asks = asks;
        template = template;
        is_template = there;
        is_picked = stands;
        is_instance = refl;
        fails = ap (closes_if (closes d.facts)) (sym goal) ∙ both.1;
        goes =
            subst (λ (ns : List ℕ). is_in ns n ≡ false) (sym (sites_at (holds_at closes (owner_of t) (dues_of t choice)) 0 choice s))
            (number_gone (holds_at closes (owner_of t) (dues_of t choice) (0 + s)) 0 (chosen_at choice s) i n (round_once r s) chosen
            (let first : 0 + i ≡ i = omega arith in
            ap (λ (m : ℕ). holds_at closes (owner_of t) (dues_of t choice) m (0 + i)) site
            ∙ (ap (holds_at closes (owner_of t) (dues_of t choice) s) first ∙ h)));
      }

  -- a template that isn't chosen in a round was refuted in one before
  round_refuted : (r s n : ℕ) (template : Assertion) → slice_get (templates t s) n ≡ Some template → n < length (templates t s) →
      (is_in (chosen_at (round_at closes t r) s) n ≡ true) ⊎ ((m : ℕ) × IsRefuted closes t (round_at closes t m) s n)
  round_refuted zero s n template there less =
      let same : 0 + n ≡ n = omega arith in
      inl
      (subst (λ (ns : List ℕ). is_in ns n ≡ true) (sym (full_at (sites_of (sketch_of t)) s))
      (subst (λ (m : ℕ). is_in (range_with_len 0 (length (templates t s))) m ≡ true) same (range_has 0 (length (templates t s)) n less)))
  round_refuted (suc r) s n template there less = by (round_refuted r s n template there less)
    where
      passes : ℕ → ℕ → Bool
      passes = holds_at closes (owner_of t) (dues_of t (round_at closes t r))

      at : (i : ℕ) → slice_get (chosen_at (round_at closes t r) s) i ≡ Some n → (b : Bool) → passes s i ≡ b →
          (is_in (chosen_at (round_at closes t (suc r)) s) n ≡ true) ⊎ ((m : ℕ) × IsRefuted closes t (round_at closes t m) s n)
      at i e true h =
          let site : 0 + s ≡ s = omega arith in
          let place : 0 + i ≡ i = omega arith in
          inl
          (subst (λ (ns : List ℕ). is_in ns n ≡ true) (sym (sites_at passes 0 (round_at closes t r) s))
          (number_kept (passes (0 + s)) 0 (chosen_at (round_at closes t r) s) i n e
          (ap (λ (m : ℕ). passes m (0 + i)) site ∙ (ap (passes s) place ∙ h))))
      at i e false h = inr (r, place_refuted r s n i template there e h)

      by : (is_in (chosen_at (round_at closes t r) s) n ≡ true) ⊎ ((m : ℕ) × IsRefuted closes t (round_at closes t m) s n) →
          (is_in (chosen_at (round_at closes t (suc r)) s) n ≡ true) ⊎ ((m : ℕ) × IsRefuted closes t (round_at closes t m) s n)
      by (inl h) =
          let p = place_in (chosen_at (round_at closes t r) s) n h in at p.0 p.1 (passes s p.0) refl
      by (inr h) = inr h

  pub kept_round : (r : ℕ) × (kept closes t ≡ round_at closes t r)
  kept_round = settled_round closes t (total (full_choice t)) 0

  kept_refuted : (s n : ℕ) → n < length (templates t s) → is_in (chosen_at (kept closes t) s) n ≡ false →
      (r : ℕ) × IsRefuted closes t (round_at closes t r) s n
  kept_refuted s n less gone =
      let found = there_is (templates t s) n less in
      by (round_refuted kept_round.0 s n found.0 found.1 less)
    where
      different : true ≡ false → ⊥
      different h = absurd cc

      by : (is_in (chosen_at (round_at closes t kept_round.0) s) n ≡ true) ⊎ ((m : ℕ) × IsRefuted closes t (round_at closes t m) s n) →
          (r : ℕ) × IsRefuted closes t (round_at closes t r) s n
      by (inl h) =
          absurd (different (sym h ∙ (ap (λ (xs : Choice). is_in (chosen_at xs s) n) (sym kept_round.1) ∙ gone)))
      by (inr h) = h

pub dropped_refuted : DroppedAreRefuted
dropped_refuted closes t = (
  kept_round closes t,
  λ (s n : ℕ) (less : n < length (templates t s)) (gone : is_in (chosen_at (kept closes t) s) n ≡ false).
      kept_refuted closes t s n less gone,
)
