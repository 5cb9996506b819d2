-- How decisions with two limits, or to two depths, match: an answer of the first is one of the second, where the second's limit allows it.
use Rattle.sm_omega.proofs.Imports.{◌≡◌, ◌<◌, ◌≤◌, nat_lt, ℕ, suc, ℤ, Bool, true, false, if◌then◌else◌, Option, Some, None, List, [], ◌∷◌, refl, sym, ap, subst, ◌∙◌, arith, ltb-true, lt-ltb, Linear, Outcome, Fits, Leaves, has_no_part, tightened, is_contradictory, Decision, Done, Passed, Outside, Shallow, go_on, with_result, counted, Item, Stay, Enter, Count, Entered, led, entering, entered, Values, put, Answer, giving, with_value, or_else, or_next}

module _ (limit other : ℕ) where
  -- From a count on, with a limit: the first one's count doesn't go down, nor past the limit. The second, with another limit, gives the
  -- same answer where that isn't below its count, and if the limits are one, it stops alike: all this where G is so of the second. The
  -- first has no depth left only where S is so.
  abbrev pub Matches : {A : Type 0} → Type 0 → Type 0 → ℕ → Decision A → Decision A → Type 0
  Matches S G c (Done n x) b = (c ≤ n) × (c ≤ limit → n ≤ limit) × (n ≤ other → G → b ≡ Done n x)
  Matches S G c Passed b = c ≤ limit → limit ≡ other → G → b ≡ Passed
  Matches S G c (Outside op y z) b = c ≤ limit → limit ≡ other → G → b ≡ Outside op y z
  Matches S G c Shallow b = S

  -- one answer matches itself
  pub done_matches : {A : Type 0} (S G : Type 0) (c : ℕ) (x : A) → Matches S G c (Done c x) (Done c x)
  done_matches S G c x = (omega arith, λ within. within, λ within good. refl)

  -- what has no depth left
  pub shallow_matches : {A : Type 0} (S G : Type 0) (c : ℕ) (a b : Decision A) → a ≡ Shallow → S → Matches S G c a b
  shallow_matches S G c a b e so = subst (λ x. Matches S G c x b) (sym e) so

  -- other conditions
  pub matches_weaker : {A : Type 0} (S T G H : Type 0) (c : ℕ) (a b : Decision A) → (S → T) → (c ≤ other → H → G) → Matches S G c a b →
      Matches T H c a b
  matches_weaker S T G H c (Done n x) b first second h =
      (h.0, h.1, λ within good. h.2 within (second (omega (arith, h.0, within)) good))
  matches_weaker S T G H c Passed b first second h =
      λ within same good. h within same (second (subst (λ (x : ℕ). c ≤ x) same within) good)
  matches_weaker S T G H c (Outside op y z) b first second h =
      λ within same good. h within same (second (subst (λ (x : ℕ). c ≤ x) same within) good)
  matches_weaker S T G H c Shallow b first second h = first h

  -- the first alone
  pub matches_alone : {A : Type 0} (S G H : Type 0) (c : ℕ) (a b d : Decision A) → (H → ⊥) → Matches S G c a b → Matches S H c a d
  matches_alone S G H c (Done n x) b d never h = (h.0, h.1, λ within good. absurd (never good))
  matches_alone S G H c Passed b d never h = λ within same good. absurd (never good)
  matches_alone S G H c (Outside op y z) b d never h = λ within same good. absurd (never good)
  matches_alone S G H c Shallow b d never h = h

  -- going on from answers that match
  pub go_on_matches : {A B : Type 0} (S G : Type 0) (c : ℕ) (a b : Decision A) (f g : ℕ → A → Decision B) → Matches S G c a b →
      ((n : ℕ) (x : A) → a ≡ Done n x → c ≤ n → (n ≤ other → G → b ≡ Done n x) → Matches S G n (f n x) (g n x)) →
      Matches S G c (go_on a f) (go_on b g)
  go_on_matches {A} {B} S G c (Done n x) b f g h step = join (f n x) (step n x refl h.0 h.2)
    where
      join : (d : Decision B) → Matches S G n d (g n x) → Matches S G c d (go_on b g)
      join (Done m y) k = (
        omega (arith, h.0, k.0),
        λ within. k.1 (h.1 within),
        λ within good. ap (λ (d : Decision A). go_on d g) (h.2 (omega (arith, k.0, within)) good) ∙ k.2 within good,
      )
      join Passed k = λ within same good.
          ap (λ (d : Decision A). go_on d g) (h.2 (subst (λ (x : ℕ). n ≤ x) same (h.1 within)) good) ∙ k (h.1 within) same good
      join (Outside op y z) k = λ within same good.
          ap (λ (d : Decision A). go_on d g) (h.2 (subst (λ (x : ℕ). n ≤ x) same (h.1 within)) good) ∙ k (h.1 within) same good
      join Shallow k = k
  go_on_matches {A} {B} S G c Passed b f g h step = λ within same good. ap (λ (d : Decision A). go_on d g) (h within same good)
  go_on_matches {A} {B} S G c (Outside op y z) b f g h step =
      λ within same good. ap (λ (d : Decision A). go_on d g) (h within same good)
  go_on_matches {A} {B} S G c Shallow b f g h step = h

  -- from a result
  pub result_matches : {A B : Type 0} (S G : Type 0) (c : ℕ) (o : Outcome A) (f g : A → Decision B) →
      ((x : A) → Matches S G c (f x) (g x)) → Matches S G c (with_result o f) (with_result o g)
  result_matches S G c (Fits x) f g step = step x
  result_matches S G c (Leaves op y z) f g step = λ within same good. refl

  -- a count
  pub counted_matches : {A : Type 0} (S G : Type 0) (c : ℕ) (f g : ℕ → Decision A) → Matches S G (suc c) (f (suc c)) (g (suc c)) →
      Matches S G c (counted limit c f) (counted other c g)
  counted_matches {A} S G c f g h = by (nat_lt c limit) refl
    where
      counts : c < other → (if nat_lt c other then g (suc c) else Passed) ≡ g (suc c)
      counts below = ap (λ (b : Bool). if b then g (suc c) else Passed) (lt-ltb c other below)

      join : c < limit → (d : Decision A) → Matches S G (suc c) d (g (suc c)) →
          Matches S G c d (if nat_lt c other then g (suc c) else Passed)
      join below (Done n x) k = (
        omega (arith, k.0),
        λ within. k.1 (omega (arith, below)),
        λ within good. counts (omega (arith, k.0, within)) ∙ k.2 within good,
      )
      join below Passed k = λ within same good. counts (subst (λ (x : ℕ). c < x) same below) ∙ k (omega (arith, below)) same good
      join below (Outside op y z) k =
          λ within same good. counts (subst (λ (x : ℕ). c < x) same below) ∙ k (omega (arith, below)) same good
      join below Shallow k = k

      by : (b : Bool) → nat_lt c limit ≡ b →
          Matches S G c (if b then f (suc c) else Passed) (if nat_lt c other then g (suc c) else Passed)
      by true e = join (ltb-true c limit e) (f (suc c)) h
      by false e = λ within same good.
          ap (λ (b : Bool). if b then g (suc c) else Passed) (subst (λ (x : ℕ). nat_lt c x ≡ false) same e)

  -- a form in front
  led_matches : (S G : Type 0) (c : ℕ) (f : Linear ℕ) (a b : Entered) → Matches S G c a b → Matches S G c (led f a) (led f b)
  led_matches S G c f (Done n None) b h = (h.0, h.1, λ within good. ap (led f) (h.2 within good))
  led_matches S G c f (Done n (Some fs)) b h = (h.0, h.1, λ within good. ap (led f) (h.2 within good))
  led_matches S G c f Passed b h = λ within same good. ap (led f) (h within same good)
  led_matches S G c f (Outside op y z) b h = λ within same good. ap (led f) (h within same good)
  led_matches S G c f Shallow b h = h

  -- a form that enters
  entering_matches : (S G : Type 0) (c : ℕ) (f : Linear ℕ) (a b : Entered) → Matches S G c a b →
      Matches S G c (entering c f a) (entering c f b)
  entering_matches S G c f a b h = by (is_contradictory f) (has_no_part f.parts)
    where
      by : (x y : Bool) →
          Matches S G c (if x then Done c None else if y then a else led f a) (if x then Done c None else if y then b else led f b)
      by true y = done_matches S G c None
      by false true = h
      by false false = led_matches S G c f a b h

  -- what enters, which needs no depth
  pub entered_matches : (S G : Type 0) (items : List Item) (c : ℕ) → Matches S G c (entered limit items c) (entered other items c)
  entered_matches S G [] c = done_matches S G c (Some [])
  entered_matches S G (Stay f ∷ items) c =
      led_matches S G c f (entered limit items c) (entered other items c) (entered_matches S G items c)
  entered_matches S G (Enter f ∷ items) c =
      entering_matches S G c (tightened f) (entered limit items c) (entered other items c) (entered_matches S G items c)
  entered_matches S G (Count outcome ∷ items) c =
      counted_matches S G c
      (λ (n : ℕ). with_result outcome (λ (f : Linear ℕ). entering n (tightened f) (entered limit items n)))
      (λ (n : ℕ). with_result outcome (λ (f : Linear ℕ). entering n (tightened f) (entered other items n)))
      (result_matches S G (suc c) outcome (λ (f : Linear ℕ). entering (suc c) (tightened f) (entered limit items (suc c)))
      (λ (f : Linear ℕ). entering (suc c) (tightened f) (entered other items (suc c)))
      (λ f. entering_matches S G (suc c) (tightened f) (entered limit items (suc c)) (entered other items (suc c))
      (entered_matches S G items (suc c))))

  -- a value for a variable
  pub giving_matches : (S G : Type 0) (c t : ℕ) (value : Values → Outcome ℤ) (a b : Answer) → Matches S G c a b →
      Matches S G c (giving t value a) (giving t value b)
  giving_matches S G c t value a b h = go_on_matches S G c a b (with_value t value) (with_value t value) h step
    where
      step : (n : ℕ) (x : Option Values) → a ≡ Done n x → c ≤ n → (n ≤ other → G → b ≡ Done n x) →
          Matches S G n (with_value t value n x) (with_value t value n x)
      step n None e above back = done_matches S G n None
      step n (Some v) e above back =
          result_matches S G n (value v) (λ (z : ℤ). Done n (Some (put t z v))) (λ (z : ℤ). Done n (Some (put t z v)))
          (λ z. done_matches S G n (Some (put t z v)))

  -- what comes where there is no solution
  pub or_else_matches : (S G : Type 0) (c : ℕ) (a b : Answer) (f g : ℕ → Answer) → Matches S G c a b →
      ((n : ℕ) → c ≤ n → Matches S G n (f n) (g n)) → Matches S G c (or_else a f) (or_else b g)
  or_else_matches S G c a b f g h next = go_on_matches S G c a b (or_next f) (or_next g) h step
    where
      step : (n : ℕ) (x : Option Values) → a ≡ Done n x → c ≤ n → (n ≤ other → G → b ≡ Done n x) →
          Matches S G n (or_next f n x) (or_next g n x)
      step n None e above back = next n above
      step n (Some v) e above back = done_matches S G n (Some v)
