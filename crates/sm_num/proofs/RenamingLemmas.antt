-- Sums of forms over other atoms: computed there, or here and then put over the other atoms, they
-- are one.
use Rattle.sm_num.proofs.Imports.{◌≡◌, ℕ, ◌%◌, ◌==◌, ℤ, pos, nat_abs, Bool, true, false, not, if◌then◌else◌, List, [], ◌∷◌, map, filter, refl, ap, ◌∙◌, int_eq, Linear, coefficient, without, renamed_form, Kind, Le, Eq, Outcome, Fits, Leaves, then_with, computed, combined_number, with_part, led_by, scaled, formed, met_part, joined_parts, combination, Mul, gcd, multipliers, kind_of_sum, floor_of, divisor_of_parts, divided_parts, divided, then_divided, elimination, IsRenaming, renamed_outcome, has_no_part, one_is_zero, tightened_by, tightened}
use Rattle.sm_num.proofs.SameAtomLemmas.{each_filter}
use Rattle.sm_num.proofs.ResultsReduced.{AreAmong}

module _ {A B : Type 0} (rename : A → B) where
  -- parts over other atoms
  abbrev pub renamed_parts : List (A × ℤ) → List (B × ℤ)
  renamed_parts ps = map (λ p. (rename p.0, p.1)) ps

  -- computed parts over other atoms
  abbrev pub parts_renamed : Outcome (List (A × ℤ)) → Outcome (List (B × ℤ))
  parts_renamed outcome = then_with outcome (λ ps. Fits (renamed_parts ps))

  renamed_with_part : (a : A) (c : ℤ) (ps : List (A × ℤ)) → with_part (rename a) c (renamed_parts ps) ≡ renamed_parts (with_part a c ps)
  renamed_with_part a c ps = by (int_eq c (pos 0))
    where
      by : (b : Bool) → (if b then renamed_parts ps else (rename a, c) ∷ renamed_parts ps) ≡ renamed_parts (if b then ps else (a, c) ∷ ps)
      by true = refl
      by false = refl

  renamed_led : (a : A) (c : Outcome ℤ) (rest : Outcome (List (A × ℤ))) →
      led_by (rename a) c (parts_renamed rest) ≡ parts_renamed (led_by a c rest)
  renamed_led a (Fits z) (Fits ps) = ap Fits (renamed_with_part a z ps)
  renamed_led a (Fits z) (Leaves op x y) = refl
  renamed_led a (Leaves op x y) rest = refl

  renamed_scaled : (q : ℤ) (gs : List (A × ℤ)) → scaled q (renamed_parts gs) ≡ parts_renamed (scaled q gs)
  renamed_scaled q [] = refl
  renamed_scaled q (g ∷ gs) = ap (λ rest. led_by (rename g.0) (computed Mul q g.1) rest) (renamed_scaled q gs)
      ∙ renamed_led g.0 (computed Mul q g.1) (scaled q gs)

  renamed_formed : (parts : Outcome (List (A × ℤ))) (constant : Outcome ℤ) (kind : Kind) →
      formed (parts_renamed parts) constant kind ≡ renamed_outcome rename (formed parts constant kind)
  renamed_formed (Fits ps) (Fits c) kind = refl
  renamed_formed (Fits ps) (Leaves op y z) kind = refl
  renamed_formed (Leaves op y z) constant kind = refl

  renamed_filter : (test : B × ℤ → Bool) (ps : List (A × ℤ)) →
      filter test (renamed_parts ps) ≡ renamed_parts (filter (λ r. test (rename r.0, r.1)) ps)
  renamed_filter test [] = refl
  renamed_filter test (p ∷ ps) = by (test (rename p.0, p.1)) (renamed_filter test ps)
    where
      by : (b : Bool) → filter test (renamed_parts ps) ≡ renamed_parts (filter (λ r. test (rename r.0, r.1)) ps) →
          (if b then (rename p.0, p.1) ∷ filter test (renamed_parts ps) else filter test (renamed_parts ps))
          ≡ renamed_parts (if b then p ∷ filter (λ r. test (rename r.0, r.1)) ps else filter (λ r. test (rename r.0, r.1)) ps)
      by true rest = ap (λ rs. (rename p.0, p.1) ∷ rs) rest
      by false rest = rest

  renamed_divided : (d : ℕ) (ps : List (A × ℤ)) → divided_parts d (renamed_parts ps) ≡ renamed_parts (divided_parts d ps)
  renamed_divided d [] = refl
  renamed_divided d (p ∷ ps) = ap (λ rs. (rename p.0, floor_of p.1 d) ∷ rs) (renamed_divided d ps)

  renamed_divisor : (ps : List (A × ℤ)) → divisor_of_parts (renamed_parts ps) ≡ divisor_of_parts ps
  renamed_divisor [] = refl
  renamed_divisor (p ∷ ps) = ap (gcd (nat_abs p.1)) (renamed_divisor ps)

  -- a divided form over other atoms
  pub divided_renamed : (f : Linear A) → divided (renamed_form rename f) ≡ renamed_form rename (divided f)
  divided_renamed f =
      rw (renamed_divisor f.parts)
      (ap (λ rs. record { parts = rs; constant = floor_of f.constant (gcd (nat_abs f.constant) (divisor_of_parts f.parts)); kind = f.kind })
      (renamed_divided (gcd (nat_abs f.constant) (divisor_of_parts f.parts)) f.parts))

  renamed_then_divided : (outcome : Outcome (Linear A)) →
      then_divided (renamed_outcome rename outcome) ≡ renamed_outcome rename (then_divided outcome)
  renamed_then_divided (Fits h) = ap Fits (divided_renamed h)
  renamed_then_divided (Leaves op y z) = refl

  renamed_tightened_by : (d : ℕ) (ps : List (A × ℤ)) (c : ℤ) (kind : Kind) →
      tightened_by d (renamed_parts ps) c kind ≡ renamed_form rename (tightened_by d ps c kind)
  renamed_tightened_by d ps c Le = rw (renamed_divided d ps) refl
  renamed_tightened_by d ps c Eq = by (nat_abs c % d == 0)
    where
      by : (b : Bool) → (if b then record { parts = divided_parts d (renamed_parts ps); constant = floor_of c d; kind = Eq }
          else one_is_zero {A = B})
          ≡ renamed_form rename
          (if b then record { parts = divided_parts d ps; constant = floor_of c d; kind = Eq } else one_is_zero {A = A})
      by true = rw (renamed_divided d ps) refl
      by false = refl

  -- a tight form over other atoms
  pub tightened_renamed : (f : Linear A) → tightened (renamed_form rename f) ≡ renamed_form rename (tightened f)
  tightened_renamed f = by f.parts f.constant f.kind
    where
      by : (ps : List (A × ℤ)) (c : ℤ) (kind : Kind) →
          (if has_no_part (renamed_parts ps) then record { parts = renamed_parts ps; constant = c; kind = kind } else tightened_by
          (divisor_of_parts (renamed_parts ps)) (renamed_parts ps) c kind)
          ≡ renamed_form rename
          (if has_no_part ps then record { parts = ps; constant = c; kind = kind } else tightened_by (divisor_of_parts ps) ps c kind)
      by [] c kind = refl
      by (p ∷ ps) c kind = ap (λ d. tightened_by d (renamed_parts (p ∷ ps)) c kind) (renamed_divisor (p ∷ ps))
          ∙ renamed_tightened_by (divisor_of_parts (p ∷ ps)) (p ∷ ps) c kind

-- where two tests agree at parts among these, the same parts go
filter_among : {A : Type 0} (P : A → Type 0) (test other : A × ℤ → Bool) → ((r : A × ℤ) → P r.0 → test r ≡ other r) → (ps : List (A × ℤ)) →
    AreAmong P ps → filter test ps ≡ filter other ps
filter_among P test other agree [] among = refl
filter_among P test other agree (p ∷ ps) among =
    ap (λ (b : Bool). if b then p ∷ filter test ps else filter test ps) (agree p among.0)
    ∙ ap (λ rs. if other p then p ∷ rs else rs) (filter_among P test other agree ps among.1)

-- each atom is an atom
among_all : {A : Type 0} (ps : List (A × ℤ)) → AreAmong (λ (a : A). Unit {0}) ps
among_all [] = tt
among_all (p ∷ ps) = (tt, among_all ps)

module _ {A B : Type 0} (P : A → Type 0) (here : A → A → Bool) (there : B → B → Bool) (rename : A → B) where
  -- two of these atoms are the same over there where they are here
  abbrev pub Renames : Type 0
  Renames = (a b : A) → P a → P b → there (rename a) (rename b) ≡ here a b

  -- coefficients over other atoms
  pub renamed_coefficient : Renames → (a : A) (ps : List (A × ℤ)) → P a → AreAmong P ps →
      coefficient there (rename a) (renamed_parts rename ps) ≡ coefficient here a ps
  renamed_coefficient renames a [] at among = refl
  renamed_coefficient renames a (p ∷ ps) at among = rw (renames a p.0 at among.0, renamed_coefficient renames a ps at among.1) refl

  renamed_without : Renames → (t : A) (f : Linear A) → P t → AreAmong P f.parts →
      without there (rename t) (renamed_form rename f) ≡ renamed_form rename (without here t f)
  renamed_without renames t f at among =
      ap (λ rs. record { parts = rs; constant = f.constant; kind = f.kind })
      (renamed_filter rename (λ r. not (there (rename t) r.0)) f.parts
      ∙ ap (renamed_parts rename)
      (filter_among P (λ r. not (there (rename t) (rename r.0))) (λ r. not (here t r.0)) (λ r is. ap not (renames t r.0 at is)) f.parts
      among))

  renamed_joined : Renames → (p q : ℤ) (fs gs others : List (A × ℤ)) → AreAmong P fs → AreAmong P gs →
      joined_parts there p (renamed_parts rename fs) q (renamed_parts rename gs) (renamed_parts rename others) ≡ parts_renamed rename
      (joined_parts here p fs q gs others)
  renamed_joined renames p q [] gs others first second = renamed_scaled rename q others
  renamed_joined renames p q (f ∷ fs) gs others first second =
      ap (λ (d : ℤ).
      led_by (rename f.0) (if int_eq d (pos 0) then computed Mul p f.1 else combined_number p f.1 q d)
      (joined_parts there p (renamed_parts rename fs) q (renamed_parts rename gs) (renamed_parts rename others)))
      (renamed_coefficient renames f.0 gs first.0 second)
      ∙ ap (λ rest. led_by (rename f.0) (met_part here p f q gs) rest) (renamed_joined renames p q fs gs others first.1 second)
      ∙ renamed_led rename f.0 (met_part here p f q gs) (joined_parts here p fs q gs others)

  renamed_others : Renames → (fs gs : List (A × ℤ)) → AreAmong P fs → AreAmong P gs →
      filter (λ r. int_eq (coefficient there r.0 (renamed_parts rename fs)) (pos 0)) (renamed_parts rename gs)
      ≡ renamed_parts rename (filter (λ r. int_eq (coefficient here r.0 fs) (pos 0)) gs)
  renamed_others renames fs gs first second =
      renamed_filter rename (λ r. int_eq (coefficient there r.0 (renamed_parts rename fs)) (pos 0)) gs
      ∙ ap (renamed_parts rename)
      (filter_among P (λ r. int_eq (coefficient there (rename r.0) (renamed_parts rename fs)) (pos 0))
      (λ r. int_eq (coefficient here r.0 fs) (pos 0))
      (λ r is. ap (λ (d : ℤ). int_eq d (pos 0)) (renamed_coefficient renames r.0 fs is first)) gs second)

  -- the sum of forms over other atoms
  pub combination_renamed_among : Renames → (f g : Linear A) (p q : ℤ) (kind : Kind) → AreAmong P f.parts → AreAmong P g.parts →
      combination there (renamed_form rename f) p (renamed_form rename g) q kind ≡ renamed_outcome rename (combination here f p g q kind)
  combination_renamed_among renames f g p q kind first second =
      let constant = combined_number p f.constant q g.constant in
      let others = filter (λ r. int_eq (coefficient here r.0 f.parts) (pos 0)) g.parts in
      ap (λ rs. formed (joined_parts there p (renamed_parts rename f.parts) q (renamed_parts rename g.parts) rs) constant kind)
      (renamed_others renames f.parts g.parts first second)
      ∙ ap (λ parts. formed parts constant kind) (renamed_joined renames p q f.parts g.parts others first second)
      ∙ renamed_formed rename (joined_parts here p f.parts q g.parts others) constant kind

  -- what is computed where an atom cancels, from its coefficients and the forms without it
  abbrev cancelled : ℤ → ℤ → Linear B → Linear B → Kind → Kind → Outcome (Linear B)
  cancelled a b f g kind_of_g kind = then_divided (combination there f (multipliers a b kind_of_g).0 g (multipliers a b kind_of_g).1 kind)

  -- the sum of forms over other atoms in which an atom cancels
  pub elimination_renamed_among : Renames → (f g : Linear A) (t : A) → P t → AreAmong P f.parts → AreAmong P g.parts →
      elimination there (renamed_form rename f) (renamed_form rename g) (rename t) ≡ renamed_outcome rename (elimination here f g t)
  elimination_renamed_among renames f g t at one other =
      let kind = kind_of_sum f.kind g.kind in
      let a = coefficient here t f.parts in
      let b = coefficient here t g.parts in
      let first = without here t f in
      let second = without here t g in
      ap (λ (x : ℤ). cancelled x (coefficient there (rename t) (renamed_parts rename g.parts))
      (without there (rename t) (renamed_form rename f)) (without there (rename t) (renamed_form rename g)) g.kind kind)
      (renamed_coefficient renames t f.parts at one)
      ∙ ap (λ (x : ℤ). cancelled a x (without there (rename t) (renamed_form rename f)) (without there (rename t) (renamed_form rename g))
      g.kind kind) (renamed_coefficient renames t g.parts at other)
      ∙ ap (λ (h : Linear B). cancelled a b h (without there (rename t) (renamed_form rename g)) g.kind kind)
      (renamed_without renames t f at one)
      ∙ ap (λ (h : Linear B). cancelled a b (renamed_form rename first) h g.kind kind) (renamed_without renames t g at other)
      ∙ ap then_divided
      (combination_renamed_among renames first second (multipliers a b g.kind).0 (multipliers a b g.kind).1 kind
      (each_filter here (λ r. P r.0) (λ r. not (here t r.0)) f.parts one)
      (each_filter here (λ r. P r.0) (λ r. not (here t r.0)) g.parts other))
      ∙ renamed_then_divided rename (combination here first (multipliers a b g.kind).0 second (multipliers a b g.kind).1 kind)

-- the sum of forms over other atoms, by a renaming of all atoms
pub combination_renamed : {A B : Type 0} (here : A → A → Bool) (there : B → B → Bool) (rename : A → B) (f g : Linear A) (p q : ℤ)
    (kind : Kind) → IsRenaming here there rename →
    combination there (renamed_form rename f) p (renamed_form rename g) q kind ≡ renamed_outcome rename (combination here f p g q kind)
combination_renamed {A} here there rename f g p q kind renames =
    combination_renamed_among (λ (a : A). Unit {0}) here there rename (λ (a b : A) (one other : Unit {0}). renames a b) f g p q kind
    (among_all f.parts) (among_all g.parts)

pub elimination_renamed : {A B : Type 0} (here : A → A → Bool) (there : B → B → Bool) (rename : A → B) (f g : Linear A) (t : A) →
    IsRenaming here there rename →
    elimination there (renamed_form rename f) (renamed_form rename g) (rename t) ≡ renamed_outcome rename (elimination here f g t)
elimination_renamed {A} here there rename f g t renames =
    elimination_renamed_among (λ (a : A). Unit {0}) here there rename (λ (a b : A) (one other : Unit {0}). renames a b) f g t tt
    (among_all f.parts) (among_all g.parts)
