-- What is computed of forms has each atom once, no coefficient that is 0, numbers in the range, and
-- atoms of the forms that it is computed of.
use Rattle.sm_num.proofs.Imports.{◌≡◌, ℕ, ◌<◌, ◌%◌, ◌==◌, ℤ, pos, negsuc, nat_abs, ◌*ℤ◌, Bool, true, false, not, if◌then◌else◌, IsTrue, ◌^◌, ◌/◌, suc, zero, neg_ℤ, List, [], ◌∷◌, filter, refl, sym, ap, subst, ◌∙◌, ⊎_elim, arith, eq-zero-or-pos, div-le_self, ltb-true, lt-ltb, int_eq, dvd_refl, fits_form, Linear, coefficient, parts_without, without, Kind, Le, Eq, Fits, computed, combined_number, scaled, met_part, joined_parts, combination, Mul, gcd, multipliers, kind_of_sum, floor_of, ceiling_of, divisor_of_parts, divided_parts, divided, elimination, has_no_part, one_is_zero, tightened_by, tightened}
use Prim.Native.Nat.{◌∣◌}
use Rattle.sm_num.proofs.RingLemmas.{mul_zero}
use Rattle.sm_num.proofs.OutcomeLemmas.{Gives, gives_both, then_gives, Each, IsSum, computed_gives, combined_number_gives, led_gives, met_part_gives, formed_gives, with_part_has}
use Rattle.sm_num.proofs.SameAtomLemmas.{IsSound, IsApart, AreReduced, each_filter, reduced_filter, zero_apart, coefficient_filter, other_test, IsReflexive, coefficient_one, coefficient_past, apart_turned}
use Rattle.sm_num.proofs.DivisionLemmas.{gcd_is, floor_exact, floor_by_zero, floor_pos, floor_negsuc, DividesEach, divisor_divides}

-- numbers in the range stay there where they are divided
pub floor_fits : (z : ℤ) (d : ℕ) → IsTrue (fits_form z) → IsTrue (fits_form (floor_of z d))
floor_fits z d inside =
    ⊎_elim (λ (e : d ≡ 0). subst (λ (x : ℕ). IsTrue (fits_form (floor_of z x))) (sym e) (rw (floor_by_zero z) inside))
    (λ (some : 0 < d). by z some inside) (eq-zero-or-pos d)
  where
    by : (z : ℤ) → 0 < d → IsTrue (fits_form z) → IsTrue (fits_form (floor_of z d))
    by (pos n) some inside =
        rw (floor_pos n d some) (lt-ltb (n / d) (2 ^ 127) (omega (arith, ltb-true n (2 ^ 127) inside, div-le_self n d)))
    by (negsuc n) some inside =
        rw (floor_negsuc n d some) (lt-ltb (suc (n / d)) (2 ^ 127) (omega (arith, ltb-true (suc n) (2 ^ 127) inside, div-le_self n d)))

-- the contrary of a number in the range is in it
pub neg_fits : (z : ℤ) → IsTrue (fits_form z) → IsTrue (fits_form (neg_ℤ z))
neg_fits (pos zero) inside = inside
neg_fits (pos (suc n)) inside = inside
neg_fits (negsuc n) inside = inside

pub ceiling_fits : (z : ℤ) (d : ℕ) → IsTrue (fits_form z) → IsTrue (fits_form (ceiling_of z d))
ceiling_fits z d inside = neg_fits (floor_of (neg_ℤ z) d) (floor_fits (neg_ℤ z) d (neg_fits z inside))

-- what isn't 0 isn't 0 divided without remainder
pub floor_some : (z : ℤ) (d : ℕ) → d ∣ nat_abs z → (z ≡ pos 0 → ⊥) → floor_of z d ≡ pos 0 → ⊥
floor_some z d divides some none =
    ⊎_elim
    (λ (e : d ≡ 0). some (sym (floor_by_zero z) ∙ subst (λ (x : ℕ). floor_of z x ≡ pos 0) e none))
    (λ (above : 0 < d). some (sym (floor_exact z d divides above) ∙ ap (λ (x : ℤ). pos d *ℤ x) none ∙ mul_zero (pos d)))
    (eq-zero-or-pos d)

module _ {A : Type 0} where
  -- each coefficient is in the range
  abbrev pub AreInside : List (A × ℤ) → Type 0
  AreInside ps = Each (λ r. IsTrue (fits_form r.1)) ps

  -- each atom is one of these
  abbrev pub AreAmong : (A → Type 0) → List (A × ℤ) → Type 0
  AreAmong P ps = Each (λ r. P r.0) ps

  scaled_inside : (q : ℤ) (gs : List (A × ℤ)) → Gives AreInside (scaled q gs)
  scaled_inside q [] = tt
  scaled_inside q (g ∷ gs) =
      led_gives (λ (w : ℤ). (w ≡ q *ℤ g.1) × IsTrue (fits_form w)) AreInside AreInside g.0 (computed Mul q g.1) (scaled q gs)
      (computed_gives Mul q g.1) (scaled_inside q gs)
      (λ z ps number rest. with_part_has AreInside g.0 z ps (λ (zero : z ≡ pos 0). rest) (λ (some : z ≡ pos 0 → ⊥). (number.1, rest)))

  pub scaled_among : (P : A → Type 0) (q : ℤ) (gs : List (A × ℤ)) → AreAmong P gs → Gives (AreAmong P) (scaled q gs)
  scaled_among P q [] each = tt
  scaled_among P q (g ∷ gs) each =
      led_gives (λ (w : ℤ). (w ≡ q *ℤ g.1) × IsTrue (fits_form w)) (AreAmong P) (AreAmong P) g.0 (computed Mul q g.1) (scaled q gs)
      (computed_gives Mul q g.1) (scaled_among P q gs each.1)
      (λ z ps number rest. with_part_has (AreAmong P) g.0 z ps (λ (zero : z ≡ pos 0). rest) (λ (some : z ≡ pos 0 → ⊥). (each.0, rest)))

  scaled_reduced : (same : A → A → Bool) (q : ℤ) (gs : List (A × ℤ)) → AreReduced same gs → Gives (AreReduced same) (scaled q gs)
  scaled_reduced same q [] reduced = tt
  scaled_reduced same q (g ∷ gs) reduced =
      led_gives (λ (w : ℤ). (w ≡ q *ℤ g.1) × IsTrue (fits_form w)) (λ (ps : List (A × ℤ)). IsApart same g.0 ps × AreReduced same ps)
      (AreReduced same)
      g.0 (computed Mul q g.1) (scaled q gs) (computed_gives Mul q g.1)
      (gives_both (IsApart same g.0) (AreReduced same) (scaled q gs) (scaled_among (λ (x : A). same g.0 x ≡ false) q gs reduced.1)
      (scaled_reduced same q gs reduced.2))
      (λ z ps number rest. with_part_has (AreReduced same) g.0 z ps (λ (zero : z ≡ pos 0). rest.1)
      (λ (some : z ≡ pos 0 → ⊥). (some, rest.0, rest.1)))

  module _ (same : A → A → Bool) (p q : ℤ) (gs others : List (A × ℤ)) where
    joined_inside : (fs : List (A × ℤ)) → Gives AreInside (joined_parts same p fs q gs others)
    joined_inside [] = scaled_inside q others
    joined_inside (f ∷ fs) =
        led_gives (IsSum p f.1 q (coefficient same f.0 gs)) AreInside AreInside f.0 (met_part same p f q gs)
        (joined_parts same p fs q gs others) (met_part_gives same p f q gs) (joined_inside fs)
        (λ z ps number rest. with_part_has AreInside f.0 z ps (λ (zero : z ≡ pos 0). rest) (λ (some : z ≡ pos 0 → ⊥). (number.1, rest)))

    joined_among : (P : A → Type 0) (fs : List (A × ℤ)) → AreAmong P fs → AreAmong P others →
        Gives (AreAmong P) (joined_parts same p fs q gs others)
    joined_among P [] first second = scaled_among P q others second
    joined_among P (f ∷ fs) first second =
        led_gives (IsSum p f.1 q (coefficient same f.0 gs)) (AreAmong P) (AreAmong P) f.0 (met_part same p f q gs)
        (joined_parts same p fs q gs others) (met_part_gives same p f q gs)
        (joined_among P fs first.1 second)
        (λ z ps number rest. with_part_has (AreAmong P) f.0 z ps (λ (zero : z ≡ pos 0). rest) (λ (some : z ≡ pos 0 → ⊥). (first.0, rest)))

    joined_reduced : (fs : List (A × ℤ)) → AreReduced same fs → AreReduced same others → Each (λ r. IsApart same r.0 others) fs →
        Gives (AreReduced same) (joined_parts same p fs q gs others)
    joined_reduced [] first second apart = scaled_reduced same q others second
    joined_reduced (f ∷ fs) first second apart =
        led_gives (IsSum p f.1 q (coefficient same f.0 gs)) (λ (ps : List (A × ℤ)). IsApart same f.0 ps × AreReduced same ps)
        (AreReduced same)
        f.0 (met_part same p f q gs) (joined_parts same p fs q gs others) (met_part_gives same p f q gs)
        (gives_both (IsApart same f.0) (AreReduced same) (joined_parts same p fs q gs others)
        (joined_among (λ (x : A). same f.0 x ≡ false) fs first.1 apart.0) (joined_reduced fs first.2 second apart.1))
        (λ z ps number rest. with_part_has (AreReduced same) f.0 z ps (λ (zero : z ≡ pos 0). rest.1)
        (λ (some : z ≡ pos 0 → ⊥). (some, rest.0, rest.1)))

  -- what only the second form has is apart from each atom of the first
  others_apart : (same : A → A → Bool) → IsSound same → (fs gs : List (A × ℤ)) → AreReduced same gs → (rs : List (A × ℤ)) →
      Each (λ r. coefficient same r.0 fs ≡ pos 0 → ⊥) rs →
      Each (λ r. IsApart same r.0 (filter (λ s. int_eq (coefficient same s.0 fs) (pos 0)) gs)) rs
  others_apart same sound fs gs reduced [] each = tt
  others_apart same sound fs gs reduced (r ∷ rs) each =
      let test = λ (x : A). int_eq (coefficient same x fs) (pos 0) in
      let others = filter (λ s. test s.0) gs in
      let none : coefficient same r.0 others ≡ pos 0 =
      coefficient_filter same sound test r.0 gs
      ∙ ap (λ (b : Bool). if b then coefficient same r.0 gs else pos 0) (other_test (coefficient same r.0 fs) each.0) in (
        zero_apart same sound r.0 others (reduced_filter same (λ s. test s.0) gs reduced) none,
        others_apart same sound fs gs reduced rs
            each.1,
      )

  -- the atoms of a reduced list have coefficients in it that aren't 0
  pub reduced_some : (same : A → A → Bool) → IsSound same → IsReflexive same → (ps : List (A × ℤ)) → AreReduced same ps →
      Each (λ r. coefficient same r.0 ps ≡ pos 0 → ⊥) ps
  reduced_some same sound reflexive [] reduced = tt
  reduced_some same sound reflexive (p ∷ ps) reduced = (
    λ (zero : coefficient same p.0 (p ∷ ps) ≡ pos 0). reduced.0
        (sym (coefficient_one same p.0 p ps sound reduced.1 (reflexive p.0)) ∙ zero),
    later ps reduced.1 (reduced_some same sound reflexive ps reduced.2),
  )
    where
      later : (rs : List (A × ℤ)) → IsApart same p.0 rs → Each (λ r. coefficient same r.0 ps ≡ pos 0 → ⊥) rs →
          Each (λ r. coefficient same r.0 (p ∷ ps) ≡ pos 0 → ⊥) rs
      later [] apart each = tt
      later (r ∷ rs) apart each = (
        λ (zero : coefficient same r.0 (p ∷ ps) ≡ pos 0). each.0
            (sym (coefficient_past same r.0 p ps (apart_turned same sound p.0 r.0 apart.0)) ∙ zero),
        later rs apart.1 each.1,
      )

  -- a form with each atom once, no coefficient that is 0, and numbers in the range
  pub record IsReduced (same : A → A → Bool) (f : Linear A) : Type 0 where
    pub parts : AreReduced same f.parts
    pub numbers : AreInside f.parts
    pub constant : IsTrue (fits_form f.constant)

  module _ (same : A → A → Bool) (sound : IsSound same) (reflexive : IsReflexive same) where
    -- sums of reduced forms are reduced
    pub combination_reduced : (f g : Linear A) (p q : ℤ) (kind : Kind) → AreReduced same f.parts → AreReduced same g.parts →
        Gives (IsReduced same) (combination same f p g q kind)
    combination_reduced f g p q kind first second =
        let others = filter (λ r. int_eq (coefficient same r.0 f.parts) (pos 0)) g.parts in
        formed_gives (λ (ps : List (A × ℤ)). AreReduced same ps × AreInside ps) (IsSum p f.constant q g.constant) (IsReduced same)
        (joined_parts same p f.parts q g.parts others) (combined_number p f.constant q g.constant) kind
        (gives_both (AreReduced same) AreInside (joined_parts same p f.parts q g.parts others)
        (joined_reduced same p q g.parts others f.parts first
        (reduced_filter same (λ r. int_eq (coefficient same r.0 f.parts) (pos 0)) g.parts second)
        (others_apart same sound f.parts g.parts second f.parts (reduced_some same sound reflexive f.parts first)))
        (joined_inside same p q g.parts others f.parts))
        (combined_number_gives p f.constant q g.constant)
        (λ ps c both number. record { parts = both.0; numbers = both.1; constant = number.1 })

  -- their atoms are atoms of the forms
  pub combination_among : (same : A → A → Bool) (P : A → Type 0) (f g : Linear A) (p q : ℤ) (kind : Kind) → AreAmong P f.parts →
      AreAmong P g.parts →
      Gives (λ (h : Linear A). AreAmong P h.parts) (combination same f p g q kind)
  combination_among same P f g p q kind first second =
      let others = filter (λ r. int_eq (coefficient same r.0 f.parts) (pos 0)) g.parts in
      formed_gives (AreAmong P) (IsSum p f.constant q g.constant) (λ (h : Linear A). AreAmong P h.parts)
      (joined_parts same p f.parts q g.parts others) (combined_number p f.constant q g.constant) kind
      (joined_among same p q g.parts others P f.parts first
      (each_filter same (λ r. P r.0) (λ r. int_eq (coefficient same r.0 f.parts) (pos 0)) g.parts second))
      (combined_number_gives p f.constant q g.constant)
      (λ ps c among number. among)

  pub divided_among : (P : A → Type 0) (d : ℕ) (ps : List (A × ℤ)) → AreAmong P ps → AreAmong P (divided_parts d ps)
  divided_among P d [] each = tt
  divided_among P d (p ∷ ps) each = (each.0, divided_among P d ps each.1)

  divided_inside : (d : ℕ) (ps : List (A × ℤ)) → AreInside ps → AreInside (divided_parts d ps)
  divided_inside d [] each = tt
  divided_inside d (p ∷ ps) each = (floor_fits p.1 d each.0, divided_inside d ps each.1)

  divided_reduced_parts : (same : A → A → Bool) (d : ℕ) (ps : List (A × ℤ)) → DividesEach d ps → AreReduced same ps →
      AreReduced same (divided_parts d ps)
  divided_reduced_parts same d [] each reduced = tt
  divided_reduced_parts same d (p ∷ ps) each reduced = (
    floor_some p.1 d each.0 reduced.0,
    divided_among (λ (x : A). same p.0 x ≡ false) d ps reduced.1,
    divided_reduced_parts same d ps
        each.1 reduced.2,
  )

  -- a reduced form divided is reduced
  pub divided_reduced : (same : A → A → Bool) (f : Linear A) → IsReduced same f → IsReduced same (divided f)
  divided_reduced same f reduced =
      let is = gcd_is (nat_abs f.constant) (divisor_of_parts f.parts) in
      let d = gcd (nat_abs f.constant) (divisor_of_parts f.parts) in
      record {
        parts = divided_reduced_parts same d f.parts (divisor_divides d f.parts is.1) reduced.parts;
        numbers = divided_inside d f.parts reduced.numbers;
        constant = floor_fits f.constant d reduced.constant;
      }

  pub without_reduced : (same : A → A → Bool) (t : A) (f : Linear A) → AreReduced same f.parts →
      AreReduced same (parts_without same t f.parts)
  without_reduced same t f reduced = reduced_filter same (λ r. not (same t r.0)) f.parts reduced

  -- the sum of reduced forms in which an atom cancels is reduced
  pub elimination_reduced : (same : A → A → Bool) → IsSound same → IsReflexive same → (f g : Linear A) (t : A) → AreReduced same f.parts →
      AreReduced same g.parts →
      Gives (IsReduced same) (elimination same f g t)
  elimination_reduced same sound reflexive f g t first second =
      let m = multipliers (coefficient same t f.parts) (coefficient same t g.parts) g.kind in
      then_gives (IsReduced same) (IsReduced same)
      (combination same (without same t f) m.0 (without same t g) m.1 (kind_of_sum f.kind g.kind)) (λ h. Fits (divided h))
      (combination_reduced same sound reflexive (without same t f) (without same t g) m.0 m.1 (kind_of_sum f.kind g.kind)
      (without_reduced same t f first) (without_reduced same t g second))
      (λ (h : Linear A) (reduced : IsReduced same h). divided_reduced same h reduced)

  -- its atoms are those of the forms
  pub elimination_among : (same : A → A → Bool) (P : A → Type 0) (f g : Linear A) (t : A) → AreAmong P f.parts → AreAmong P g.parts →
      Gives (λ (h : Linear A). AreAmong P h.parts) (elimination same f g t)
  elimination_among same P f g t first second =
      let m = multipliers (coefficient same t f.parts) (coefficient same t g.parts) g.kind in
      then_gives (λ (h : Linear A). AreAmong P h.parts) (λ (h : Linear A). AreAmong P h.parts)
      (combination same (without same t f) m.0 (without same t g) m.1 (kind_of_sum f.kind g.kind)) (λ h. Fits (divided h))
      (combination_among same P (without same t f) (without same t g) m.0 m.1 (kind_of_sum f.kind g.kind)
      (each_filter same (λ r. P r.0) (λ r. not (same t r.0)) f.parts first)
      (each_filter same (λ r. P r.0) (λ r. not (same t r.0)) g.parts second))
      (λ (h : Linear A) (among : AreAmong P h.parts). divided_among P (gcd (nat_abs h.constant) (divisor_of_parts h.parts)) h.parts among)

  tightened_by_reduced : (same : A → A → Bool) (d : ℕ) (ps : List (A × ℤ)) (c : ℤ) (kind : Kind) → DividesEach d ps → AreReduced same ps →
      AreInside ps → IsTrue (fits_form c) →
      IsReduced same (tightened_by d ps c kind)
  tightened_by_reduced same d ps c Le each reduced inside constant =
      record {
        parts = divided_reduced_parts same d ps each reduced;
        numbers = divided_inside d ps inside;
        constant = ceiling_fits c d
            constant;
      }
  tightened_by_reduced same d ps c Eq each reduced inside constant = by (nat_abs c % d == 0)
    where
      by : (b : Bool) → IsReduced same
          (if b then record { parts = divided_parts d ps; constant = floor_of c d; kind = Eq } else one_is_zero)
      by true = record {
        parts = divided_reduced_parts same d ps each reduced;
        numbers = divided_inside d ps inside;
        constant = floor_fits c
            d constant;
      }
      by false = record { parts = tt; numbers = tt; constant = refl }

  -- a reduced form made tight is reduced
  pub tightened_reduced : (same : A → A → Bool) (f : Linear A) → IsReduced same f → IsReduced same (tightened f)
  tightened_reduced same f reduced = by f.parts f.constant f.kind reduced.parts reduced.numbers reduced.constant
    where
      by : (ps : List (A × ℤ)) (c : ℤ) (kind : Kind) → AreReduced same ps → AreInside ps → IsTrue (fits_form c) →
          IsReduced same (if has_no_part ps then record { parts = ps; constant = c; kind = kind } else tightened_by (divisor_of_parts ps) ps
          c kind)
      by [] c kind reduced inside constant = record { parts = reduced; numbers = inside; constant = constant }
      by (p ∷ ps) c kind reduced inside constant =
          tightened_by_reduced same (divisor_of_parts (p ∷ ps)) (p ∷ ps) c kind
          (divisor_divides (divisor_of_parts (p ∷ ps)) (p ∷ ps) (dvd_refl (divisor_of_parts (p ∷ ps)))) reduced inside constant

  tightened_by_among : (P : A → Type 0) (d : ℕ) (ps : List (A × ℤ)) (c : ℤ) (kind : Kind) → AreAmong P ps →
      AreAmong P (tightened_by d ps c kind).parts
  tightened_by_among P d ps c Le each = divided_among P d ps each
  tightened_by_among P d ps c Eq each = by (nat_abs c % d == 0)
    where
      by : (b : Bool) → AreAmong P
          (if b then record { parts = divided_parts d ps; constant = floor_of c d; kind = Eq } else one_is_zero).parts
      by true = divided_among P d ps each
      by false = tt

  -- over its atoms
  pub tightened_among : (P : A → Type 0) (f : Linear A) → AreAmong P f.parts → AreAmong P (tightened f).parts
  tightened_among P f each = by f.parts f.constant f.kind each
    where
      by : (ps : List (A × ℤ)) (c : ℤ) (kind : Kind) → AreAmong P ps →
          AreAmong P (if has_no_part ps then record { parts = ps; constant = c; kind = kind } else tightened_by (divisor_of_parts ps) ps c
          kind).parts
      by [] c kind each = each
      by (p ∷ ps) c kind each = tightened_by_among P (divisor_of_parts (p ∷ ps)) (p ∷ ps) c kind each
