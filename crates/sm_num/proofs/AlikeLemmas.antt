-- Sums of forms that are alike come out alike, whatever the order of their parts.
use Rattle.sm_num.proofs.Imports.{◌≡◌, ℤ, pos, ◌+ℤ◌, ◌*ℤ◌, Bool, true, false, if◌then◌else◌, IsTrue, List, [], ◌∷◌, filter, refl, sym, ap, subst, ◌∙◌, ⊎_elim, arith, cases_Bool, int_eq, Decides-int_eq, exact, fits_form, coefficient, Kind, Outcome, Fits, Leaves, then_with, computed, combined_number, with_part, led_by, scaled, formed, met_part, joined_parts, Op, Add, Mul, ComeOutAlike}
use Rattle.sm_num.proofs.RingLemmas.{sums, mul_zero}
use Rattle.sm_num.proofs.OutcomeLemmas.{with_part_has}
use Rattle.sm_num.proofs.SameAtomLemmas.{IsSound, IsReflexive, AreReduced, zero_test, other_test, coefficient_past, coefficient_one, coefficient_filter, apart_zero, reduced_filter}

-- a number is computed where the exact one is in the range
pub computed_inside : (op : Op) (y z w : ℤ) → exact op y z ≡ w → IsTrue (fits_form w) → computed op y z ≡ Fits w
computed_inside op y z w is inside =
    ap (λ (x : ℤ). if fits_form x then Fits x else Leaves op y z) is ∙ ap (λ (b : Bool). if b then Fits w else Leaves op y z) inside

-- a product alone is the sum of it and nothing
pub product_alone : (p y q : ℤ) → computed Mul p y ≡ combined_number p y q (pos 0)
product_alone p y q = by (fits_form (p *ℤ y)) refl
  where
    by : (b : Bool) → fits_form (p *ℤ y) ≡ b →
        (if b then Fits (p *ℤ y) else Leaves Mul p y)
        ≡ then_with (if b then Fits (p *ℤ y) else Leaves Mul p y)
        (λ (a : ℤ). then_with (computed Mul q (pos 0)) (λ (b : ℤ). computed Add a b))
    by true e =
        sym (ap (λ outcome. then_with outcome (λ (b : ℤ). computed Add (p *ℤ y) b))
        (computed_inside Mul q (pos 0) (pos 0) (mul_zero q) refl)
        ∙ computed_inside Add (p *ℤ y) (pos 0) (p *ℤ y) (omega (arith, sums)) e)
    by false e = refl

-- on either side
pub other_product_alone : (p q z : ℤ) → computed Mul q z ≡ combined_number p (pos 0) q z
other_product_alone p q z = by (fits_form (q *ℤ z)) refl
    ∙ sym (ap (λ outcome. then_with outcome (λ (a : ℤ). then_with (computed Mul q z) (λ (b : ℤ). computed Add a b)))
    (computed_inside Mul p (pos 0) (pos 0) (mul_zero p) refl))
  where
    by : (b : Bool) → fits_form (q *ℤ z) ≡ b →
        (if b then Fits (q *ℤ z) else Leaves Mul q z)
        ≡ then_with (if b then Fits (q *ℤ z) else Leaves Mul q z) (λ (b : ℤ). computed Add (pos 0) b)
    by true e = sym (computed_inside Add (pos 0) (q *ℤ z) (q *ℤ z) (omega (arith, sums)) e)
    by false e = refl

-- nothing and nothing
pub nothing_combined : (p q : ℤ) → combined_number p (pos 0) q (pos 0) ≡ Fits (pos 0)
nothing_combined p q = sym (product_alone p (pos 0) q) ∙ computed_inside Mul p (pos 0) (pos 0) (mul_zero p) refl

-- a number leaves the range
abbrev pub LeavesRange : Outcome ℤ → Type 0
LeavesRange (Fits z) = ⊥
LeavesRange (Leaves op y z) = Unit {0}

-- the number, where there is one
abbrev number_of : Outcome ℤ → ℤ
number_of (Fits z) = z
number_of (Leaves op y z) = pos 0

pub same_number : (y z : ℤ) → Fits y ≡ Fits z → y ≡ z
same_number y z e = ap number_of e

pub never_both : (outcome : Outcome ℤ) (z : ℤ) → outcome ≡ Fits z → LeavesRange outcome → ⊥
never_both outcome z e leaves = subst LeavesRange e leaves

module _ {A : Type 0} (same : A → A → Bool) where
  -- computed parts have the computed coefficient of each atom, and there are none where one of these
  -- leaves the range
  abbrev pub ComesOut : (A → Outcome ℤ) → Outcome (List (A × ℤ)) → Type 0
  ComesOut u (Fits ps) = (t : A) → u t ≡ Fits (coefficient same t ps)
  ComesOut u (Leaves op y z) = (t : A) × LeavesRange (u t)

  pub comes_out_at : (u w : A → Outcome ℤ) (outcome : Outcome (List (A × ℤ))) → ((t : A) → u t ≡ w t) → ComesOut u outcome →
      ComesOut w outcome
  comes_out_at u w (Fits ps) equal out = λ (t : A). sym (equal t) ∙ out t
  comes_out_at u w (Leaves op y z) equal out = (out.0, subst LeavesRange (equal out.0) out.1)

  -- a part that goes where its coefficient is 0 gives its atom that coefficient
  coefficient_with_part : (t a : A) (z : ℤ) (ps : List (A × ℤ)) →
      coefficient same t (with_part a z ps) ≡ (if same t a then z +ℤ coefficient same t ps else coefficient same t ps)
  coefficient_with_part t a z ps =
      with_part_has (λ (rs : List (A × ℤ)). coefficient same t rs
      ≡ (if same t a then z +ℤ coefficient same t ps else coefficient same t ps)) a z ps
      (λ (zero : z ≡ pos 0). by (same t a) zero) (λ (some : z ≡ pos 0 → ⊥). refl)
    where
      by : (b : Bool) → z ≡ pos 0 → coefficient same t ps ≡ (if b then z +ℤ coefficient same t ps else coefficient same t ps)
      by true zero = omega (arith, sums)
      by false zero = refl

  -- a part and what follows it, which has nothing of its atom
  pub led_comes_out : IsSound same → (u w : A → Outcome ℤ) (a : A) (c : Outcome ℤ) (rest : Outcome (List (A × ℤ))) → c ≡ u a →
      w a ≡ Fits (pos 0) →
      ((t : A) → same t a ≡ false → w t ≡ u t) → ComesOut w rest → ComesOut u (led_by a c rest)
  led_comes_out sound u w a (Leaves op y z) rest here none past out = (a, subst LeavesRange here tt)
  led_comes_out sound u w a (Fits z) (Leaves op x y) here none past out = (
    out.0,
    ⊎_elim
        (λ (e : same out.0 a ≡ true). absurd (never_both (w a) (pos 0) none (subst (λ (x : A). LeavesRange (w x)) (sound out.0 a e) out.1)))
        (λ (e : same out.0 a ≡ false). subst LeavesRange (past out.0 e) out.1)
        (cases_Bool (same out.0 a)),
  )
  led_comes_out sound u w a (Fits z) (Fits ps) here none past out = λ (t : A).
      ⊎_elim
      (λ (e : same t a ≡ true).
      let equal = sound t a e in
      let zero : coefficient same t ps ≡ pos 0 = same_number (coefficient same t ps) (pos 0) (sym (out t) ∙ ap w equal ∙ none) in
      let sum : z ≡ z +ℤ coefficient same t ps = omega (arith, sums) in
      ap u equal ∙ sym here ∙ ap Fits sum
      ∙ ap (λ (b : Bool). Fits (if b then z +ℤ coefficient same t ps else coefficient same t ps)) (sym e)
      ∙ ap Fits (sym (coefficient_with_part t a z ps)))
      (λ (e : same t a ≡ false).
      sym (past t e) ∙ out t ∙ ap (λ (b : Bool). Fits (if b then z +ℤ coefficient same t ps else coefficient same t ps)) (sym e)
      ∙ ap Fits (sym (coefficient_with_part t a z ps)))
      (cases_Bool (same t a))

  -- p times one coefficient and q times another
  abbrev pub summed : ℤ → ℤ → List (A × ℤ) → List (A × ℤ) → A → Outcome ℤ
  summed p q fs gs t = combined_number p (coefficient same t fs) q (coefficient same t gs)

  -- what a part meets is p times it and q times the other coefficient
  met_part_is : (p : ℤ) (f : A × ℤ) (q : ℤ) (gs : List (A × ℤ)) → met_part same p f q gs ≡ combined_number p f.1 q (coefficient same f.0 gs)
  met_part_is p f q gs = by (coefficient same f.0 gs) (int_eq (coefficient same f.0 gs) (pos 0)) refl
    where
      by : (d : ℤ) (b : Bool) → int_eq d (pos 0) ≡ b →
          (if b then computed Mul p f.1 else combined_number p f.1 q d) ≡ combined_number p f.1 q d
      by d true e = product_alone p f.1 q ∙ ap (combined_number p f.1 q) (sym ((Decides-int_eq d (pos 0)).0 e))
      by d false e = refl

  module _ (sound : IsSound same) (reflexive : IsReflexive same) where
    pub scaled_comes_out : (p q : ℤ) (gs : List (A × ℤ)) → AreReduced same gs → ComesOut (summed p q [] gs) (scaled q gs)
    scaled_comes_out p q [] reduced = λ (t : A). nothing_combined p q
    scaled_comes_out p q (g ∷ gs) reduced =
        led_comes_out sound (summed p q [] (g ∷ gs)) (summed p q [] gs) g.0 (computed Mul q g.1) (scaled q gs)
        (other_product_alone p q g.1 ∙ ap (combined_number p (pos 0) q)
        (sym (coefficient_one same g.0 g gs sound reduced.1 (reflexive g.0))))
        (ap (combined_number p (pos 0) q) (apart_zero same g.0 gs reduced.1) ∙ nothing_combined p q)
        (λ (t : A) (e : same t g.0 ≡ false). ap (combined_number p (pos 0) q) (sym (coefficient_past same t g gs e)))
        (scaled_comes_out p q gs reduced.2)

    -- parts that are joined: w has the other form's coefficients at the atoms that are left
    joined_comes_out : (p q : ℤ) (gs others : List (A × ℤ)) → AreReduced same others → (fs : List (A × ℤ)) (w : A → ℤ) →
        AreReduced same fs →
        ((t : A) → (coefficient same t fs ≡ pos 0 → ⊥) → w t ≡ coefficient same t gs) →
        ((t : A) → coefficient same t fs ≡ pos 0 → w t ≡ coefficient same t others) →
        ((t : A) → (coefficient same t fs ≡ pos 0 → ⊥) → coefficient same t others ≡ pos 0) →
        ComesOut (λ (t : A). combined_number p (coefficient same t fs) q (w t)) (joined_parts same p fs q gs others)
    joined_comes_out p q gs others reduced [] w first both only apart =
        comes_out_at (summed p q [] others) (λ (t : A). combined_number p (pos 0) q (w t)) (scaled q others)
        (λ (t : A). ap (combined_number p (pos 0) q) (sym (only t refl)))
        (scaled_comes_out p q others reduced)
    joined_comes_out p q gs others reduced (f ∷ fs) w first both only apart =
        let here : coefficient same f.0 (f ∷ fs) ≡ f.1 = coefficient_one same f.0 f fs sound first.1 (reflexive f.0) in
        let none : coefficient same f.0 fs ≡ pos 0 = apart_zero same f.0 fs first.1 in
        let at : w f.0 ≡ coefficient same f.0 gs = both f.0 (λ (zero : coefficient same f.0 (f ∷ fs) ≡ pos 0). first.0 (sym here ∙ zero)) in
        let rest : A → ℤ = λ (t : A). if same t f.0 then pos 0 else w t in
        let rest_here : (t : A) → same t f.0 ≡ true → rest t ≡ pos 0 =
        λ (t : A) (e : same t f.0 ≡ true). ap (λ (b : Bool). if b then pos 0 else w t) e in
        let rest_past : (t : A) → same t f.0 ≡ false → rest t ≡ w t =
        λ (t : A) (e : same t f.0 ≡ false). ap (λ (b : Bool). if b then pos 0 else w t) e in
        led_comes_out sound (λ (t : A). combined_number p (coefficient same t (f ∷ fs)) q (w t))
        (λ (t : A). combined_number p (coefficient same t fs) q (rest t))
        f.0 (met_part same p f q gs) (joined_parts same p fs q gs others)
        (met_part_is p f q gs ∙ ap (λ (y : ℤ). combined_number p y q (coefficient same f.0 gs)) (sym here)
        ∙ ap (combined_number p (coefficient same f.0 (f ∷ fs)) q) (sym at))
        (ap (λ (y : ℤ). combined_number p y q (rest f.0)) none ∙ ap (combined_number p (pos 0) q) (rest_here f.0 (reflexive f.0))
        ∙ nothing_combined p q)
        (λ (t : A) (e : same t f.0 ≡ false).
        ap (λ (y : ℤ). combined_number p y q (rest t)) (sym (coefficient_past same t f fs e))
        ∙ ap (combined_number p (coefficient same t (f ∷ fs)) q) (rest_past t e))
        (joined_comes_out p q gs others reduced fs rest first.2
        (λ (t : A) (some : coefficient same t fs ≡ pos 0 → ⊥).
        ⊎_elim
        (λ (e : same t f.0 ≡ true). absurd (some (ap (λ (x : A). coefficient same x fs) (sound t f.0 e) ∙ none)))
        (λ (e : same t f.0 ≡ false). rest_past t e ∙ both t
        (λ (zero : coefficient same t (f ∷ fs) ≡ pos 0). some (sym (coefficient_past same t f fs e) ∙ zero)))
        (cases_Bool (same t f.0)))
        (λ (t : A) (zero : coefficient same t fs ≡ pos 0).
        ⊎_elim
        (λ (e : same t f.0 ≡ true).
        rest_here t e
        ∙ sym (apart t (λ (none_here : coefficient same t (f ∷ fs) ≡ pos 0). first.0
        (sym here ∙ ap (λ (x : A). coefficient same x (f ∷ fs)) (sym (sound t f.0 e)) ∙ none_here))))
        (λ (e : same t f.0 ≡ false). rest_past t e ∙ only t (coefficient_past same t f fs e ∙ zero))
        (cases_Bool (same t f.0)))
        (λ (t : A) (some : coefficient same t fs ≡ pos 0 → ⊥).
        ⊎_elim
        (λ (e : same t f.0 ≡ true). absurd (some (ap (λ (x : A). coefficient same x fs) (sound t f.0 e) ∙ none)))
        (λ (e : same t f.0 ≡ false). apart t
        (λ (zero : coefficient same t (f ∷ fs) ≡ pos 0). some (sym (coefficient_past same t f fs e) ∙ zero)))
        (cases_Bool (same t f.0))))

    -- the parts of a combination
    pub combination_comes_out : (p q : ℤ) (fs gs : List (A × ℤ)) → AreReduced same fs → AreReduced same gs →
        ComesOut (summed p q fs gs) (joined_parts same p fs q gs (filter (λ r. int_eq (coefficient same r.0 fs) (pos 0)) gs))
    combination_comes_out p q fs gs first second =
        let test : A → Bool = λ (x : A). int_eq (coefficient same x fs) (pos 0) in
        let others = filter (λ r. test r.0) gs in
        let is : (t : A) → coefficient same t others ≡ (if test t then coefficient same t gs else pos 0) =
        λ (t : A). coefficient_filter same sound test t gs in
        joined_comes_out p q gs others (reduced_filter same (λ r. test r.0) gs second) fs (λ (t : A). coefficient same t gs) first
        (λ (t : A) (some : coefficient same t fs ≡ pos 0 → ⊥). refl)
        (λ (t : A) (zero : coefficient same t fs ≡ pos 0).
        sym (is t ∙ ap (λ (b : Bool). if b then coefficient same t gs else pos 0) (zero_test (coefficient same t fs) zero)))
        (λ (t : A) (some : coefficient same t fs ≡ pos 0 → ⊥). is t ∙ ap (λ (b : Bool). if b then coefficient same t gs else pos 0)
        (other_test (coefficient same t fs) some))

  -- parts that come out of one computation, with one constant, are forms that are alike
  pub formed_alike : (u : A → Outcome ℤ) (first second : Outcome (List (A × ℤ))) (constant : Outcome ℤ) (kind : Kind) → ComesOut u first →
      ComesOut u second →
      ComeOutAlike same (formed first constant kind) (formed second constant kind)
  formed_alike u (Fits ps) (Fits qs) (Fits c) kind out other =
      record {
        kind = refl;
        constant = refl;
        coefficients = λ (t : A). same_number (coefficient same t ps) (coefficient same t qs)
            (sym (out t) ∙ other t);
      }
  formed_alike u (Fits ps) (Fits qs) (Leaves op y z) kind out other = tt
  formed_alike u (Fits ps) (Leaves op y z) constant kind out other =
      absurd (never_both (u other.0) (coefficient same other.0 ps) (out other.0) other.1)
  formed_alike u (Leaves op y z) (Fits qs) constant kind out other =
      absurd (never_both (u out.0) (coefficient same out.0 qs) (other out.0) out.1)
  formed_alike u (Leaves op y z) (Leaves op' y' z') constant kind out other = tt
