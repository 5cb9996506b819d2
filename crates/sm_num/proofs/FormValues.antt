-- The values of sums of forms.
use Rattle.sm_num.proofs.Imports.{◌≡◌, ℕ, ◌==◌, nat_lt, ℤ, pos, ◌+ℤ◌, ◌*ℤ◌, Bool, true, false, not, if◌then◌else◌, List, [], ◌∷◌, filter, refl, sym, ap, subst, ◌∙◌, ⊎_elim, arith, cases_Bool, eqb-true, int_eq, Decides-int_eq, Linear, sum_of_parts, coefficient, parts_without, Kind, Fits, computed, combined_number, with_part, led_by, scaled, merged, merged_part, combined, met_part, joined_parts, combination, Mul, value_of_form}
use Rattle.sm_num.proofs.RingLemmas.{zero_mul, sums, ring}
use Rattle.sm_num.proofs.OutcomeLemmas.{Gives, gives_fits, gives_more, IsSum, combined_number_gives, product_gives, other_product_gives, led_gives, met_part_gives, formed_gives, with_part_has}
use Rattle.sm_num.proofs.SameAtomLemmas.{IsSound, IsApart, AreReduced, same_turned, apart_turned, coefficient_past, zero_apart, other_tested}

-- one product more in a sum of two
one_more : (p q y z w x r s t : ℤ) → w ≡ (p *ℤ y) +ℤ (q *ℤ z) → t ≡ (p *ℤ r) +ℤ (q *ℤ s) →
    (w *ℤ x) +ℤ t ≡ (p *ℤ ((y *ℤ x) +ℤ r)) +ℤ (q *ℤ ((z *ℤ x) +ℤ s))
one_more p q y z w x r s t first second = rw (first, second) (simp ring (omega (arith, sums)))

-- one product more in a sum of two, where the second has no such product
one_first : (p q y w x r s t : ℤ) → w ≡ (p *ℤ y) +ℤ (q *ℤ pos 0) → t ≡ (p *ℤ r) +ℤ (q *ℤ s) →
    (w *ℤ x) +ℤ t ≡ (p *ℤ ((y *ℤ x) +ℤ r)) +ℤ (q *ℤ s)
one_first p q y w x r s t first second = rw (first, second) (simp ring (omega (arith, sums)))

-- one product more in a sum of two, where the first has no such product
one_second : (p q z w x r s t : ℤ) → w ≡ (p *ℤ pos 0) +ℤ (q *ℤ z) → t ≡ (p *ℤ r) +ℤ (q *ℤ s) →
    (w *ℤ x) +ℤ t ≡ (p *ℤ r) +ℤ (q *ℤ ((z *ℤ x) +ℤ s))
one_second p q z w x r s t first second = rw (first, second) (simp ring (omega (arith, sums)))

module _ {A : Type 0} (v : A → ℤ) where
  -- a part and the parts that follow it
  pub sum_with_part : (a : A) (z : ℤ) (ps : List (A × ℤ)) → sum_of_parts v (with_part a z ps) ≡ (z *ℤ v a) +ℤ sum_of_parts v ps
  sum_with_part a z ps =
      with_part_has (λ (rs : List (A × ℤ)). sum_of_parts v rs ≡ (z *ℤ v a) +ℤ sum_of_parts v ps) a z ps
      (λ (zero : z ≡ pos 0). let none : z *ℤ v a ≡ pos 0 = ap (λ (x : ℤ). x *ℤ v a) zero ∙ zero_mul (v a) in omega (arith, sums))
      (λ (some : z ≡ pos 0 → ⊥). refl)

  -- q times parts
  pub scaled_value : (p q : ℤ) (gs : List (A × ℤ)) →
      Gives (λ (ps : List (A × ℤ)). sum_of_parts v ps ≡ (p *ℤ pos 0) +ℤ (q *ℤ sum_of_parts v gs)) (scaled q gs)
  scaled_value p q [] = simp ring (omega (arith, sums))
  scaled_value p q (g ∷ gs) =
      led_gives (IsSum p (pos 0) q g.1) (λ (ps : List (A × ℤ)). sum_of_parts v ps ≡ (p *ℤ pos 0) +ℤ (q *ℤ sum_of_parts v gs)) _
      g.0 (computed Mul q g.1) (scaled q gs) (other_product_gives p q g.1) (scaled_value p q gs)
      (λ z ps number rest. sum_with_part g.0 z ps ∙ one_second p q g.1 z (v g.0) (pos 0) (sum_of_parts v gs) (sum_of_parts v ps) number.0
      rest)

  -- the sum over the parts of one list, each times its coefficient in another
  abbrev crossed : (A → A → Bool) → List (A × ℤ) → List (A × ℤ) → ℤ
  crossed same [] gs = pos 0
  crossed same (f ∷ fs) gs = (coefficient same f.0 gs *ℤ v f.0) +ℤ crossed same fs gs

  -- parts joined
  pub joined_value : (same : A → A → Bool) (p q : ℤ) (fs gs others : List (A × ℤ)) →
      Gives (λ (ps : List (A × ℤ)). sum_of_parts v ps ≡ (p *ℤ sum_of_parts v fs) +ℤ (q *ℤ (crossed same fs gs +ℤ sum_of_parts v others)))
      (joined_parts same p fs q gs others)
  joined_value same p q [] gs others =
      gives_more _ _ (scaled q others) (scaled_value p q others)
      (λ (ps : List (A × ℤ)) (e : sum_of_parts v ps ≡ (p *ℤ pos 0) +ℤ (q *ℤ sum_of_parts v others)). e ∙ simp ring (omega (arith, sums)))
  joined_value same p q (f ∷ fs) gs others =
      led_gives (IsSum p f.1 q (coefficient same f.0 gs))
      (λ (ps : List (A × ℤ)). sum_of_parts v ps ≡ (p *ℤ sum_of_parts v fs) +ℤ (q *ℤ (crossed same fs gs +ℤ sum_of_parts v others))) _
      f.0 (met_part same p f q gs) (joined_parts same p fs q gs others) (met_part_gives same p f q gs) (joined_value same p q fs gs others)
      (λ z ps number rest.
      sum_with_part f.0 z ps
      ∙ one_more p q f.1 (coefficient same f.0 gs) z (v f.0) (sum_of_parts v fs) (crossed same fs gs +ℤ sum_of_parts v others)
      (sum_of_parts v ps) number.0 rest
      ∙ ap (λ (x : ℤ). (p *ℤ ((f.1 *ℤ v f.0) +ℤ sum_of_parts v fs)) +ℤ (q *ℤ x)) (omega (arith, sums)))

  -- one part's share of that sum
  abbrev shared : (A → A → Bool) → A × ℤ → List (A × ℤ) → ℤ
  shared same g [] = pos 0
  shared same g (f ∷ fs) = (if same f.0 g.0 then g.1 *ℤ v f.0 else pos 0) +ℤ shared same g fs

  crossed_none : (same : A → A → Bool) (fs : List (A × ℤ)) → crossed same fs [] ≡ pos 0
  crossed_none same [] = refl
  crossed_none same (f ∷ fs) = let none = zero_mul (v f.0) in let rest = crossed_none same fs in omega (arith, sums)

  crossed_more : (same : A → A → Bool) (fs : List (A × ℤ)) (g : A × ℤ) (gs : List (A × ℤ)) →
      crossed same fs (g ∷ gs) ≡ shared same g fs +ℤ crossed same fs gs
  crossed_more same [] g gs = refl
  crossed_more same (f ∷ fs) g gs = by (same f.0 g.0) (crossed_more same fs g gs)
    where
      by : (b : Bool) → crossed same fs (g ∷ gs) ≡ shared same g fs +ℤ crossed same fs gs →
          ((if b then g.1 +ℤ coefficient same f.0 gs else coefficient same f.0 gs) *ℤ v f.0) +ℤ crossed same fs (g ∷ gs)
          ≡ ((if b then g.1 *ℤ v f.0 else pos 0) +ℤ shared same g fs) +ℤ ((coefficient same f.0 gs *ℤ v f.0) +ℤ crossed same fs gs)
      by true rest = rw rest (simp ring (omega (arith, sums)))
      by false rest = rw rest (simp ring (omega (arith, sums)))

  shared_apart : (same : A → A → Bool) → IsSound same → (g : A × ℤ) (fs : List (A × ℤ)) → IsApart same g.0 fs → shared same g fs ≡ pos 0
  shared_apart same sound g [] apart = refl
  shared_apart same sound g (f ∷ fs) apart =
      let here = ap (λ (b : Bool). if b then g.1 *ℤ v f.0 else pos 0) (apart_turned same sound g.0 f.0 apart.0) in
      let rest = shared_apart same sound g fs apart.1 in
      omega (arith, sums)

  shared_once : (same : A → A → Bool) → IsSound same → (g : A × ℤ) (fs : List (A × ℤ)) → AreReduced same fs →
      (coefficient same g.0 fs ≡ pos 0 → ⊥) → shared same g fs ≡ g.1 *ℤ v g.0
  shared_once same sound g [] reduced some = absurd (some refl)
  shared_once same sound g (f ∷ fs) reduced some =
      ⊎_elim
      (λ (e : same g.0 f.0 ≡ true).
      let equal = sound g.0 f.0 e in
      let turned = same_turned same sound g.0 f.0 e in
      let here = ap (λ (b : Bool). if b then g.1 *ℤ v f.0 else pos 0) turned in
      let rest = shared_apart same sound g fs (subst (λ (x : A). IsApart same x fs) (sym equal) reduced.1) in
      let back = ap (λ (x : A). g.1 *ℤ v x) equal in
      omega (arith, sums))
      (λ (e : same g.0 f.0 ≡ false).
      let here = ap (λ (b : Bool). if b then g.1 *ℤ v f.0 else pos 0) (apart_turned same sound g.0 f.0 e) in
      let rest = shared_once same sound g fs reduced.2
      (λ (zero : coefficient same g.0 fs ≡ pos 0). some (coefficient_past same g.0 f fs e ∙ zero)) in
      omega (arith, sums))
      (cases_Bool (same g.0 f.0))

  -- what the parts of a reduced list have of another, with what only the other has, is the other
  pub crossed_value : (same : A → A → Bool) → IsSound same → (fs gs : List (A × ℤ)) → AreReduced same fs →
      crossed same fs gs +ℤ sum_of_parts v (filter (λ r. int_eq (coefficient same r.0 fs) (pos 0)) gs) ≡ sum_of_parts v gs
  crossed_value same sound fs [] reduced = let none = crossed_none same fs in omega (arith, sums)
  crossed_value same sound fs (g ∷ gs) reduced = by (int_eq (coefficient same g.0 fs) (pos 0)) refl (crossed_value same sound fs gs reduced)
    where
      by : (b : Bool) → int_eq (coefficient same g.0 fs) (pos 0) ≡ b →
          crossed same fs gs +ℤ sum_of_parts v (filter (λ r. int_eq (coefficient same r.0 fs) (pos 0)) gs) ≡ sum_of_parts v gs →
          crossed same fs (g ∷ gs) +ℤ sum_of_parts v
          (if b then g ∷ filter (λ r. int_eq (coefficient same r.0 fs) (pos 0)) gs else filter
          (λ r. int_eq (coefficient same r.0 fs) (pos 0)) gs)
          ≡ (g.1 *ℤ v g.0) +ℤ sum_of_parts v gs
      by true e rest =
          let more = crossed_more same fs g gs in
          let share = shared_apart same sound g fs
          (zero_apart same sound g.0 fs reduced ((Decides-int_eq (coefficient same g.0 fs) (pos 0)).0 e)) in
          omega (arith, sums)
      by false e rest =
          let more = crossed_more same fs g gs in
          let share = shared_once same sound g fs reduced (other_tested (coefficient same g.0 fs) e) in
          omega (arith, sums)

  -- the parts of a combination
  pub joined_gives_sum : (same : A → A → Bool) → IsSound same → (p q : ℤ) (fs gs : List (A × ℤ)) → AreReduced same fs →
      Gives (λ (ps : List (A × ℤ)). sum_of_parts v ps ≡ (p *ℤ sum_of_parts v fs) +ℤ (q *ℤ sum_of_parts v gs))
      (joined_parts same p fs q gs (filter (λ r. int_eq (coefficient same r.0 fs) (pos 0)) gs))
  joined_gives_sum same sound p q fs gs reduced =
      let others = filter (λ r. int_eq (coefficient same r.0 fs) (pos 0)) gs in
      gives_more (λ (ps : List (A × ℤ)). sum_of_parts v ps
      ≡ (p *ℤ sum_of_parts v fs) +ℤ (q *ℤ (crossed same fs gs +ℤ sum_of_parts v others)))
      (λ (ps : List (A × ℤ)). sum_of_parts v ps ≡ (p *ℤ sum_of_parts v fs) +ℤ (q *ℤ sum_of_parts v gs)) (joined_parts same p fs q gs others)
      (joined_value same p q fs gs others)
      (λ ps first. first ∙ ap (λ (x : ℤ). (p *ℤ sum_of_parts v fs) +ℤ (q *ℤ x)) (crossed_value same sound fs gs reduced))

  -- the value of p times f and q times g
  abbrev pub HasValue : Linear A → ℤ → Linear A → ℤ → Linear A → Type 0
  HasValue f p g q h = value_of_form v h ≡ (p *ℤ value_of_form v f) +ℤ (q *ℤ value_of_form v g)

  with_constants : (p q r s c d e t : ℤ) → t ≡ (p *ℤ r) +ℤ (q *ℤ s) → e ≡ (p *ℤ c) +ℤ (q *ℤ d) → t +ℤ e ≡ (p *ℤ (r +ℤ c)) +ℤ (q *ℤ (s +ℤ d))
  with_constants p q r s c d e t first second = rw (first, second) (simp ring (omega (arith, sums)))

  -- over any atoms, where the first form is reduced
  pub combination_gives_value : (same : A → A → Bool) → IsSound same → (f g : Linear A) (p q : ℤ) (kind : Kind) → AreReduced same f.parts →
      Gives (HasValue f p g q) (combination same f p g q kind)
  combination_gives_value same sound f g p q kind reduced =
      let others = filter (λ r. int_eq (coefficient same r.0 f.parts) (pos 0)) g.parts in
      formed_gives (λ (ps : List (A × ℤ)). sum_of_parts v ps ≡ (p *ℤ sum_of_parts v f.parts) +ℤ (q *ℤ sum_of_parts v g.parts))
      (IsSum p f.constant q g.constant) (HasValue f p g q) (joined_parts same p f.parts q g.parts others)
      (combined_number p f.constant q g.constant) kind
      (joined_gives_sum same sound p q f.parts g.parts reduced) (combined_number_gives p f.constant q g.constant)
      (λ ps c first second. with_constants p q (sum_of_parts v f.parts) (sum_of_parts v g.parts) f.constant g.constant c (sum_of_parts v ps)
      first second.0)

  -- the parts at an atom and the others
  pub sum_without : (same : A → A → Bool) → IsSound same → (t : A) (ps : List (A × ℤ)) →
      sum_of_parts v ps ≡ (coefficient same t ps *ℤ v t) +ℤ sum_of_parts v (parts_without same t ps)
  sum_without same sound t [] = let none = zero_mul (v t) in omega (arith, sums)
  sum_without same sound t (p ∷ ps) = by (same t p.0) refl (sum_without same sound t ps)
    where
      by : (b : Bool) → same t p.0 ≡ b → sum_of_parts v ps ≡ (coefficient same t ps *ℤ v t) +ℤ sum_of_parts v (parts_without same t ps) →
          (p.1 *ℤ v p.0) +ℤ sum_of_parts v ps
          ≡ ((if b then p.1 +ℤ coefficient same t ps else coefficient same t ps) *ℤ v t) +ℤ sum_of_parts v
          (if not b then p ∷ parts_without same t ps else parts_without same t ps)
      by true e rest = rw (rest, sound t p.0 e) (simp ring (omega (arith, sums)))
      by false e rest = rw rest (omega (arith, sums))

-- parts merged by ascending atom
merged_part_value : (v : ℕ → ℤ) (p q : ℤ) (f : ℕ × ℤ) (fs gs : List (ℕ × ℤ)) →
    ((rs : List (ℕ × ℤ)) → Gives (λ (ps : List (ℕ × ℤ)). sum_of_parts v ps ≡ (p *ℤ sum_of_parts v fs) +ℤ (q *ℤ sum_of_parts v rs))
    (merged p q fs rs)) →
    Gives (λ (ps : List (ℕ × ℤ)). sum_of_parts v ps ≡ (p *ℤ sum_of_parts v (f ∷ fs)) +ℤ (q *ℤ sum_of_parts v gs))
    (merged_part p q f (merged p q fs) gs)
merged_part_value v p q f fs [] recurse =
    led_gives (IsSum p f.1 q (pos 0)) (λ (ps : List (ℕ × ℤ)). sum_of_parts v ps ≡ (p *ℤ sum_of_parts v fs) +ℤ (q *ℤ pos 0)) _
    f.0 (computed Mul p f.1) (merged p q fs []) (product_gives p f.1 q) (recurse [])
    (λ z ps number rest. sum_with_part v f.0 z ps ∙ one_first p q f.1 z (v f.0) (sum_of_parts v fs) (pos 0) (sum_of_parts v ps) number.0
    rest)
merged_part_value v p q f fs (g ∷ gs) recurse = by (nat_lt g.0 f.0) (g.0 == f.0) refl (merged_part_value v p q f fs gs recurse)
  where
    by : (b c : Bool) → (g.0 == f.0) ≡ c →
        Gives (λ (ps : List (ℕ × ℤ)). sum_of_parts v ps ≡ (p *ℤ sum_of_parts v (f ∷ fs)) +ℤ (q *ℤ sum_of_parts v gs))
        (merged_part p q f (merged p q fs) gs) →
        Gives (λ (ps : List (ℕ × ℤ)). sum_of_parts v ps ≡ (p *ℤ sum_of_parts v (f ∷ fs)) +ℤ (q *ℤ sum_of_parts v (g ∷ gs)))
        (if b then led_by g.0 (computed Mul q g.1) (merged_part p q f (merged p q fs) gs)
        else if c then led_by f.0 (combined_number p f.1 q g.1) (merged p q fs gs)
        else led_by f.0 (computed Mul p f.1) (merged p q fs (g ∷ gs)))
    by true c e rest =
        led_gives (IsSum p (pos 0) q g.1)
        (λ (ps : List (ℕ × ℤ)). sum_of_parts v ps ≡ (p *ℤ sum_of_parts v (f ∷ fs)) +ℤ (q *ℤ sum_of_parts v gs)) _
        g.0 (computed Mul q g.1) (merged_part p q f (merged p q fs) gs) (other_product_gives p q g.1) rest
        (λ z ps number more. sum_with_part v g.0 z ps ∙ one_second p q g.1 z (v g.0) (sum_of_parts v (f ∷ fs)) (sum_of_parts v gs)
        (sum_of_parts v ps) number.0 more)
    by false true e rest =
        led_gives (IsSum p f.1 q g.1) (λ (ps : List (ℕ × ℤ)). sum_of_parts v ps ≡ (p *ℤ sum_of_parts v fs) +ℤ (q *ℤ sum_of_parts v gs)) _
        f.0 (combined_number p f.1 q g.1) (merged p q fs gs) (combined_number_gives p f.1 q g.1) (recurse gs)
        (λ z ps number more.
        sum_with_part v f.0 z ps ∙ one_more p q f.1 g.1 z (v f.0) (sum_of_parts v fs) (sum_of_parts v gs) (sum_of_parts v ps) number.0 more
        ∙ ap (λ (x : ℕ). (p *ℤ sum_of_parts v (f ∷ fs)) +ℤ (q *ℤ ((g.1 *ℤ v x) +ℤ sum_of_parts v gs))) (sym (eqb-true g.0 f.0 e)))
    by false false e rest =
        led_gives (IsSum p f.1 q (pos 0))
        (λ (ps : List (ℕ × ℤ)). sum_of_parts v ps ≡ (p *ℤ sum_of_parts v fs) +ℤ (q *ℤ sum_of_parts v (g ∷ gs))) _
        f.0 (computed Mul p f.1) (merged p q fs (g ∷ gs)) (product_gives p f.1 q) (recurse (g ∷ gs))
        (λ z ps number more. sum_with_part v f.0 z ps ∙ one_first p q f.1 z (v f.0) (sum_of_parts v fs) (sum_of_parts v (g ∷ gs))
        (sum_of_parts v ps) number.0 more)

pub merged_value : (v : ℕ → ℤ) (p q : ℤ) (fs gs : List (ℕ × ℤ)) →
    Gives (λ (ps : List (ℕ × ℤ)). sum_of_parts v ps ≡ (p *ℤ sum_of_parts v fs) +ℤ (q *ℤ sum_of_parts v gs)) (merged p q fs gs)
merged_value v p q [] gs = scaled_value v p q gs
merged_value v p q (f ∷ fs) gs = merged_part_value v p q f fs gs (merged_value v p q fs)

-- the value of a sum of any two forms
pub combined_gives_value : (v : ℕ → ℤ) (f g : Linear ℕ) (p q : ℤ) (kind : Kind) → Gives (HasValue v f p g q) (combined f p g q kind)
combined_gives_value v f g p q kind =
    formed_gives (λ (ps : List (ℕ × ℤ)). sum_of_parts v ps ≡ (p *ℤ sum_of_parts v f.parts) +ℤ (q *ℤ sum_of_parts v g.parts))
    (IsSum p f.constant q g.constant) (HasValue v f p g q) (merged p q f.parts g.parts) (combined_number p f.constant q g.constant) kind
    (merged_value v p q f.parts g.parts) (combined_number_gives p f.constant q g.constant)
    (λ ps c first second. with_constants v p q (sum_of_parts v f.parts) (sum_of_parts v g.parts) f.constant g.constant c (sum_of_parts v ps)
    first second.0)

pub combined_value : (f g h : Linear ℕ) (p q : ℤ) (kind : Kind) (v : ℕ → ℤ) → combined f p g q kind ≡ Fits h →
    value_of_form v h ≡ (p *ℤ value_of_form v f) +ℤ (q *ℤ value_of_form v g)
combined_value f g h p q kind v e = gives_fits (HasValue v f p g q) (combined f p g q kind) h (combined_gives_value v f g p q kind) e
