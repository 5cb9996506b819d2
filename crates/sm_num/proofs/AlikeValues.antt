-- Forms that are alike have one value, and being alike goes on.
use Rattle.sm_num.proofs.Imports.{◌≡◌, ℤ, pos, ◌+ℤ◌, ◌*ℤ◌, Bool, true, false, not, if◌then◌else◌, List, [], ◌∷◌, refl, sym, ap, subst, ◌∙◌, ⊎_elim, cases_Bool, Linear, sum_of_parts, coefficient, parts_without, Outcome, Fits, Leaves, AreAlike, ComeOutAlike, value_of_form}
use Rattle.sm_num.proofs.SameAtomLemmas.{IsSound, IsReflexive, AreReduced, same_turned, apart_turned, coefficient_past, coefficient_one, coefficient_filter, apart_zero, reduced_filter}
use Rattle.sm_num.proofs.FormValues.{sum_without}

module _ {A : Type 0} (same : A → A → Bool) where
  pub alike_turned : (f g : Linear A) → AreAlike same f g → AreAlike same g f
  alike_turned f g alike =
      record { kind = sym alike.kind; constant = sym alike.constant; coefficients = λ (t : A). sym (alike.coefficients t) }

  pub alike_on : (f g h : Linear A) → AreAlike same f g → AreAlike same g h → AreAlike same f h
  alike_on f g h first second =
      record {
        kind = first.kind ∙ second.kind;
        constant = first.constant ∙ second.constant;
        coefficients = λ (t : A). first.coefficients t
            ∙ second.coefficients t;
      }

  -- a result comes out alike with a third where it does with a second, and this with the third
  pub come_out_alike_on : (first second third : Outcome (Linear A)) → ComeOutAlike same first second → ComeOutAlike same second third →
      ComeOutAlike same first third
  come_out_alike_on (Fits f) (Fits g) (Fits h) one other = alike_on f g h one other
  come_out_alike_on (Fits f) (Fits g) (Leaves op y z) one other = absurd other
  come_out_alike_on (Fits f) (Leaves op y z) third one other = absurd one
  come_out_alike_on (Leaves op y z) (Fits g) third one other = absurd one
  come_out_alike_on (Leaves op y z) (Leaves op' y' z') (Fits h) one other = absurd other
  come_out_alike_on (Leaves op y z) (Leaves op' y' z') (Leaves op'' y'' z'') one other = tt

  -- where a result is a form, the other is one
  pub come_out_fits : (first second : Outcome (Linear A)) (f : Linear A) → ComeOutAlike same first second → first ≡ Fits f →
      (g : Linear A) × (second ≡ Fits g) × AreAlike same f g
  come_out_fits first (Fits g) f alike e = (g, refl, subst (λ (o : Outcome (Linear A)). ComeOutAlike same o (Fits g)) e alike)
  come_out_fits first (Leaves op y z) f alike e = absurd (subst (λ (o : Outcome (Linear A)). ComeOutAlike same o (Leaves op y z)) e alike)

module _ {A : Type 0} (v : A → ℤ) (same : A → A → Bool) (sound : IsSound same) (reflexive : IsReflexive same) where
  -- the coefficients of reduced lists tell the sum
  pub alike_sum : (ps qs : List (A × ℤ)) → AreReduced same ps → AreReduced same qs →
      ((t : A) → coefficient same t ps ≡ coefficient same t qs) → sum_of_parts v ps ≡ sum_of_parts v qs
  alike_sum [] [] first second alike = refl
  alike_sum [] (q ∷ qs) first second alike =
      absurd (second.0 (sym (coefficient_one same q.0 q qs sound second.1 (reflexive q.0)) ∙ sym (alike q.0)))
  alike_sum (p ∷ ps) qs first second alike =
      let others = parts_without same p.0 qs in
      let here : coefficient same p.0 qs ≡ p.1 = sym (alike p.0) ∙ coefficient_one same p.0 p ps sound first.1 (reflexive p.0) in
      let left : (t : A) → coefficient same t others ≡ (if not (same p.0 t) then coefficient same t qs else pos 0) =
      λ (t : A). coefficient_filter same sound (λ (x : A). not (same p.0 x)) t qs in
      let rest =
      alike_sum ps others first.2 (reduced_filter same (λ r. not (same p.0 r.0)) qs second)
      (λ (t : A).
      ⊎_elim
      (λ (e : same t p.0 ≡ true).
      ap (λ (x : A). coefficient same x ps) (sound t p.0 e) ∙ apart_zero same p.0 ps first.1
      ∙ sym (left t ∙ ap (λ (b : Bool). if not b then coefficient same t qs else pos 0) (same_turned same sound t p.0 e)))
      (λ (e : same t p.0 ≡ false).
      sym (coefficient_past same t p ps e) ∙ alike t
      ∙ sym (left t ∙ ap (λ (b : Bool). if not b then coefficient same t qs else pos 0) (apart_turned same sound t p.0 e)))
      (cases_Bool (same t p.0))) in
      ap (λ (x : ℤ). (p.1 *ℤ v p.0) +ℤ x) rest ∙ ap (λ (c : ℤ). (c *ℤ v p.0) +ℤ sum_of_parts v others) (sym here)
      ∙ sym (sum_without v same sound p.0 qs)

  -- forms that are alike have one value
  pub alike_value : (f g : Linear A) → AreReduced same f.parts → AreReduced same g.parts → AreAlike same f g →
      value_of_form v f ≡ value_of_form v g
  alike_value f g first second alike =
      ap (λ (x : ℤ). x +ℤ f.constant) (alike_sum f.parts g.parts first second alike.coefficients)
      ∙ ap (λ (c : ℤ). sum_of_parts v g.parts +ℤ c) alike.constant
