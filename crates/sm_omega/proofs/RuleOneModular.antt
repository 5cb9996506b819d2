-- An equation without a coefficient of 1 or -1: the forms that lose a variable by its modular step, with
-- a new variable, have the solutions of the list.
use Rattle.sm_omega.proofs.Imports.{◌≡◌, ◌<◌, ℕ, ◌==◌, ℤ, pos, negsuc, neg_ℤ, nat_abs, ◌+ℤ◌, ◌*ℤ◌, Bool, true, false, if◌then◌else◌, List, [], ◌∷◌, map, Some, refl, sym, ap, subst, ◌∙◌, arith, eqb-true, eq-eqb, ne_eqb, Linear, Satisfies, HoldsAt, coefficient, without, IsKept, Kind, Fits, with_part, combined, same_atom, value_of_form, sums, mul-add_right, mul-neg_right, mul-neg_left, one_mul, mul_zero, gives_fits, with_part_has, IsApart, AreReduced, same_atom_sound, coefficient_past, apart_turned, each_more, combined_value, SumsTo, combined_sums_to, AreAmong, parts_reduced, Stay, Count, Values, at, has, put, first_equation, quotient, modular_parts, modular, modular_item, value_by, AllHold}
use Rattle.sm_omega.proofs.Predicates.{Fitting, EachOf, IsListed, AreListed, ItemHolds, ItemsHold}
use Rattle.sm_omega.proofs.ValueLemmas.{value_split, value_put, holds_put, holds_below}
use Rattle.sm_omega.proofs.EachLemmas.{each_made, each_two, all_each, each_all}
use Rattle.sm_omega.proofs.RuleOne.{each_unmade, gives_each, found}
use Rattle.sm_omega.proofs.RuleOneUnit.{value_by_zero}

-- a part in front, at another variable, leaves a coefficient
at_past : (a u : ℕ) (c : ℤ) (ps : List (ℕ × ℤ)) → same_atom a u ≡ false →
    coefficient same_atom a (with_part u c ps) ≡ coefficient same_atom a ps
at_past a u c ps other =
    with_part_has (λ (rs : List (ℕ × ℤ)). coefficient same_atom a rs ≡ coefficient same_atom a ps) u c ps
    (λ (none : c ≡ pos 0). refl) (λ (some : c ≡ pos 0 → ⊥). coefficient_past same_atom a (u, c) ps other)

-- a coefficient in front of parts
at_here : (a : ℕ) (c : ℤ) (ps : List (ℕ × ℤ)) → coefficient same_atom a ((a, c) ∷ ps) ≡ c +ℤ coefficient same_atom a ps
at_here a c ps = ap (λ (b : Bool). if b then c +ℤ coefficient same_atom a ps else coefficient same_atom a ps) (eq-eqb a a refl)

-- the parts of the modular step have no variable but the new one that is not in the equation's
modular_none : (t u : ℕ) (a : ℤ) (s : ℕ) (ps : List (ℕ × ℤ)) → same_atom u s ≡ false → IsApart same_atom u ps →
    coefficient same_atom u (modular_parts t a s ps) ≡ pos 0
modular_none t u a s [] new apart = coefficient_past same_atom u (s, pos 1) [] new
modular_none t u a s (p ∷ ps) new apart = by (p.0 == t) refl (modular_none t u a s ps new apart.1)
  where
    by : (b : Bool) → (p.0 == t) ≡ b → coefficient same_atom u (modular_parts t a s ps) ≡ pos 0 →
        coefficient same_atom u
        (if b then (t, negsuc 0) ∷ modular_parts t a s ps else with_part p.0 (neg_ℤ (quotient p.1 a)) (modular_parts t a s ps))
        ≡ pos 0
    by true e rest =
        let other = subst (λ (x : ℕ). same_atom u x ≡ false) (eqb-true p.0 t e) apart.0 in
        coefficient_past same_atom u (t, negsuc 0) (modular_parts t a s ps) other ∙ rest
    by false e rest = at_past u p.0 (neg_ℤ (quotient p.1 a)) (modular_parts t a s ps) apart.0 ∙ rest

-- they have -1 at the variable that is taken
modular_minus : (t : ℕ) (a : ℤ) (s : ℕ) (ps : List (ℕ × ℤ)) → same_atom t s ≡ false → AreReduced same_atom ps →
    (coefficient same_atom t ps ≡ pos 0 → ⊥) → coefficient same_atom t (modular_parts t a s ps) ≡ negsuc 0
modular_minus t a s [] new reduced some = absurd (some refl)
modular_minus t a s (p ∷ ps) new reduced some = by (p.0 == t) refl (modular_minus t a s ps new reduced.2)
  where
    by : (b : Bool) → (p.0 == t) ≡ b →
        ((coefficient same_atom t ps ≡ pos 0 → ⊥) → coefficient same_atom t (modular_parts t a s ps) ≡ negsuc 0) →
        coefficient same_atom t
        (if b then (t, negsuc 0) ∷ modular_parts t a s ps else with_part p.0 (neg_ℤ (quotient p.1 a)) (modular_parts t a s ps))
        ≡ negsuc 0
    by true e rest =
        let apart = subst (λ (x : ℕ). IsApart same_atom x ps) (eqb-true p.0 t e) reduced.1 in
        at_here t (negsuc 0) (modular_parts t a s ps) ∙ ap (λ (x : ℤ). negsuc 0 +ℤ x) (modular_none t t a s ps new apart)
    by false e rest =
        let other = apart_turned same_atom same_atom_sound p.0 t e in
        at_past t p.0 (neg_ℤ (quotient p.1 a)) (modular_parts t a s ps) other
        ∙ rest (λ (none : coefficient same_atom t ps ≡ pos 0). some (coefficient_past same_atom t p ps other ∙ none))

-- the parts of the modular step have 1 at the new variable
modular_one : (t : ℕ) (a : ℤ) (s : ℕ) (ps : List (ℕ × ℤ)) → same_atom s t ≡ false → IsApart same_atom s ps →
    coefficient same_atom s (modular_parts t a s ps) ≡ pos 1
modular_one t a s [] other apart = at_here s (pos 1) []
modular_one t a s (p ∷ ps) other apart = by (p.0 == t) (modular_one t a s ps other apart.1)
  where
    by : (b : Bool) → coefficient same_atom s (modular_parts t a s ps) ≡ pos 1 →
        coefficient same_atom s
        (if b then (t, negsuc 0) ∷ modular_parts t a s ps else with_part p.0 (neg_ℤ (quotient p.1 a)) (modular_parts t a s ps))
        ≡ pos 1
    by true rest = coefficient_past same_atom s (t, negsuc 0) (modular_parts t a s ps) other ∙ rest
    by false rest = at_past s p.0 (neg_ℤ (quotient p.1 a)) (modular_parts t a s ps) apart.0 ∙ rest

-- the equation of the modular step has -1 at the variable that is taken
pub at_modular : (t : ℕ) (a : ℤ) (s : ℕ) (e : Linear ℕ) → IsKept e → (at t e ≡ pos 0 → ⊥) → t < s → at t (modular t a s e) ≡ negsuc 0
at_modular t a s e kept some below =
    modular_minus t a s e.parts (ne_eqb t s (λ (x : t ≡ s). omega arith)) (parts_reduced 0 e.parts kept.parts) some

-- the equation of the modular step has 1 at the new variable
pub new_modular : (t : ℕ) (a : ℤ) (s : ℕ) (e : Linear ℕ) → AreAmong (λ (x : ℕ). x < s) e.parts → t < s →
    at s (modular t a s e) ≡ pos 1
new_modular t a s e among below =
    modular_one t a s e.parts (ne_eqb s t (λ (x : s ≡ t). omega arith))
    (each_more same_atom (λ r. r.0 < s) (λ r. same_atom s r.0 ≡ false)
    (λ (r : ℕ × ℤ) (less : r.0 < s). ne_eqb s r.0 (λ (x : s ≡ r.0). omega arith)) e.parts among)

-- what a form becomes by such an equation has its kind
modular_kind : (f d h : Linear ℕ) (k : ℤ) → combined f (pos 1) d k f.kind ≡ Fits h → h.kind ≡ f.kind
modular_kind f d h k fits =
    let sum : SumsTo f d (pos 1) k f.kind h =
    gives_fits (SumsTo f d (pos 1) k f.kind) (combined f (pos 1) d k f.kind) h (combined_sums_to f d (pos 1) k f.kind) fits in
    sum.of_kind

-- what a form becomes by an equation has its value and so many times that of the equation
modular_value : (f d h : Linear ℕ) (k : ℤ) (w : Values) → combined f (pos 1) d k f.kind ≡ Fits h →
    value_of_form w h ≡ value_of_form w f +ℤ (k *ℤ value_of_form w d)
modular_value f d h k w fits =
    combined_value f d h (pos 1) k f.kind w fits
    ∙ ap (λ (x : ℤ). x +ℤ (k *ℤ value_of_form w d)) (one_mul (value_of_form w f))

-- a form that holds where the equation is 0 makes an item that holds
modular_step : (w : Values) (d : Linear ℕ) (t : ℕ) (f : Linear ℕ) → value_of_form w d ≡ pos 0 → HoldsAt w f →
    ItemHolds w (modular_item d t f)
modular_step w d t f none here = by (has t f)
  where
    by : (b : Bool) → ItemHolds w (if b then Count (combined f (pos 1) d (at t f) f.kind) else Stay f)
    by true =
        gives_each (HoldsAt w) (combined f (pos 1) d (at t f) f.kind)
        (λ (h : Linear ℕ) (fits : combined f (pos 1) d (at t f) f.kind ≡ Fits h).
        let nothing : at t f *ℤ value_of_form w d ≡ pos 0 = ap (λ (x : ℤ). at t f *ℤ x) none ∙ mul_zero (at t f) in
        let value = modular_value f d h (at t f) w fits in
        let same : value_of_form w f ≡ value_of_form w h = omega (arith, sums) in
        subst (λ (k : Kind). Satisfies k (value_of_form w h)) (sym (modular_kind f d h (at t f) fits))
        (subst (Satisfies f.kind) same here))
    by false = here

-- the value of a form, where the equation is 0 at the value that is put, is the value of what it became
same_back : (k m z x r q f d pf pd h : ℤ) → m ≡ negsuc 0 → pf ≡ (k *ℤ z) +ℤ r → pd ≡ (m *ℤ z) +ℤ q → pd ≡ pos 0 →
    f ≡ (k *ℤ x) +ℤ r → d ≡ (m *ℤ x) +ℤ q → h ≡ f +ℤ (k *ℤ d) → h ≡ pf
same_back k m z x r q f d pf pd h minus in_pf in_pd none in_f in_d in_h =
    let first : m *ℤ z ≡ neg_ℤ z = ap (λ (y : ℤ). y *ℤ z) minus ∙ mul-neg_left (pos 1) z ∙ ap neg_ℤ (one_mul z) in
    let second : m *ℤ x ≡ neg_ℤ x = ap (λ (y : ℤ). y *ℤ x) minus ∙ mul-neg_left (pos 1) x ∙ ap neg_ℤ (one_mul x) in
    let whole : d ≡ z +ℤ neg_ℤ x = omega (arith, sums) in
    let times : k *ℤ d ≡ (k *ℤ z) +ℤ neg_ℤ (k *ℤ x) =
    ap (λ (y : ℤ). k *ℤ y) whole ∙ mul-add_right k z (neg_ℤ x) ∙ ap (λ (y : ℤ). (k *ℤ z) +ℤ y) (mul-neg_right k x) in
    omega (arith, sums)

-- an item that holds is of a form that holds with the value by the equation
modular_step_back : (v : Values) (d : Linear ℕ) (t : ℕ) (z : ℤ) (f : Linear ℕ) → at t d ≡ negsuc 0 →
    value_of_form (put t z v) d ≡ pos 0 → Fitting (modular_item d t f) → ItemHolds v (modular_item d t f) → HoldsAt (put t z v) f
modular_step_back v d t z f minus none = by (has t f) refl
  where
    by : (b : Bool) → has t f ≡ b → Fitting (if b then Count (combined f (pos 1) d (at t f) f.kind) else Stay f) →
        ItemHolds v (if b then Count (combined f (pos 1) d (at t f) f.kind) else Stay f) → HoldsAt (put t z v) f
    by true first fitting holds =
        let h = fitting.0 in
        let here : HoldsAt v h = gives_fits (HoldsAt v) (combined f (pos 1) d (at t f) f.kind) h holds fitting.1 in
        let same : value_of_form v h ≡ value_of_form (put t z v) f =
        same_back (at t f) (at t d) z (v t) (value_of_form v (without same_atom t f)) (value_of_form v (without same_atom t d))
        (value_of_form v f) (value_of_form v d) (value_of_form (put t z v) f) (value_of_form (put t z v) d) (value_of_form v h) minus
        (value_put t z v f) (value_put t z v d) none (value_split t v f) (value_split t v d) (modular_value f d h (at t f) v fitting.1) in
        subst (Satisfies f.kind) same
        (subst (λ (k : Kind). Satisfies k (value_of_form v h)) (modular_kind f d h (at t f) fitting.1) here)
    by false first fitting holds = (holds_put t z v f first).0 holds

-- the value of the new variable with which the equation is 0
new_value : ℕ → Linear ℕ → Values → ℤ
new_value s d v = neg_ℤ (value_of_form v (without same_atom s d))

-- it is so
new_value_zero : (s : ℕ) (d : Linear ℕ) (v : Values) → at s d ≡ pos 1 → value_of_form (put s (new_value s d v) v) d ≡ pos 0
unfolding new_value
new_value_zero s d v one =
    let rest = value_of_form v (without same_atom s d) in
    let split = value_put s (new_value s d v) v d in
    let times : at s d *ℤ neg_ℤ rest ≡ neg_ℤ rest = ap (λ (x : ℤ). x *ℤ neg_ℤ rest) one ∙ one_mul (neg_ℤ rest) in
    omega (arith, sums)

-- where all forms of a list hold, so do those that lose a variable by the modular step of its first
-- equation, with a value for the new variable
pub modular_forth : (s : ℕ) (v : Values) (fs : List (Linear ℕ)) (e : Linear ℕ) (gs : List (Linear ℕ)) (t : ℕ) (a : ℤ) →
    first_equation fs ≡ Some (e, gs) → AreListed s fs → t < s → AllHold v fs →
    (w : Values) × ItemsHold w (map (modular_item (modular t a s e) t) fs)
modular_forth s v fs e gs t a eq listed below all =
    let d = modular t a s e in
    let w = put s (new_value s d v) v in
    let of_e = ((found (IsListed s) fs e gs eq).apart listed).0 in
    let none = new_value_zero s d v (new_modular t a s e of_e.good.below below) in
    let hold = each_two (IsListed s) (HoldsAt v) (HoldsAt w)
    (λ (f : Linear ℕ) (good : IsListed s f) (here : HoldsAt v f). (holds_below s (new_value s d v) v f good.good.below).0 here) fs listed
    (all_each v fs all) in
    let items = each_made (HoldsAt w) (ItemHolds w) (modular_item d t)
    (λ (f : Linear ℕ) (here : HoldsAt w f). modular_step w d t f none here) fs hold in
    (w, items)

-- where what the modular step makes fits and holds, all forms hold with the value by its equation
pub modular_back : (s : ℕ) (v : Values) (fs : List (Linear ℕ)) (e : Linear ℕ) (gs : List (Linear ℕ)) (t : ℕ) (a z : ℤ) →
    first_equation fs ≡ Some (e, gs) → AreListed s fs → t < s → (at t e ≡ pos 0 → ⊥) →
    EachOf Fitting (map (modular_item (modular t a s e) t) fs) → ItemsHold v (map (modular_item (modular t a s e) t) fs) →
    value_by t (modular t a s e) v ≡ Fits z → AllHold (put t z v) fs
modular_back s v fs e gs t a z eq listed below some fitting hold fits =
    let d = modular t a s e in
    let of_e = ((found (IsListed s) fs e gs eq).apart listed).0 in
    let minus = at_modular t a s e of_e.good.kept some below in
    let none = value_by_zero t d v z (ap nat_abs minus) fits in
    each_all (put t z v) fs
    (each_unmade (HoldsAt (put t z v)) Fitting (ItemHolds v) (modular_item d t)
    (λ (f : Linear ℕ) (fitting : Fitting (modular_item d t f)) (holds : ItemHolds v (modular_item d t f)).
    modular_step_back v d t z f minus none fitting holds) fs fitting hold)
