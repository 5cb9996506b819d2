-- Values of forms over a common denominator: at an atom and elsewhere, where all are multiplied, and
-- for a sum in which an atom cancels.
use Rattle.sm_fm.proofs.Imports.{◌≡◌, ℕ, ◌*◌, ◌<◌, ℤ, pos, negsuc, ◌+ℤ◌, ◌*ℤ◌, ◌≤ℤ◌, Bool, true, false, not, ◌&&◌, if◌then◌else◌, List, [], ◌∷◌, refl, sym, ap, subst, ◌∙◌, arith, int_eq, ltb-false, Decides-int_eq, Linear, Satisfies, sum_of_parts, coefficient, parts_without, without, Kind, Le, Eq, same_atom, Fits, multipliers, kind_of_sum, eliminated, has_no_part, fails, is_contradictory, ring, mul_zero, zero_mul, gives_fits, IsApart, same_atom_sound, same_atom_reflexive, without_apart, mul_mono, satisfies_times, SumsTo, eliminated_sums_to, HoldsOver}
use lib.IntN.{*ℤ_comm}
use Rattle.sm_num.proofs.RingLemmas.{sums}
use Rattle.sm_num.proofs.FormValues.{sum_without}

-- a form's value over a denominator
abbrev pub value_over : ℕ → (ℕ → ℤ) → Linear ℕ → ℤ
value_over d v f = sum_of_parts v f.parts +ℤ (f.constant *ℤ pos d)

-- the value over a denominator of a form without an atom
abbrev pub rest_over : ℕ → (ℕ → ℤ) → ℕ → Linear ℕ → ℤ
rest_over d v t f = sum_of_parts v (parts_without same_atom t f.parts) +ℤ (f.constant *ℤ pos d)

-- a form's coefficient at an atom
abbrev pub at_atom : ℕ → Linear ℕ → ℤ
at_atom t f = coefficient same_atom t f.parts

-- values times k, but for one atom, which has a value of its own
abbrev pub raised : ℕ → ℕ → ℤ → (ℕ → ℤ) → ℕ → ℤ
raised t k x v s = if same_atom t s then x else pos k *ℤ v s

-- the value at an atom and the rest
value_split : (d : ℕ) (v : ℕ → ℤ) (t : ℕ) (f : Linear ℕ) → value_over d v f ≡ (at_atom t f *ℤ v t) +ℤ rest_over d v t f
value_split d v t f = let split = sum_without v same_atom same_atom_sound t f.parts in omega (arith, sums)

-- a form without the atom has the value of the rest
pub value_without : (d : ℕ) (v : ℕ → ℤ) (t : ℕ) (f : Linear ℕ) → at_atom t f ≡ pos 0 → value_over d v f ≡ rest_over d v t f
value_without d v t f none =
    let split = value_split d v t f in
    let gone : at_atom t f *ℤ v t ≡ pos 0 = ap (λ (x : ℤ). x *ℤ v t) none ∙ zero_mul (v t) in
    omega (arith, sums)

-- values at other atoms are multiplied
raised_apart : (t k : ℕ) (x : ℤ) (v : ℕ → ℤ) (ps : List (ℕ × ℤ)) → IsApart same_atom t ps →
    sum_of_parts (raised t k x v) ps ≡ pos k *ℤ sum_of_parts v ps
raised_apart t k x v [] apart = sym (mul_zero (pos k))
raised_apart t k x v (p ∷ ps) apart =
    let here : raised t k x v p.0 ≡ pos k *ℤ v p.0 = ap (λ (b : Bool). if b then x else pos k *ℤ v p.0) apart.0 in
    one_more p.1 (raised t k x v p.0) (pos k) (v p.0) (sum_of_parts (raised t k x v) ps) (sum_of_parts v ps) here
    (raised_apart t k x v ps apart.1)
  where
    one_more : (c y k w r s : ℤ) → y ≡ k *ℤ w → r ≡ k *ℤ s → (c *ℤ y) +ℤ r ≡ k *ℤ ((c *ℤ w) +ℤ s)
    one_more c y k w r s first second = rw (first, second) (simp ring (omega (arith, sums)))

-- a form's value where values are raised
pub raised_value : (d t k : ℕ) (x : ℤ) (v : ℕ → ℤ) (f : Linear ℕ) →
    value_over (k * d) (raised t k x v) f ≡ (at_atom t f *ℤ x) +ℤ (pos k *ℤ rest_over d v t f)
raised_value d t k x v f =
    value_split (k * d) (raised t k x v) t f
    ∙ all (at_atom t f) (raised t k x v t) x (sum_of_parts (raised t k x v) (parts_without same_atom t f.parts)) (pos k)
    (sum_of_parts v (parts_without same_atom t f.parts)) f.constant (pos d)
    (ap (λ (b : Bool). if b then x else pos k *ℤ v t) (same_atom_reflexive t))
    (raised_apart t k x v (parts_without same_atom t f.parts) (without_apart same_atom t f.parts))
  where
    all : (a y x r k s c d : ℤ) → y ≡ x → r ≡ k *ℤ s → (a *ℤ y) +ℤ (r +ℤ (c *ℤ (k *ℤ d))) ≡ (a *ℤ x) +ℤ (k *ℤ (s +ℤ (c *ℤ d)))
    all a y x r k s c d first second = rw (first, second) (simp ring (omega (arith, sums)))

-- a form without the atom still holds there
pub raised_holds : (d t k : ℕ) (x : ℤ) (v : ℕ → ℤ) (f : Linear ℕ) → 0 < k → at_atom t f ≡ pos 0 → HoldsOver d v f →
    HoldsOver (k * d) (raised t k x v) f
raised_holds d t k x v f some none holds =
    let times = (satisfies_times f.kind k (value_over d v f) some).1 holds in
    let gone : at_atom t f *ℤ x ≡ pos 0 = ap (λ (y : ℤ). y *ℤ x) none ∙ zero_mul x in
    let rest = ap (λ (y : ℤ). pos k *ℤ y) (value_without d v t f none) in
    let value = raised_value d t k x v f in
    subst (Satisfies f.kind) (omega (arith, sums)) times

-- what a sum in which an atom cancels says of the forms' rests
pub sum_says : (f g h : Linear ℕ) (t d : ℕ) (v : ℕ → ℤ) → eliminated f g t ≡ Fits h → HoldsOver d v h →
    let m = multipliers (at_atom t f) (at_atom t g) g.kind in
    Satisfies (kind_of_sum f.kind g.kind) ((m.0 *ℤ rest_over d v t f) +ℤ (m.1 *ℤ rest_over d v t g))
sum_says f g h t d v e holds =
    let m = multipliers (at_atom t f) (at_atom t g) g.kind in
    let kind = kind_of_sum f.kind g.kind in
    let sum = gives_fits (SumsTo (without same_atom t f) (without same_atom t g) m.0 m.1 kind) (eliminated f g t) h
    (eliminated_sums_to f g t) e in
    let times = (satisfies_times h.kind sum.times (value_over d v h) sum.some).1 holds in
    let value = all (pos sum.times) (sum_of_parts v h.parts) h.constant (pos d) m.0 (sum_of_parts v (parts_without same_atom t f.parts))
    f.constant m.1 (sum_of_parts v (parts_without same_atom t g.parts)) g.constant (sum.parts v) sum.constant in
    subst (Satisfies kind) value (subst (λ (k : Kind). Satisfies k (pos sum.times *ℤ value_over d v h)) sum.of_kind times)
  where
    all : (n y c d p r a q s b : ℤ) → n *ℤ y ≡ (p *ℤ r) +ℤ (q *ℤ s) → n *ℤ c ≡ (p *ℤ a) +ℤ (q *ℤ b) →
        n *ℤ (y +ℤ (c *ℤ d)) ≡ (p *ℤ (r +ℤ (a *ℤ d))) +ℤ (q *ℤ (s +ℤ (b *ℤ d)))
    all n y c d p r a q s b first second =
        let times : (n *ℤ c) *ℤ d ≡ ((p *ℤ a) +ℤ (q *ℤ b)) *ℤ d = ap (λ (x : ℤ). x *ℤ d) second in
        let split = simp ring at times in
        simp ring (omega (arith, sums))

-- a form with no part that isn't a contradiction holds everywhere
pub partless_holds : (d : ℕ) (v : ℕ → ℤ) (h : Linear ℕ) → has_no_part h.parts ≡ true → is_contradictory h ≡ false → HoldsOver d v h
partless_holds d v h none quiet = by h.parts h.constant h.kind none quiet
  where
    bound : (c : ℤ) → c ≤ℤ pos 0 → (pos 0 +ℤ (c *ℤ pos d)) ≤ℤ pos 0
    bound c less = let times = mul_mono d c (pos 0) less in let none = mul_zero (pos d) in let turned = *ℤ_comm c (pos d) in
        omega (arith, sums)

    not_false : (b : Bool) → not b ≡ false → b ≡ true
    not_false true e = refl
    not_false false e = absurd cc

    by : (ps : List (ℕ × ℤ)) (c : ℤ) (kind : Kind) → has_no_part ps ≡ true → (has_no_part ps && fails kind c) ≡ false →
        Satisfies kind (sum_of_parts v ps +ℤ (c *ℤ pos d))
    by [] (pos n) Le none quiet = let least = ltb-false 0 n quiet in bound (pos n) (omega (arith, sums))
    by [] (negsuc n) Le none quiet = bound (negsuc n) (omega (arith, sums))
    by [] c Eq none quiet =
        let zero = (Decides-int_eq c (pos 0)).0 (not_false (int_eq c (pos 0)) quiet) in
        let gone : c *ℤ pos d ≡ pos 0 = ap (λ (x : ℤ). x *ℤ pos d) zero ∙ zero_mul (pos d) in
        omega (arith, sums)
    by (p ∷ ps) c kind none quiet = absurd cc
