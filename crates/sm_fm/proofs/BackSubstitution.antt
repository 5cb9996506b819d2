-- A solution of the forms without an atom, and of the sums in which it cancels, gives one of all.
use Rattle.sm_fm.proofs.Imports.{◌≡◌, ◌⊎◌, inl, inr, ℕ, ◌*◌, ◌<◌, ◌==◌, ℤ, pos, negsuc, neg_ℤ, nat_abs, ◌+ℤ◌, ◌*ℤ◌, ◌≤ℤ◌, ◌<ℤ◌, Bool, true, false, not, ◌&&◌, ◌||◌, if◌then◌else◌, IsTrue, Option, Some, None, List, [], ◌∷◌, refl, sym, ap, subst, ◌∙◌, ⊎_elim, arith, eq-zero-or-pos, mul-pos, find, int_eq, cases_Bool, eqb-true, and_parts, Decides-int_eq, Linear, Satisfies, Kind, Le, Eq, Fits, is_equation, is_negative, signs_alike, multipliers, kind_of_sum, eliminated, mul-neg_left, mul-neg_right, zero_test, not_both, multipliers_positive, Placed, has_atom, is_below, is_above, is_pivot, pairs_with, pairs, HoldsOver, not_true, negative_below, equation_is}
use Rattle.std.proofs.Common.{filter}
use Rattle.sm_num.proofs.RingLemmas.{sums}
use Rattle.sm_num.proofs.EliminationSound.{multipliers_cancel}
use Rattle.sm_fm.specs.Elimination.{coefficient_at}
use Rattle.sm_fm.proofs.MembershipLemmas.{IsIn, in_filter, from_filter, found, not_found, in_map, in_crossed}
use Rattle.sm_fm.proofs.BoundLemmas.{above_zero, below_zero, square_some, pivot_value, pivot_itself, bounds_cross, Greatest, greatest}
use Rattle.sm_fm.proofs.ValueLemmas.{rest_over, raised, raised_value, raised_holds, sum_says}
use Rattle.sm_fm.proofs.WithLemmas.{below_some}

-- placed forms have a solution
pub record SolutionOf (forms : List Placed) : Type 0 where
  pub denominator : ℕ
  pub positive : 0 < denominator
  pub values : ℕ → ℤ
  pub each : (f : Placed) → IsIn f forms → HoldsOver denominator values f.form

-- two forms have a sum in which an atom cancels, and it holds
pub record SumHolds (t d : ℕ) (v : ℕ → ℤ) (f g : Placed) : Type 0 where
  pub sum : Linear ℕ
  pub is : eliminated f.form g.form t ≡ Fits sum
  pub holds : HoldsOver d v sum

-- no two forms of a list have one place
abbrev pub AreApart : List Placed → Type 0
AreApart forms = (f g : Placed) → IsIn f forms → IsIn g forms → f.place ≡ g.place → f ≡ g

-- an atom that a form has has a coefficient there that isn't 0, and one that it lacks has 0
pub some_there : (z : ℤ) → not (int_eq z (pos 0)) ≡ true → z ≡ pos 0 → ⊥
some_there z has zero = not_both (not (int_eq z (pos 0))) has (ap not (zero_test z zero))

pub none_there : (z : ℤ) → not (int_eq z (pos 0)) ≡ false → z ≡ pos 0
none_there z lacks = (Decides-int_eq z (pos 0)).0 (by (int_eq z (pos 0)) lacks)
  where
    by : (b : Bool) → not b ≡ false → b ≡ true
    by true e = refl
    by false e = absurd cc

other_above : (z : ℤ) → (z ≡ pos 0 → ⊥) → is_negative z ≡ false → pos 0 <ℤ z
other_above (pos n) some e =
    let size : 0 < n = ⊎_elim (λ (zero : n ≡ 0). absurd (some (ap pos zero))) (λ (h : 0 < n). h) (eq-zero-or-pos n) in omega (arith, sums)
other_above (negsuc n) some e = absurd cc

negative_some : (z : ℤ) → is_negative z ≡ true → z ≡ pos 0 → ⊥
negative_some (pos n) e zero = absurd cc
negative_some (negsuc n) e zero = absurd cc

-- kinds by their test
is_le : (kind : Kind) → is_equation kind ≡ false → kind ≡ Le
is_le Le e = refl
is_le Eq e = absurd cc

-- the sum of a form with an equation is of the form's kind
kind_with_equation : (kind : Kind) → kind_of_sum kind Eq ≡ kind
kind_with_equation Le = refl
kind_with_equation Eq = refl

-- an atom can be cancelled with an equation, and between coefficients of two signs
with_equation : (x y : Bool) (kind : Kind) → kind ≡ Eq → IsTrue (x || (is_equation kind || y))
with_equation true y kind e = refl
with_equation false y kind e = rw e refl

with_signs : (x y n m : Bool) → n ≡ true → m ≡ false → IsTrue (x || (y || not (if n then m else not m)))
with_signs true y n m first second = refl
with_signs false true n m first second = refl
with_signs false false n m first second = rw (first, second) refl

module _ (t d : ℕ) (v : ℕ → ℤ) (forms : List Placed) (some : 0 < d)
    (others : (f : Placed) → IsIn f forms → has_atom t f ≡ false → HoldsOver d v f.form) where
  -- a form holds where values are raised if its value there is as its kind says
  raised_gives : (k : ℕ) (x : ℤ) (f : Placed) → Satisfies f.form.kind ((coefficient_at t f *ℤ x) +ℤ (pos k *ℤ rest_over d v t f.form)) →
      HoldsOver (k * d) (raised t k x v) f.form
  raised_gives k x f h = subst (Satisfies f.form.kind) (sym (raised_value d t k x v f.form)) h

  -- all hold there if those with the atom do
  all_raised : (k : ℕ) (x : ℤ) → 0 < k →
      ((f : Placed) → IsIn f forms → has_atom t f ≡ true →
      Satisfies f.form.kind ((coefficient_at t f *ℤ x) +ℤ (pos k *ℤ rest_over d v t f.form))) →
      SolutionOf forms
  all_raised k x above each = record {
    denominator = k * d;
    positive = mul-pos above some;
    values = raised t k x v;
    each = λ (f : Placed) (is : IsIn f forms). ⊎_elim
        (λ (has : has_atom t f ≡ true). raised_gives k x f (each f is has))
        (λ (lacks : has_atom t f ≡ false). raised_holds d t k x v f.form above (none_there (coefficient_at t f) lacks) (others f is lacks))
        (cases_Bool (has_atom t f));
  }

  -- with a pivot
  pivot_solves : (pivot : Placed) → IsIn pivot forms → is_pivot t pivot ≡ true → AreApart forms →
      ((f : Placed) → IsIn f forms → has_atom t f ≡ true → (f.place == pivot.place) ≡ false → SumHolds t d v f pivot) →
      SolutionOf forms
  pivot_solves pivot stands is_one apart sums_hold =
      let b = coefficient_at t pivot in
      let s = rest_over d v t pivot.form in
      let parts = and_parts (is_equation pivot.form.kind) (has_atom t pivot) is_one in
      let equation = equation_is pivot.form.kind parts.0 in
      let present = some_there b parts.1 in
      all_raised (nat_abs b * nat_abs b) (neg_ℤ (b *ℤ s)) (square_some b present)
      (λ (f : Placed) (is : IsIn f forms) (has : has_atom t f ≡ true).
      ⊎_elim
      (λ (here : (f.place == pivot.place) ≡ true).
      subst
      (λ (g : Placed). Satisfies g.form.kind
      ((coefficient_at t g *ℤ neg_ℤ (b *ℤ s)) +ℤ (pos (nat_abs b * nat_abs b) *ℤ rest_over d v t g.form)))
      (sym (apart f pivot is stands (eqb-true f.place pivot.place here)))
      (subst (λ (k : Kind). Satisfies k ((b *ℤ neg_ℤ (b *ℤ s)) +ℤ (pos (nat_abs b * nat_abs b) *ℤ s))) (sym equation) (pivot_itself b s)))
      (λ (elsewhere : (f.place == pivot.place) ≡ false).
      let a = coefficient_at t f in
      let m = multipliers a b pivot.form.kind in
      let made = sums_hold f is has elsewhere in
      let says = sum_says f.form pivot.form made.sum t d v made.is made.holds in
      let positive = multipliers_positive a b f.form.kind pivot.form.kind (some_there a has) present
      (with_equation (is_equation f.form.kind) (not (signs_alike a b)) pivot.form.kind equation) in
      pivot_value f.form.kind m.0 m.1 a b (rest_over d v t f.form) s (positive.2 equation) present (multipliers_cancel a b pivot.form.kind)
      (subst (λ (k : Kind). Satisfies k ((m.0 *ℤ rest_over d v t f.form) +ℤ (m.1 *ℤ s)))
      (ap (kind_of_sum f.form.kind) equation ∙ kind_with_equation f.form.kind) says))
      (cases_Bool (f.place == pivot.place)))

  -- where only bounds have the atom
  module _ (bounds : (f : Placed) → IsIn f forms → has_atom t f ≡ true → f.form.kind ≡ Le) where
    -- a value that the bounds allow
    bounds_solve : (k : ℕ) (x : ℤ) → 0 < k →
        ((f : Placed) → IsIn f forms → has_atom t f ≡ true → ((coefficient_at t f *ℤ x) +ℤ (pos k *ℤ rest_over d v t f.form)) ≤ℤ pos 0) →
        SolutionOf forms
    bounds_solve k x above each =
        all_raised k x above
        (λ (f : Placed) (is : IsIn f forms) (has : has_atom t f ≡ true).
        subst (λ (kind : Kind). Satisfies kind ((coefficient_at t f *ℤ x) +ℤ (pos k *ℤ rest_over d v t f.form)))
        (sym (bounds f is has)) (each f is has))

    -- one coefficient and rest against each: the value that they give
    from_below : (n : ℕ) (c r a s : ℤ) → neg_ℤ c ≡ pos n → (a *ℤ r) ≤ℤ (c *ℤ s) → ((a *ℤ r) +ℤ (pos n *ℤ s)) ≤ℤ pos 0
    from_below n c r a s e less =
        let turned : pos n *ℤ s ≡ neg_ℤ (c *ℤ s) = ap (λ (x : ℤ). x *ℤ s) (sym e) ∙ mul-neg_left c s in omega (arith, sums)

    from_above : (n : ℕ) (c r a s : ℤ) → c ≡ pos n → (neg_ℤ a *ℤ r) ≤ℤ (neg_ℤ c *ℤ s) → ((a *ℤ neg_ℤ r) +ℤ (pos n *ℤ s)) ≤ℤ pos 0
    from_above n c r a s e less =
        let turned : pos n *ℤ s ≡ c *ℤ s = ap (λ (x : ℤ). x *ℤ s) (sym e) in
        let first = mul-neg_left a r in
        let second = mul-neg_left c s in
        let third = mul-neg_right a r in
        omega (arith, sums)

    -- a bound has a coefficient below 0 or above
    signed : (f : Placed) → IsIn f forms → has_atom t f ≡ true →
        IsIn f (filter (is_below t) forms) ⊎ IsIn f (filter (is_above t) forms)
    signed f is has =
        ⊎_elim
        (λ (below : is_below t f ≡ true). inl (in_filter (is_below t) f forms is below))
        (λ (above : is_below t f ≡ false). inr (in_filter (is_above t) f forms is (rw (has, above) refl)))
        (cases_Bool (is_below t f))

    below_given : (f : Placed) → IsIn f (filter (is_below t) forms) → coefficient_at t f <ℤ pos 0
    below_given f is = negative_below (coefficient_at t f) (from_filter (is_below t) f forms is).1

    above_given : (f : Placed) → IsIn f (filter (is_above t) forms) → pos 0 <ℤ coefficient_at t f
    above_given f is =
        let parts = and_parts (has_atom t f) (not (is_below t f)) (from_filter (is_above t) f forms is).1 in
        other_above (coefficient_at t f) (some_there (coefficient_at t f) parts.0) (not_true (is_below t f) parts.1)

    -- the sum of a lower and an upper bound
    crosses : (f g : Placed) → IsIn f (filter (is_below t) forms) → IsIn g (filter (is_above t) forms) → SumHolds t d v f g →
        (coefficient_at t g *ℤ rest_over d v t f.form) ≤ℤ (coefficient_at t f *ℤ rest_over d v t g.form)
    crosses f g first second made =
        let a = coefficient_at t f in
        let b = coefficient_at t g in
        let m = multipliers a b g.form.kind in
        let below = from_filter (is_below t) f forms first in
        let above = from_filter (is_above t) g forms second in
        let parts = and_parts (has_atom t g) (not (is_below t g)) above.1 in
        let has = below_some a below.1 in
        let says = sum_says f.form g.form made.sum t d v made.is made.holds in
        let positive = multipliers_positive a b f.form.kind g.form.kind (negative_some a below.1) (some_there b parts.0)
        (with_signs (is_equation f.form.kind) (is_equation g.form.kind) (is_negative a) (is_negative b) below.1
        (not_true (is_below t g) parts.1)) in
        let kind = bounds f below.0 has in
        bounds_cross m.0 m.1 a b (rest_over d v t f.form) (rest_over d v t g.form) (positive.0 kind) (above_given g second)
        (multipliers_cancel a b g.form.kind)
        (subst (λ (k : Kind). Satisfies (kind_of_sum k g.form.kind) ((m.0 *ℤ rest_over d v t f.form) +ℤ (m.1 *ℤ rest_over d v t g.form)))
        kind says)

    -- the greatest lower bound; the least upper bound where there is no lower one; anything where there is neither
    bounds_serve :
        ((f g : Placed) → IsIn f (filter (is_below t) forms) → IsIn g (filter (is_above t) forms) → SumHolds t d v f g) →
        SolutionOf forms
    bounds_serve sums_hold = by (filter (is_below t) forms) (filter (is_above t) forms) refl refl
      where
        with_lower : Greatest (coefficient_at t) (λ (f : Placed). rest_over d v t f.form) (filter (is_below t) forms) → SolutionOf forms
        with_lower g =
            let c = coefficient_at t g.best in
            let n = below_zero c (below_given g.best g.stands) in
            bounds_solve n.0 (rest_over d v t g.best.form) n.1
            (λ (f : Placed) (is : IsIn f forms) (has : has_atom t f ≡ true).
            from_below n.0 c (rest_over d v t g.best.form) (coefficient_at t f) (rest_over d v t f.form) n.2
            (⊎_elim
            (λ (lower : IsIn f (filter (is_below t) forms)). g.above f lower)
            (λ (upper : IsIn f (filter (is_above t) forms)). crosses g.best f g.stands upper (sums_hold g.best f g.stands upper))
            (signed f is has)))

        with_upper : ((f : Placed) → IsIn f (filter (is_below t) forms) → ⊥) →
            Greatest (λ (f : Placed). neg_ℤ (coefficient_at t f)) (λ (f : Placed). rest_over d v t f.form) (filter (is_above t) forms) →
            SolutionOf forms
        with_upper none g =
            let c = coefficient_at t g.best in
            let n = above_zero c (above_given g.best g.stands) in
            bounds_solve n.0 (neg_ℤ (rest_over d v t g.best.form)) n.1
            (λ (f : Placed) (is : IsIn f forms) (has : has_atom t f ≡ true).
            from_above n.0 c (rest_over d v t g.best.form) (coefficient_at t f) (rest_over d v t f.form) n.2
            (⊎_elim
            (λ (lower : IsIn f (filter (is_below t) forms)). absurd (none f lower))
            (λ (upper : IsIn f (filter (is_above t) forms)). g.above f upper)
            (signed f is has)))

        by : (lower upper : List Placed) → lower ≡ filter (is_below t) forms → upper ≡ filter (is_above t) forms → SolutionOf forms
        by (l ∷ ls) upper first second =
            with_lower
            (subst (Greatest (coefficient_at t) (λ (f : Placed). rest_over d v t f.form)) first
            (greatest (coefficient_at t) (λ (f : Placed). rest_over d v t f.form) l ls
            (λ (y : Placed) (is : IsIn y (l ∷ ls)). below_given y (subst (IsIn y) first is))))
        by [] (u ∷ us) first second =
            with_upper (λ (f : Placed) (is : IsIn f (filter (is_below t) forms)). subst (IsIn f) (sym first) is)
            (subst (Greatest (λ (f : Placed). neg_ℤ (coefficient_at t f)) (λ (f : Placed). rest_over d v t f.form)) second
            (greatest (λ (f : Placed). neg_ℤ (coefficient_at t f)) (λ (f : Placed). rest_over d v t f.form) u us
            (λ (y : Placed) (is : IsIn y (u ∷ us)). turned (coefficient_at t y) (above_given y (subst (IsIn y) second is)))))
          where
            turned : (z : ℤ) → pos 0 <ℤ z → neg_ℤ z <ℤ pos 0
            turned z above = omega (arith, sums)
        by [] [] first second =
            bounds_solve 1 (pos 0) (omega arith)
            (λ (f : Placed) (is : IsIn f forms) (has : has_atom t f ≡ true).
            absurd
            (⊎_elim
            (λ (lower : IsIn f (filter (is_below t) forms)). subst (IsIn f) (sym first) lower)
            (λ (upper : IsIn f (filter (is_above t) forms)). subst (IsIn f) (sym second) upper)
            (signed f is has)))

-- whatever the atom's pairs are, where their sums hold
pub atom_solves : (t d : ℕ) (v : ℕ → ℤ) (forms : List Placed) → 0 < d → AreApart forms →
    ((f : Placed) → IsIn f forms → has_atom t f ≡ false → HoldsOver d v f.form) →
    ((f g : Placed) → IsIn {X = Placed × Placed} (f, g) (pairs t forms) → SumHolds t d v f g) → SolutionOf forms
atom_solves t d v forms some apart others sums_hold = by (find (is_pivot t) forms) refl sums_hold
  where
    no_equation : (x y : Bool) → y ≡ true → (x && y) ≡ false → x ≡ false
    no_equation false y has none = refl
    no_equation true y has none = absurd (not_both y has none)

    by : (o : Option Placed) → find (is_pivot t) forms ≡ o →
        ((f g : Placed) → IsIn {X = Placed × Placed} (f, g) (pairs_with o t forms) → SumHolds t d v f g) → SolutionOf forms
    by (Some pivot) e each =
        let is_one = found (is_pivot t) pivot forms e in
        pivot_solves t d v forms some others pivot is_one.0 is_one.1 apart
        (λ (f : Placed) (is : IsIn f forms) (has : has_atom t f ≡ true) (elsewhere : (f.place == pivot.place) ≡ false).
        each f pivot
        (in_map {X = Placed} {Y = Placed × Placed} (λ (z : Placed). (z, pivot)) f
        (filter (λ (z : Placed). has_atom t z && not (z.place == pivot.place)) forms)
        (in_filter (λ (z : Placed). has_atom t z && not (z.place == pivot.place)) f forms is (rw (has, elsewhere) refl))))
    by None e each =
        bounds_serve t d v forms some others
        (λ (f : Placed) (is : IsIn f forms) (has : has_atom t f ≡ true).
        is_le f.form.kind (no_equation (is_equation f.form.kind) (has_atom t f) has (not_found (is_pivot t) f forms e is)))
        (λ (f g : Placed) (first : IsIn f (filter (is_below t) forms)) (second : IsIn g (filter (is_above t) forms)).
        each f g (in_crossed f g (filter (is_below t) forms) (filter (is_above t) forms) first second))
