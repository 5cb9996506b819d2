-- An equation whose coefficient at a variable is 1 or -1: the forms that lose the variable by it have the
-- solutions of the list.
use Rattle.sm_omega.proofs.Imports.{◌≡◌, ℕ, ℤ, pos, negsuc, neg_ℤ, nat_abs, ◌+ℤ◌, ◌*ℤ◌, ◌<ℤ◌, Bool, true, false, ◌&&◌, ◌||◌, not, if◌then◌else◌, IsTrue, List, map, Some, refl, sym, ap, subst, ◌∙◌, arith, Linear, Satisfies, HoldsAt, sum_of_parts, without, Kind, Le, Eq, Fits, is_equation, signs_alike, can_cancel, multipliers, kind_of_sum, eliminated, same_atom, value_of_form, sums, ring, mul-neg_left, zero_mul, one_mul, gives_fits, then_gives, satisfies_times, SumsTo, eliminated_sums_to, can_cancel_gives, multipliers_positive, eliminated_takes_atom, Stay, Count, Values, at, has, put, rest_of, value_from, first_equation, eliminated_item, value_by, AllHold}
use Rattle.sm_num.proofs.EliminationSound.{multipliers_cancel, eliminated_holds}
use Rattle.sm_omega.proofs.Predicates.{Fitting, EachOf, ItemHolds, ItemsHold}
use Rattle.sm_omega.proofs.ValueLemmas.{value_split, value_put, value_none, holds_put, rest_gives}
use Rattle.sm_omega.proofs.EachLemmas.{each_made, all_each, each_all}
use Rattle.sm_omega.proofs.RuleOne.{each_unmade, gives_each, found}

-- with the value by an equation it is 0, where its coefficient has size 1
value_from_zero : (a y : ℤ) → nat_abs a ≡ 1 → (a *ℤ value_from a y) +ℤ y ≡ pos 0
value_from_zero (pos n) y one =
    let times : pos n *ℤ neg_ℤ y ≡ neg_ℤ y = ap (λ (x : ℕ). pos x *ℤ neg_ℤ y) one ∙ one_mul (neg_ℤ y) in
    omega (arith, sums)
value_from_zero (negsuc n) y one =
    let last : n ≡ 0 = omega arith in
    let turned : negsuc n *ℤ y ≡ neg_ℤ y =
    ap (λ (k : ℕ). negsuc k *ℤ y) last ∙ mul-neg_left (pos 1) y ∙ ap neg_ℤ (one_mul y) in
    omega (arith, sums)

-- a form is 0 where the value by it is put for a variable whose coefficient has size 1
pub value_by_zero : (t : ℕ) (e : Linear ℕ) (v : Values) (z : ℤ) → nat_abs (at t e) ≡ 1 → value_by t e v ≡ Fits z →
    value_of_form (put t z v) e ≡ pos 0
value_by_zero t e v z one fits =
    let rest = value_of_form v (without same_atom t e) in
    let none : (at t e *ℤ z) +ℤ rest ≡ pos 0 =
    gives_fits (λ (x : ℤ). (at t e *ℤ x) +ℤ rest ≡ pos 0) (value_by t e v) z
    (then_gives (λ (y : ℤ). y ≡ rest) (λ (x : ℤ). (at t e *ℤ x) +ℤ rest ≡ pos 0) (rest_of t v e)
    (λ (y : ℤ). Fits (value_from (at t e) y)) (rest_gives t v e)
    (λ (y : ℤ) (same : y ≡ rest).
    subst (λ (x : ℤ). (at t e *ℤ value_from (at t e) x) +ℤ rest ≡ pos 0) (sym same) (value_from_zero (at t e) rest one)))
    fits in
    value_put t z v e ∙ none

-- a variable of a form and of an equation cancels
equation_cancels : (f e : Linear ℕ) (t : ℕ) → e.kind ≡ Eq → has t f ≡ true → has t e ≡ true → IsTrue (can_cancel same_atom f e t)
equation_cancels f e t kind first second =
    by (has t f) (has t e) (is_equation f.kind) (is_equation e.kind) (not (signs_alike (at t f) (at t e))) first second
    (ap is_equation kind)
  where
    by : (x y k l s : Bool) → x ≡ true → y ≡ true → l ≡ true → (x && (y && (k || (l || s)))) ≡ true
    by true true true l s one two three = refl
    by true true false true s one two three = refl
    by true true false false s one two three = absurd cc
    by true false k l s one two three = absurd cc
    by false y k l s one two three = absurd cc

-- the other way round: a number above 0 times a value is as a kind says, then so is the value
satisfies_less : (kind : Kind) (p x : ℤ) → pos 0 <ℤ p → Satisfies kind (p *ℤ x) → Satisfies kind x
satisfies_less kind (pos n) x above h = (satisfies_times kind n x (omega (arith, sums))).0 h
satisfies_less kind (negsuc n) x above h = absurd (omega (arith, sums))

-- the value of what is computed, where an equation is 0
back_value : (p q a b x r s c d k m n : ℤ) → (p *ℤ a) +ℤ (q *ℤ b) ≡ pos 0 → ((b *ℤ x) +ℤ s) +ℤ d ≡ pos 0 →
    k *ℤ m ≡ (p *ℤ r) +ℤ (q *ℤ s) → k *ℤ n ≡ (p *ℤ c) +ℤ (q *ℤ d) → k *ℤ (m +ℤ n) ≡ p *ℤ ((a *ℤ x) +ℤ (r +ℤ c))
back_value p q a b x r s c d k m n cancel none parts constant =
    let one : ((p *ℤ a) +ℤ (q *ℤ b)) *ℤ x ≡ pos 0 = ap (λ (y : ℤ). y *ℤ x) cancel ∙ zero_mul x in
    let two : q *ℤ (((b *ℤ x) +ℤ s) +ℤ d) ≡ q *ℤ pos 0 = ap (λ (y : ℤ). q *ℤ y) none in
    let first = simp ring at one in
    let second = simp ring at two in
    simp ring (omega (arith, sums))

-- a sum of a kind with an equation has that kind
kind_with_equation : (first second : Kind) → second ≡ Eq → kind_of_sum first second ≡ first
kind_with_equation Le second e = refl
kind_with_equation Eq second e = e

-- where an equation is 0 and what a form becomes by it holds, the form holds
elim_back : (f e h : Linear ℕ) (t : ℕ) (w : Values) → e.kind ≡ Eq → has t f ≡ true → has t e ≡ true → eliminated f e t ≡ Fits h →
    value_of_form w e ≡ pos 0 → HoldsAt w h → HoldsAt w f
elim_back f e h t w kind first second fits none holds =
    let a = at t f in
    let b = at t e in
    let m = multipliers a b e.kind in
    let sum : SumsTo (without same_atom t f) (without same_atom t e) m.0 m.1 (kind_of_sum f.kind e.kind) h =
    gives_fits (SumsTo (without same_atom t f) (without same_atom t e) m.0 m.1 (kind_of_sum f.kind e.kind)) (eliminated f e t) h
    (eliminated_sums_to f e t) fits in
    let cancels = can_cancel_gives same_atom f e t (equation_cancels f e t kind first second) in
    let above = (multipliers_positive a b f.kind e.kind cancels.0 cancels.1 cancels.2).2 kind in
    let split = value_split t w f in
    let in_e = value_split t w e in
    let apart : ((b *ℤ w t) +ℤ sum_of_parts w (without same_atom t e).parts) +ℤ e.constant ≡ pos 0 = omega (arith, sums) in
    let value : pos sum.times *ℤ value_of_form w h ≡ m.0 *ℤ value_of_form w f =
    back_value m.0 m.1 a b (w t) (sum_of_parts w (without same_atom t f).parts) (sum_of_parts w (without same_atom t e).parts) f.constant
    e.constant (pos sum.times) (sum_of_parts w h.parts) h.constant (multipliers_cancel a b e.kind) apart (sum.parts w) sum.constant
    ∙ ap (λ (x : ℤ). m.0 *ℤ x) (sym split) in
    let of_kind : h.kind ≡ f.kind = sum.of_kind ∙ kind_with_equation f.kind e.kind kind in
    let there : Satisfies f.kind (value_of_form w h) = subst (λ (k : Kind). Satisfies k (value_of_form w h)) of_kind holds in
    satisfies_less f.kind m.0 (value_of_form w f) above
    (subst (Satisfies f.kind) value ((satisfies_times f.kind sum.times (value_of_form w h) sum.some).1 there))

-- a form that holds with the equation makes an item that holds
unit_item : (v : Values) (e : Linear ℕ) (t : ℕ) (f : Linear ℕ) → e.kind ≡ Eq → has t e ≡ true → HoldsAt v e → HoldsAt v f →
    ItemHolds v (eliminated_item e t f)
unit_item v e t f kind has_it there here = by (has t f) refl
  where
    by : (b : Bool) → has t f ≡ b → ItemHolds v (if b then Count (eliminated f e t) else Stay f)
    by true first =
        gives_each (HoldsAt v) (eliminated f e t)
        (λ (h : Linear ℕ) (fits : eliminated f e t ≡ Fits h).
        eliminated_holds f e h t v (equation_cancels f e t kind first has_it) here there fits)
    by false first = here

-- an item that holds is of a form that holds with the value by the equation
unit_item_back : (v : Values) (e : Linear ℕ) (t : ℕ) (z : ℤ) (f : Linear ℕ) → e.kind ≡ Eq → has t e ≡ true →
    value_of_form (put t z v) e ≡ pos 0 → Fitting (eliminated_item e t f) → ItemHolds v (eliminated_item e t f) →
    HoldsAt (put t z v) f
unit_item_back v e t z f kind has_it none = by (has t f) refl
  where
    by : (b : Bool) → has t f ≡ b → Fitting (if b then Count (eliminated f e t) else Stay f) →
        ItemHolds v (if b then Count (eliminated f e t) else Stay f) → HoldsAt (put t z v) f
    by true first fitting holds =
        let h = fitting.0 in
        let at_v : HoldsAt v h = gives_fits (HoldsAt v) (eliminated f e t) h holds fitting.1 in
        let same = value_none t z v h (eliminated_takes_atom f e h t fitting.1) in
        elim_back f e h t (put t z v) kind first has_it fitting.1 none (subst (Satisfies h.kind) (sym same) at_v)
    by false first fitting holds = (holds_put t z v f first).0 holds

-- an equation that is 0 holds
zero_holds : (v : Values) (e : Linear ℕ) → e.kind ≡ Eq → value_of_form v e ≡ pos 0 → HoldsAt v e
zero_holds v e kind none = subst (λ (k : Kind). Satisfies k (value_of_form v e)) (sym kind) none

-- where all forms of a list hold, so do those that lose a variable by its first equation
pub unit_forth : (v : Values) (fs : List (Linear ℕ)) (e : Linear ℕ) (gs : List (Linear ℕ)) (t : ℕ) → first_equation fs ≡ Some (e, gs) →
    has t e ≡ true → AllHold v fs → ItemsHold v (map (eliminated_item e t) gs)
unit_forth v fs e gs t eq has_it all =
    let is = found (HoldsAt v) fs e gs eq in
    let both = is.apart (all_each v fs all) in
    each_made (HoldsAt v) (ItemHolds v) (eliminated_item e t)
    (λ (f : Linear ℕ) (here : HoldsAt v f). unit_item v e t f is.equation has_it both.0 here) gs both.1

-- where what loses a variable by the first equation fits and holds, all forms hold with its value
pub unit_back : (v : Values) (fs : List (Linear ℕ)) (e : Linear ℕ) (gs : List (Linear ℕ)) (t : ℕ) (z : ℤ) →
    first_equation fs ≡ Some (e, gs) → has t e ≡ true → nat_abs (at t e) ≡ 1 → EachOf Fitting (map (eliminated_item e t) gs) →
    ItemsHold v (map (eliminated_item e t) gs) → value_by t e v ≡ Fits z → AllHold (put t z v) fs
unit_back v fs e gs t z eq has_it one fitting hold fits =
    let is = found (HoldsAt (put t z v)) fs e gs eq in
    let none = value_by_zero t e v z one fits in
    each_all (put t z v) fs
    (is.again (zero_holds (put t z v) e is.equation none)
    (each_unmade (HoldsAt (put t z v)) Fitting (ItemHolds v) (eliminated_item e t)
    (λ (f : Linear ℕ) (fitting : Fitting (eliminated_item e t f)) (holds : ItemHolds v (eliminated_item e t f)).
    unit_item_back v e t z f is.equation has_it none fitting holds) gs fitting hold))
