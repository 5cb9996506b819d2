-- The dark shadow of bounds of a variable: a solution of it leaves the variable a value.
use Rattle.sm_omega.proofs.Imports.{◌≡◌, ◌↔◌, ℕ, ℤ, pos, neg_ℤ, ◌+ℤ◌, ◌-ℤ◌, ◌*ℤ◌, ◌≤ℤ◌, ◌<ℤ◌, true, IsTrue, List, [], ◌∷◌, ◌++◌, map, refl, sym, subst, ◌∙◌, arith, fits_form, Linear, Satisfies, HoldsAt, without, sum_of_parts, Kind, Le, same_atom, value_of_form, Fits, computed, combined, Add, Mul, sums, ring, Gives, gives_fits, then_gives, computed_gives, combined_gives_value, Stay, Count, Values, at, bounds_below, bounds_above, lower_bounds, upper_bounds, others, put, shadow, shadows, standing, greatest_bound, AllHold, negative_below}
use Rattle.sm_omega.proofs.Predicates.{Fitting, EachOf, ItemHolds, ItemsHold}
use Rattle.sm_omega.proofs.OmegaNumbers.{dark_serves, lower_near, other_above, greatest_has}
use Rattle.sm_omega.proofs.ValueLemmas.{value_split}
use Rattle.sm_omega.proofs.EachLemmas.{each_filter, each_front, each_back, filter_passes, each_map, each_unmap, all_each, each_all}
use Rattle.sm_omega.proofs.Bounds.{NoEquations, bound_at, at_most_holds, greatest_is, each_of_all, others_put, all_lowers_hold}

-- the value of a form without a variable
abbrev pub rest_at : ℕ → Values → Linear ℕ → ℤ
rest_at t v f = value_of_form v (without same_atom t f)

-- the value that the dark shadow of a lower and an upper bound is to have
abbrev pub shadow_at : ℕ → Values → Linear ℕ → Linear ℕ → ℤ
shadow_at t v l u =
    ((at t u *ℤ rest_at t v l) +ℤ (neg_ℤ (at t l) *ℤ rest_at t v u)) +ℤ ((at t u -ℤ pos 1) *ℤ (neg_ℤ (at t l) -ℤ pos 1))

-- in the sum of two bounds the variable cancels
cancels : (a c z r q : ℤ) → (a *ℤ ((c *ℤ z) +ℤ r)) +ℤ (neg_ℤ c *ℤ ((a *ℤ z) +ℤ q)) ≡ (a *ℤ r) +ℤ (neg_ℤ c *ℤ q)
cancels a c z r q = simp ring (omega (arith, sums))

-- a shadow has that value, and says that it is at most 0
pub shadow_gives : (t : ℕ) (v : Values) (l u : Linear ℕ) →
    Gives (λ (h : Linear ℕ). (h.kind ≡ Le) × (value_of_form v h ≡ shadow_at t v l u)) (shadow t l u)
shadow_gives t v l u =
    let a = at t u in
    let b = neg_ℤ (at t l) in
    let Goal : Linear ℕ → Type 0 = λ (h : Linear ℕ). (h.kind ≡ Le) × (value_of_form v h ≡ shadow_at t v l u) in
    then_gives (λ (h : Linear ℕ). value_of_form v h ≡ (a *ℤ value_of_form v l) +ℤ (b *ℤ value_of_form v u)) Goal (combined l a u b Le) _
    (combined_gives_value v l u a b Le)
    (λ (h : Linear ℕ) (first : value_of_form v h ≡ (a *ℤ value_of_form v l) +ℤ (b *ℤ value_of_form v u)).
    then_gives (λ (y : ℤ). (y ≡ (a -ℤ pos 1) *ℤ (b -ℤ pos 1)) × IsTrue (fits_form y)) Goal (computed Mul (a -ℤ pos 1) (b -ℤ pos 1)) _
    (computed_gives Mul (a -ℤ pos 1) (b -ℤ pos 1))
    (λ (y : ℤ) (second : (y ≡ (a -ℤ pos 1) *ℤ (b -ℤ pos 1)) × IsTrue (fits_form y)).
    then_gives (λ (x : ℤ). (x ≡ y +ℤ h.constant) × IsTrue (fits_form x)) Goal (computed Add y h.constant) _
    (computed_gives Add y h.constant)
    (λ (x : ℤ) (third : (x ≡ y +ℤ h.constant) × IsTrue (fits_form x)).
    (refl, added (sum_of_parts v h.parts) h.constant x y (first ∙ whole) second.0 third.0))))
  where
    whole : (at t u *ℤ value_of_form v l) +ℤ (neg_ℤ (at t l) *ℤ value_of_form v u)
        ≡ (at t u *ℤ rest_at t v l) +ℤ (neg_ℤ (at t l) *ℤ rest_at t v u)
    whole = rw (value_split t v l, value_split t v u) (cancels (at t u) (at t l) (v t) (rest_at t v l) (rest_at t v u))

    added : {w m : ℤ} (s k x y : ℤ) → s +ℤ k ≡ w → y ≡ m → x ≡ y +ℤ k → s +ℤ x ≡ w +ℤ m
    added s k x y first second third = omega (arith, sums)

-- a shadow that fits holds exactly where that value is at most 0
pub shadow_holds : (t : ℕ) (v : Values) (l u h : Linear ℕ) → shadow t l u ≡ Fits h → HoldsAt v h ↔ (shadow_at t v l u ≤ℤ pos 0)
shadow_holds t v l u h e =
    let says = gives_fits (λ (g : Linear ℕ). (g.kind ≡ Le) × (value_of_form v g ≡ shadow_at t v l u)) (shadow t l u) h
    (shadow_gives t v l u) e in (
      λ (holds : HoldsAt v h). subst (λ (x : ℤ). x ≤ℤ pos 0) says.1 (subst (λ (k : Kind). Satisfies k (value_of_form v h)) says.0 holds),
      λ (most : shadow_at t v l u ≤ℤ pos 0).
          subst (λ (k : Kind). Satisfies k (value_of_form v h)) (sym says.0) (subst (λ (x : ℤ). x ≤ℤ pos 0) (sym says.1) most),
    )

-- where it holds, the upper bound holds with the lower bound's least value
pub upper_serves : (t : ℕ) (v : Values) (l u : Linear ℕ) → bounds_below t l ≡ true → u.kind ≡ Le → bounds_above t u ≡ true →
    Fitting (Count (shadow t l u)) → ItemHolds v (Count (shadow t l u)) → HoldsAt (put t (bound_at t v l) v) u
upper_serves t v l u below le above fitting holds =
    let dark = (shadow_holds t v l u fitting.0 fitting.1).0 (gives_fits (HoldsAt v) (shadow t l u) fitting.0 holds fitting.1) in
    let under = negative_below (at t l) below in
    let some : pos 0 <ℤ neg_ℤ (at t l) = omega (arith, sums) in
    at_most_holds t (bound_at t v l) v u le
    (dark_serves (at t u) (neg_ℤ (at t l)) (rest_at t v l) (rest_at t v u) (bound_at t v l) (other_above (at t u) above) some
    (lower_near (at t l) (rest_at t v l) below) dark)

-- so do all upper bounds of a list
row_serves : (t : ℕ) (v : Values) (l : Linear ℕ) (us : List (Linear ℕ)) → bounds_below t l ≡ true → NoEquations us →
    EachOf (λ (u : Linear ℕ). bounds_above t u ≡ true) us → EachOf Fitting (map (λ u. Count (shadow t l u)) us) →
    ItemsHold v (map (λ u. Count (shadow t l u)) us) → EachOf (λ (u : Linear ℕ). HoldsAt (put t (bound_at t v l) v) u) us
row_serves t v l [] below les above fitting holds = tt
row_serves t v l (u ∷ us) below les above fitting holds =
    (upper_serves t v l u below les.0 above.0 fitting.0 holds.0, row_serves t v l us below les.1 above.1 fitting.1 holds.1)

-- for each lower bound
rows_serve : (t : ℕ) (v : Values) (ls us : List (Linear ℕ)) → EachOf (λ (l : Linear ℕ). bounds_below t l ≡ true) ls → NoEquations us →
    EachOf (λ (u : Linear ℕ). bounds_above t u ≡ true) us → EachOf Fitting (shadows t ls us) → ItemsHold v (shadows t ls us) →
    EachOf (λ (l : Linear ℕ). EachOf (λ (u : Linear ℕ). HoldsAt (put t (bound_at t v l) v) u) us) ls
rows_serve t v [] us below les above fitting holds = tt
rows_serve t v (l ∷ ls) us below les above fitting holds =
    let row = map (λ u. Count (shadow t l u)) us in
    let rest = shadows t ls us in (
      row_serves t v l us below.0 les above (each_front Fitting row rest fitting) (each_front (ItemHolds v) row rest holds),
      rows_serve t v ls us below.1 les above (each_back Fitting row rest fitting) (each_back (ItemHolds v) row rest holds),
    )

-- with the greatest lower bound the upper bounds hold
darkened : (t : ℕ) (z : ℤ) (v : Values) (l : Linear ℕ) (ls us : List (Linear ℕ)) →
    EachOf (λ (f : Linear ℕ). bounds_below t f ≡ true) (l ∷ ls) → NoEquations us → EachOf (λ (u : Linear ℕ). bounds_above t u ≡ true) us →
    EachOf Fitting (shadows t (l ∷ ls) us) → ItemsHold v (shadows t (l ∷ ls) us) → greatest_bound t (l ∷ ls) v ≡ Fits z →
    EachOf (λ (u : Linear ℕ). HoldsAt (put t z v) u) us
darkened t z v l ls us below les above fitting holds e =
    let Serves : ℤ → Type 0 = λ (y : ℤ). EachOf (λ (u : Linear ℕ). HoldsAt (put t y v) u) us in
    subst Serves (sym (greatest_is t (l ∷ ls) v z e))
    (greatest_has Serves (bound_at t v l) (map (bound_at t v) ls)
    (each_map Serves (bound_at t v) (l ∷ ls) (rows_serve t v (l ∷ ls) us below les above fitting holds)))

-- forms that stand hold where their items do
pub standing_holds : (v : Values) (fs : List (Linear ℕ)) → ItemsHold v (standing fs) → AllHold v fs
standing_holds v fs holds = each_all v fs (each_unmap (ItemHolds v) Stay fs holds)

pub holds_standing : (v : Values) (fs : List (Linear ℕ)) → AllHold v fs → ItemsHold v (standing fs)
holds_standing v fs all = each_map (ItemHolds v) Stay fs (all_each v fs all)

-- a solution of the dark shadows with the greatest lower bound satisfies all forms
pub dark_back : (t : ℕ) (fs : List (Linear ℕ)) (v : Values) (z : ℤ) (l : Linear ℕ) (ls us : List (Linear ℕ)) → NoEquations fs →
    lower_bounds t fs ≡ l ∷ ls → upper_bounds t fs ≡ us → EachOf Fitting (standing (others t fs) ++ shadows t (l ∷ ls) us) →
    ItemsHold v (standing (others t fs) ++ shadows t (l ∷ ls) us) → greatest_bound t (l ∷ ls) v ≡ Fits z → AllHold (put t z v) fs
dark_back t fs v z l ls us les lower upper fitting holds e =
    let Holds : Linear ℕ → Type 0 = λ (f : Linear ℕ). HoldsAt (put t z v) f in
    let other = standing (others t fs) in
    let dark = shadows t (l ∷ ls) us in
    let below = subst (EachOf (λ (f : Linear ℕ). bounds_below t f ≡ true)) lower (filter_passes (bounds_below t) fs) in
    let above = subst (EachOf (λ (f : Linear ℕ). bounds_above t f ≡ true)) upper (filter_passes (bounds_above t) fs) in
    let bounds = subst NoEquations upper (each_filter (λ (f : Linear ℕ). f.kind ≡ Le) (bounds_above t) fs les) in
    each_all (put t z v) fs
    (each_of_all Holds t fs (others_put t z v fs (standing_holds v (others t fs) (each_front (ItemHolds v) other dark holds)))
    (all_lowers_hold t z v fs les (subst (λ (xs : List (Linear ℕ)). greatest_bound t xs v ≡ Fits z) (sym lower) e))
    (subst (EachOf Holds) (sym upper)
    (darkened t z v l ls us below bounds above (each_back Fitting other dark fitting) (each_back (ItemHolds v) other dark holds) e)))
