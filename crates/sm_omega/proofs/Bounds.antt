-- The bounds that forms give for a variable: with the greatest of the lower bounds, or the least of the
-- upper bounds, as its value those forms hold.
use Rattle.sm_omega.proofs.Imports.{◌≡◌, ℕ, ℤ, pos, ◌+ℤ◌, ◌*ℤ◌, ◌≤ℤ◌, Bool, true, false, ◌&&◌, not, if◌then◌else◌, Option, Some, None, List, [], ◌∷◌, map, refl, sym, ap, subst, ◌∙◌, Linear, Satisfies, HoldsAt, without, Kind, Le, Eq, same_atom, value_of_form, Fits, is_equation, has_no_part, Gives, gives_fits, then_gives, Values, at, has, bounds_below, bounds_above, lower_bounds, upper_bounds, others, put, rest_of, bound_from, bounds_of, greatest, least, first_equation, beside, greatest_bound, least_bound, AllHold, not_true}
use Rattle.sm_omega.proofs.Predicates.{EachOf, AreListed}
use Rattle.sm_omega.proofs.OmegaNumbers.{lower_met, upper_met, other_above, greatest_above, least_below}
use Rattle.sm_omega.proofs.ValueLemmas.{rest_gives, value_put, holds_put}
use Rattle.sm_omega.proofs.EachLemmas.{each_two, each_three, each_filter, filter_passes, each_unmap, all_each, each_all}

-- no form is an equation
abbrev pub NoEquations : List (Linear ℕ) → Type 0
NoEquations fs = EachOf (λ (f : Linear ℕ). f.kind ≡ Le) fs

-- a form with parts that isn't taken for an equation is none
not_equation : (kind : Kind) (none : Bool) → (is_equation kind && not none) ≡ false → none ≡ false → kind ≡ Le
not_equation Le none e some = refl
not_equation Eq true e some = absurd cc
not_equation Eq false e some = absurd cc

-- where no equation is found beside a form, none is found
beside_none : (f : Linear ℕ) (found : Option (Linear ℕ × List (Linear ℕ))) → beside f found ≡ None → found ≡ None
beside_none f None e = refl
beside_none f (Some found) e = absurd cc

-- where no equation is found, there is none
pub no_equations : (s : ℕ) (fs : List (Linear ℕ)) → first_equation fs ≡ None → AreListed s fs → NoEquations fs
no_equations s [] e listed = tt
no_equations s (f ∷ fs) e listed =
    by (is_equation f.kind && not (has_no_part f.parts)) refl e (λ (none : first_equation fs ≡ None). no_equations s fs none listed.1)
  where
    by : (b : Bool) → (is_equation f.kind && not (has_no_part f.parts)) ≡ b →
        (if b then Some (f, fs) else beside f (first_equation fs)) ≡ None →
        (first_equation fs ≡ None → NoEquations fs) → NoEquations (f ∷ fs)
    by true t e rest = absurd cc
    by false t e rest =
        (not_equation f.kind (has_no_part f.parts) t listed.0.some, rest (beside_none f (first_equation fs) e))

-- a fact of the forms without a variable and of its bounds is one of all
pub each_of_all : (P : Linear ℕ → Type 0) (t : ℕ) (fs : List (Linear ℕ)) → EachOf P (others t fs) → EachOf P (lower_bounds t fs) →
    EachOf P (upper_bounds t fs) → EachOf P fs
each_of_all P t [] other lower upper = tt
each_of_all P t (f ∷ fs) other lower upper = by (has t f) (bounds_below t f) other lower upper (each_of_all P t fs)
  where
    by : (h b : Bool) → EachOf P (if not h then f ∷ others t fs else others t fs) →
        EachOf P (if b then f ∷ lower_bounds t fs else lower_bounds t fs) →
        EachOf P (if h && not b then f ∷ upper_bounds t fs else upper_bounds t fs) →
        (EachOf P (others t fs) → EachOf P (lower_bounds t fs) → EachOf P (upper_bounds t fs) → EachOf P fs) → EachOf P (f ∷ fs)
    by true true other lower upper rest = (lower.0, rest other lower.1 upper)
    by true false other lower upper rest = (upper.0, rest other lower upper.1)
    by false true other lower upper rest = (other.0, rest other.1 lower.1 upper)
    by false false other lower upper rest = (other.0, rest other.1 lower upper)

-- the bound that a form gives
abbrev pub bound_at : ℕ → Values → Linear ℕ → ℤ
bound_at t v f = bound_from (at t f) (value_of_form v (without same_atom t f))

-- the bounds that are computed are those
bounds_are : (t : ℕ) (v : Values) (fs : List (Linear ℕ)) → Gives (λ (zs : List ℤ). zs ≡ map (bound_at t v) fs) (bounds_of t v fs)
bounds_are t v [] = refl
bounds_are t v (f ∷ fs) =
    let Goal : List ℤ → Type 0 = λ (zs : List ℤ). zs ≡ bound_at t v f ∷ map (bound_at t v) fs in
    then_gives (λ (z : ℤ). z ≡ value_of_form v (without same_atom t f)) Goal (rest_of t v f) _ (rest_gives t v f)
    (λ (z : ℤ) (first : z ≡ value_of_form v (without same_atom t f)).
    then_gives (λ (zs : List ℤ). zs ≡ map (bound_at t v) fs) Goal (bounds_of t v fs) (λ (zs : List ℤ). Fits (bound_from (at t f) z ∷ zs))
    (bounds_are t v fs)
    (λ (zs : List ℤ) (second : zs ≡ map (bound_at t v) fs).
    ap (λ (x : ℤ). bound_from (at t f) x ∷ zs) first ∙ ap (λ (ys : List ℤ). bound_at t v f ∷ ys) second))

-- so the greatest that is computed is the greatest of those
pub greatest_is : (t : ℕ) (fs : List (Linear ℕ)) (v : Values) (z : ℤ) → greatest_bound t fs v ≡ Fits z →
    z ≡ greatest (map (bound_at t v) fs)
greatest_is t fs v z e =
    let Goal : ℤ → Type 0 = λ (x : ℤ). x ≡ greatest (map (bound_at t v) fs) in
    gives_fits Goal (greatest_bound t fs v) z
    (then_gives (λ (zs : List ℤ). zs ≡ map (bound_at t v) fs) Goal (bounds_of t v fs) (λ (zs : List ℤ). Fits (greatest zs))
    (bounds_are t v fs) (λ (zs : List ℤ) (first : zs ≡ map (bound_at t v) fs). ap greatest first)) e

-- the least bound that is computed is the least of the bounds of the forms
pub least_is : (t : ℕ) (fs : List (Linear ℕ)) (v : Values) (z : ℤ) → least_bound t fs v ≡ Fits z → z ≡ least (map (bound_at t v) fs)
least_is t fs v z e =
    let Goal : ℤ → Type 0 = λ (x : ℤ). x ≡ least (map (bound_at t v) fs) in
    gives_fits Goal (least_bound t fs v) z
    (then_gives (λ (zs : List ℤ). zs ≡ map (bound_at t v) fs) Goal (bounds_of t v fs) (λ (zs : List ℤ). Fits (least zs))
    (bounds_are t v fs) (λ (zs : List ℤ) (first : zs ≡ map (bound_at t v) fs). ap least first)) e

-- a form that is no equation holds where its value is at most 0
pub at_most_holds : (t : ℕ) (z : ℤ) (v : Values) (f : Linear ℕ) → f.kind ≡ Le →
    ((at t f *ℤ z) +ℤ value_of_form v (without same_atom t f)) ≤ℤ pos 0 → HoldsAt (put t z v) f
at_most_holds t z v f le h =
    subst (λ (k : Kind). Satisfies k (value_of_form (put t z v) f)) (sym le)
    (subst (λ (x : ℤ). x ≤ℤ pos 0) (sym (value_put t z v f)) h)

-- a lower bound holds with a value that is at least the bound
pub lower_holds : (t : ℕ) (z : ℤ) (v : Values) (f : Linear ℕ) → f.kind ≡ Le → bounds_below t f ≡ true → bound_at t v f ≤ℤ z →
    HoldsAt (put t z v) f
lower_holds t z v f le below least =
    at_most_holds t z v f le (lower_met (at t f) (value_of_form v (without same_atom t f)) z below least)

-- an upper bound holds with one that is at most the bound
pub upper_holds : (t : ℕ) (z : ℤ) (v : Values) (f : Linear ℕ) → f.kind ≡ Le → bounds_above t f ≡ true → z ≤ℤ bound_at t v f →
    HoldsAt (put t z v) f
upper_holds t z v f le above most =
    at_most_holds t z v f le (upper_met (at t f) (value_of_form v (without same_atom t f)) z (other_above (at t f) above) most)

-- with the greatest of lower bounds each holds
pub lowers_hold : (t : ℕ) (z : ℤ) (v : Values) (fs : List (Linear ℕ)) → NoEquations fs →
    EachOf (λ (f : Linear ℕ). bounds_below t f ≡ true) fs → greatest_bound t fs v ≡ Fits z →
    EachOf (λ (f : Linear ℕ). HoldsAt (put t z v) f) fs
lowers_hold t z v fs les below e =
    each_three (λ (f : Linear ℕ). f.kind ≡ Le) (λ (f : Linear ℕ). bounds_below t f ≡ true) (λ (f : Linear ℕ). bound_at t v f ≤ℤ z)
    (λ (f : Linear ℕ). HoldsAt (put t z v) f) (λ f le here least. lower_holds t z v f le here least) fs les below
    (each_unmap (λ (y : ℤ). y ≤ℤ z) (bound_at t v) fs
    (subst (λ (x : ℤ). EachOf (λ (y : ℤ). y ≤ℤ x) (map (bound_at t v) fs)) (sym (greatest_is t fs v z e))
    (greatest_above (map (bound_at t v) fs))))

-- with the least of upper bounds each holds
pub uppers_hold : (t : ℕ) (z : ℤ) (v : Values) (fs : List (Linear ℕ)) → NoEquations fs →
    EachOf (λ (f : Linear ℕ). bounds_above t f ≡ true) fs → least_bound t fs v ≡ Fits z →
    EachOf (λ (f : Linear ℕ). HoldsAt (put t z v) f) fs
uppers_hold t z v fs les above e =
    each_three (λ (f : Linear ℕ). f.kind ≡ Le) (λ (f : Linear ℕ). bounds_above t f ≡ true) (λ (f : Linear ℕ). z ≤ℤ bound_at t v f)
    (λ (f : Linear ℕ). HoldsAt (put t z v) f) (λ f le here most. upper_holds t z v f le here most) fs les above
    (each_unmap (λ (y : ℤ). z ≤ℤ y) (bound_at t v) fs
    (subst (λ (x : ℤ). EachOf (λ (y : ℤ). x ≤ℤ y) (map (bound_at t v) fs)) (sym (least_is t fs v z e))
    (least_below (map (bound_at t v) fs))))

-- where all forms hold, those without a variable do
pub others_hold : (t : ℕ) (v : Values) (fs : List (Linear ℕ)) → AllHold v fs → AllHold v (others t fs)
others_hold t v fs all =
    each_all v (others t fs) (each_filter (λ (f : Linear ℕ). HoldsAt v f) (λ f. not (has t f)) fs (all_each v fs all))

-- where the forms without a variable hold, they do with another value of it
pub others_put : (t : ℕ) (z : ℤ) (v : Values) (fs : List (Linear ℕ)) → AllHold v (others t fs) →
    EachOf (λ (f : Linear ℕ). HoldsAt (put t z v) f) (others t fs)
others_put t z v fs all =
    each_two (λ (f : Linear ℕ). HoldsAt v f) (λ (f : Linear ℕ). not (has t f) ≡ true) (λ (f : Linear ℕ). HoldsAt (put t z v) f)
    (λ f holds none. (holds_put t z v f (not_true (has t f) none)).0 holds) (others t fs) (all_each v (others t fs) all)
    (filter_passes (λ f. not (has t f)) fs)

-- the lower bounds of a list hold with the greatest
pub all_lowers_hold : (t : ℕ) (z : ℤ) (v : Values) (fs : List (Linear ℕ)) → NoEquations fs →
    greatest_bound t (lower_bounds t fs) v ≡ Fits z → EachOf (λ (f : Linear ℕ). HoldsAt (put t z v) f) (lower_bounds t fs)
all_lowers_hold t z v fs les e =
    lowers_hold t z v (lower_bounds t fs) (each_filter (λ (f : Linear ℕ). f.kind ≡ Le) (bounds_below t) fs les)
    (filter_passes (bounds_below t) fs) e

-- the upper bounds with the least
pub all_uppers_hold : (t : ℕ) (z : ℤ) (v : Values) (fs : List (Linear ℕ)) → NoEquations fs →
    least_bound t (upper_bounds t fs) v ≡ Fits z → EachOf (λ (f : Linear ℕ). HoldsAt (put t z v) f) (upper_bounds t fs)
all_uppers_hold t z v fs les e =
    uppers_hold t z v (upper_bounds t fs) (each_filter (λ (f : Linear ℕ). f.kind ≡ Le) (bounds_above t) fs les)
    (filter_passes (bounds_above t) fs) e

-- where a variable has no upper bound, the greatest lower bound serves
pub no_upper : (t : ℕ) (fs : List (Linear ℕ)) (v : Values) (z : ℤ) → NoEquations fs → upper_bounds t fs ≡ [] → AllHold v (others t fs) →
    greatest_bound t (lower_bounds t fs) v ≡ Fits z → AllHold (put t z v) fs
no_upper t fs v z les none all e =
    let Holds : Linear ℕ → Type 0 = λ (f : Linear ℕ). HoldsAt (put t z v) f in
    each_all (put t z v) fs
    (each_of_all Holds t fs (others_put t z v fs all) (all_lowers_hold t z v fs les e) (subst (EachOf Holds) (sym none) tt))

-- where it has no lower bound, the least upper bound
pub no_lower : (t : ℕ) (fs : List (Linear ℕ)) (v : Values) (z : ℤ) → NoEquations fs → lower_bounds t fs ≡ [] → AllHold v (others t fs) →
    least_bound t (upper_bounds t fs) v ≡ Fits z → AllHold (put t z v) fs
no_lower t fs v z les none all e =
    let Holds : Linear ℕ → Type 0 = λ (f : Linear ℕ). HoldsAt (put t z v) f in
    each_all (put t z v) fs
    (each_of_all Holds t fs (others_put t z v fs all) (subst (EachOf Holds) (sym none) tt) (all_uppers_hold t z v fs les e))
