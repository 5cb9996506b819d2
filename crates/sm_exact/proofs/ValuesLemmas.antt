-- The best of bounds, from a place on.
use Rattle.sm_exact.proofs.Imports.{◌≡◌, ◌+◌, ◌<◌, ◌≤◌, ℕ, suc, ℤ, pos, unwrap_or, Bool, true, false, if◌then◌else◌, Option, Some, None, List, [], ◌∷◌, length, get_or, drop, refl, sym, ap, subst, ◌∙◌, add-one, Explains, NumError, Linear, Outcome, Fits, Leaves, then_with, Values, at, rest_of, bound_from, bounds_of, greatest, greatest_of, least, least_of, Below, Above, side_bound, bound_at, is_from, better, same_number}
use Rattle.std.proofs.Common.{filter}
use Rattle.std.proofs.Math.Seq.{drop-cons}
use Rattle.std.proofs.Math.ListN.{drop_of_length-le}
use Rattle.sm_num.specs.declared.error.NumError.TheVariants as error
use Rattle.sm_exact.specs.declared.frame.Side.{Side}

-- the best of numbers and of one that may be missing
abbrev pub best_of : Side → Option ℤ → List ℤ → ℤ
best_of Below None zs = greatest zs
best_of Above None zs = least zs
best_of Below (Some y) zs = greatest_of y zs
best_of Above (Some y) zs = least_of y zs

-- the bound from one side, of which the best so far is known
abbrev pub bound_behind : Side → ℕ → Values → Option ℤ → List (Linear ℕ) → Outcome ℤ
bound_behind side t v best fs = then_with (bounds_of t v (filter (is_from side t) fs)) (λ (zs : List ℤ). Fits (best_of side best zs))

best_more : (side : Side) (best : Option ℤ) (z : ℤ) (zs : List ℤ) → best_of side best (z ∷ zs) ≡ best_of side (Some (better side best z)) zs
best_more Below None z zs = refl
best_more Above None z zs = refl
best_more Below (Some y) z zs = refl
best_more Above (Some y) z zs = refl

-- a form more that bounds the variable from the side
bound_more : (side : Side) (t : ℕ) (v : Values) (best : Option ℤ) (f : Linear ℕ) (fs : List (Linear ℕ)) (z : ℤ) → is_from side t f ≡ true →
    bound_at t v f ≡ Fits z → bound_behind side t v best (f ∷ fs) ≡ bound_behind side t v (Some (better side best z)) fs
bound_more side t v best f fs z from fits =
    ap
    (λ (b : Bool). then_with (bounds_of t v (if b then f ∷ filter (is_from side t) fs else filter (is_from side t) fs))
    (λ (zs : List ℤ). Fits (best_of side best zs)))
    from
    ∙ by (rest_of t v f) (bounds_of t v (filter (is_from side t) fs)) fits
  where
    by : (o : Outcome ℤ) (os : Outcome (List ℤ)) → then_with o (λ (x : ℤ). Fits (bound_from (at t f) x)) ≡ Fits z →
        then_with (then_with o (λ (x : ℤ). then_with os (λ (zs : List ℤ). Fits (bound_from (at t f) x ∷ zs))))
        (λ (zs : List ℤ). Fits (best_of side best zs))
        ≡ then_with os (λ (zs : List ℤ). Fits (best_of side (Some (better side best z)) zs))
    by (Fits x) (Fits zs) e =
        ap (λ (y : ℤ). Fits (best_of side best (y ∷ zs))) (same_number (bound_from (at t f) x) z e) ∙ ap Fits (best_more side best z zs)
    by (Fits x) (Leaves op y w) e = refl
    by (Leaves op y w) os e = absurd cc

-- one that doesn't
bound_skip : (side : Side) (t : ℕ) (v : Values) (best : Option ℤ) (f : Linear ℕ) (fs : List (Linear ℕ)) → is_from side t f ≡ false →
    bound_behind side t v best (f ∷ fs) ≡ bound_behind side t v best fs
bound_skip side t v best f fs from =
    ap
    (λ (b : Bool). then_with (bounds_of t v (if b then f ∷ filter (is_from side t) fs else filter (is_from side t) fs))
    (λ (zs : List ℤ). Fits (best_of side best zs)))
    from

-- one whose bound leaves the range
bound_fails : (side : Side) (t : ℕ) (v : Values) (best : Option ℤ) (f : Linear ℕ) (fs : List (Linear ℕ)) (e : NumError) →
    is_from side t f ≡ true → Explains (bound_at t v f) e → Explains (bound_behind side t v best (f ∷ fs)) e
bound_fails side t v best f fs error.Memory from leaves = tt
bound_fails side t v best f fs (error.Beyond op y z) from leaves =
    ap
    (λ (b : Bool). then_with (bounds_of t v (if b then f ∷ filter (is_from side t) fs else filter (is_from side t) fs))
    (λ (zs : List ℤ). Fits (best_of side best zs)))
    from
    ∙ by (rest_of t v f) (bounds_of t v (filter (is_from side t) fs)) leaves
  where
    by : (o : Outcome ℤ) (os : Outcome (List ℤ)) → then_with o (λ (x : ℤ). Fits (bound_from (at t f) x)) ≡ Leaves op y z →
        then_with (then_with o (λ (x : ℤ). then_with os (λ (zs : List ℤ). Fits (bound_from (at t f) x ∷ zs))))
        (λ (zs : List ℤ). Fits (best_of side best zs))
        ≡ Leaves op y z
    by (Fits x) os e = absurd cc
    by (Leaves o a b) os e = cc

-- the form at a place is the next
module _ (side : Side) (t : ℕ) (v : Values) (best : Option ℤ) (whole : Outcome ℤ) (i : ℕ) (fs : List (Linear ℕ)) (f : Linear ℕ)
    (so_far : whole ≡ bound_behind side t v best (drop i fs)) (within : i < length fs) (here : f ≡ get_or fs i f) where
  shown : whole ≡ bound_behind side t v best (f ∷ drop (suc i) fs)
  shown =
      so_far ∙ ap (bound_behind side t v best) (drop-cons fs i f within)
      ∙ ap (λ g. bound_behind side t v best (g ∷ drop (suc i) fs)) (sym here)

  pub turn_more : (z : ℤ) (new : Option ℤ) → is_from side t f ≡ true → bound_at t v f ≡ Fits z → new ≡ Some (better side best z) →
      whole ≡ bound_behind side t v new (drop (i + 1) fs)
  turn_more z new from fits is =
      shown ∙ bound_more side t v best f (drop (suc i) fs) z from fits
      ∙ ap (λ b. bound_behind side t v b (drop (suc i) fs)) (sym is)
      ∙ ap (λ n. bound_behind side t v new (drop n fs)) (sym (add-one i))

  pub turn_skip : (new : Option ℤ) → is_from side t f ≡ false → new ≡ best → whole ≡ bound_behind side t v new (drop (i + 1) fs)
  turn_skip new from is =
      shown ∙ bound_skip side t v best f (drop (suc i) fs) from
      ∙ ap (λ b. bound_behind side t v b (drop (suc i) fs)) (sym is)
      ∙ ap (λ n. bound_behind side t v new (drop n fs)) (sym (add-one i))

  pub turn_fails : (e : NumError) → is_from side t f ≡ true → Explains (bound_at t v f) e → Explains whole e
  turn_fails e from leaves =
      subst (λ o. Explains o e) (sym shown) (bound_fails side t v best f (drop (suc i) fs) e from leaves)

-- the bound from one side
pub bound_all : (side : Side) (t : ℕ) (v : Values) (fs : List (Linear ℕ)) → side_bound side t fs v ≡ bound_behind side t v None fs
bound_all Below t v fs = refl
bound_all Above t v fs = refl

-- after the last form
pub bound_end : (side : Side) (t : ℕ) (v : Values) (best : Option ℤ) (whole : Outcome ℤ) (i : ℕ) (fs : List (Linear ℕ)) (z : ℤ) →
    whole ≡ bound_behind side t v best (drop i fs) → length fs ≤ i → z ≡ unwrap_or best (pos 0) → whole ≡ Fits z
bound_end side t v best whole i fs z so_far past is =
    so_far ∙ ap (bound_behind side t v best) (drop_of_length-le fs past) ∙ ap Fits (by side best) ∙ ap Fits (sym is)
  where
    by : (side : Side) (best : Option ℤ) → best_of side best [] ≡ unwrap_or best (pos 0)
    by Below None = refl
    by Above None = refl
    by Below (Some y) = refl
    by Above (Some y) = refl
