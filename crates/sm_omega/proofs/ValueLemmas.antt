-- A value that is put for a variable, and the value of a form by its part at the variable and the rest.
use Rattle.sm_omega.proofs.Imports.{◌≡◌, ◌↔◌, ◌<◌, ℕ, ◌==◌, ℤ, pos, ◌+ℤ◌, ◌*ℤ◌, Bool, false, not, if◌then◌else◌, IsTrue, List, [], ◌∷◌, refl, sym, ap, subst, ◌∙◌, arith, eq-eqb, ne_eqb, fits_form, Linear, Satisfies, HoldsAt, sum_of_parts, without, Fits, computed, Add, Mul, same_atom, value_of_form, sums, zero_mul, Gives, gives_fits, gives_more, then_gives, computed_gives, IsApart, same_atom_sound, apart_turned, without_apart, each_more, AreAmong, sum_without, Values, at, has, put, sum_from, rest_of}
use Rattle.sm_omega.proofs.Progress.{without_it}

-- the variable's value is the one that is put
pub put_same : (t : ℕ) (z : ℤ) (v : Values) → put t z v t ≡ z
put_same t z v = ap (λ (b : Bool). if b then z else v t) (eq-eqb t t refl)

-- each other variable keeps its value
pub put_other : (t : ℕ) (z : ℤ) (v : Values) (a : ℕ) → (a == t) ≡ false → put t z v a ≡ v a
put_other t z v a e = ap (λ (b : Bool). if b then z else v a) e

-- values that agree at the variables of parts give one sum
pub sum_alike : (v w : Values) (ps : List (ℕ × ℤ)) → AreAmong (λ (a : ℕ). v a ≡ w a) ps → sum_of_parts v ps ≡ sum_of_parts w ps
sum_alike v w [] each = refl
sum_alike v w (p ∷ ps) each =
    ap (λ (x : ℤ). (p.1 *ℤ x) +ℤ sum_of_parts v ps) each.0 ∙ ap (λ (x : ℤ). (p.1 *ℤ w p.0) +ℤ x) (sum_alike v w ps each.1)

-- values that agree at the variables of a form give it one value
pub value_alike : (v w : Values) (f : Linear ℕ) → AreAmong (λ (a : ℕ). v a ≡ w a) f.parts → value_of_form v f ≡ value_of_form w f
value_alike v w f each = ap (λ (x : ℤ). x +ℤ f.constant) (sum_alike v w f.parts each)

-- so the form holds with both or with neither
pub holds_alike : (v w : Values) (f : Linear ℕ) → AreAmong (λ (a : ℕ). v a ≡ w a) f.parts → HoldsAt v f ↔ HoldsAt w f
holds_alike v w f each =
    let e = value_alike v w f each in
    (subst (Satisfies f.kind) e, subst (Satisfies f.kind) (sym e))

-- parts apart from a variable don't see its value
apart_alike : (t : ℕ) (z : ℤ) (v : Values) (ps : List (ℕ × ℤ)) → IsApart same_atom t ps → AreAmong (λ (a : ℕ). put t z v a ≡ v a) ps
apart_alike t z v ps apart =
    each_more same_atom (λ r. same_atom t r.0 ≡ false) (λ r. put t z v r.0 ≡ v r.0)
    (λ (r : ℕ × ℤ) (e : same_atom t r.0 ≡ false). put_other t z v r.0 (apart_turned same_atom same_atom_sound t r.0 e)) ps apart

-- parts whose variables are below another one don't see the value of that one
pub below_alike : (s : ℕ) (z : ℤ) (v : Values) (ps : List (ℕ × ℤ)) → AreAmong (λ (a : ℕ). a < s) ps →
    AreAmong (λ (a : ℕ). put s z v a ≡ v a) ps
below_alike s z v ps below =
    each_more same_atom (λ r. r.0 < s) (λ r. put s z v r.0 ≡ v r.0)
    (λ (r : ℕ × ℤ) (less : r.0 < s). put_other s z v r.0 (ne_eqb r.0 s (λ (e : r.0 ≡ s). omega arith))) ps below

-- a form whose variables are below it has the same value
pub value_below : (s : ℕ) (z : ℤ) (v : Values) (f : Linear ℕ) → AreAmong (λ (a : ℕ). a < s) f.parts →
    value_of_form (put s z v) f ≡ value_of_form v f
value_below s z v f below = value_alike (put s z v) v f (below_alike s z v f.parts below)

-- whether a form holds doesn't depend on a variable that is above all of its own
pub holds_below : (s : ℕ) (z : ℤ) (v : Values) (f : Linear ℕ) → AreAmong (λ (a : ℕ). a < s) f.parts →
    HoldsAt v f ↔ HoldsAt (put s z v) f
holds_below s z v f below =
    let both = holds_alike (put s z v) v f (below_alike s z v f.parts below) in
    (both.1, both.0)

-- the value of a form is that of its part at a variable and that of the form without it
pub value_split : (t : ℕ) (v : Values) (f : Linear ℕ) →
    value_of_form v f ≡ (at t f *ℤ v t) +ℤ value_of_form v (without same_atom t f)
value_split t v f = let split = sum_without v same_atom same_atom_sound t f.parts in omega (arith, sums)

-- the form without the variable doesn't see its value
pub value_put_without : (t : ℕ) (z : ℤ) (v : Values) (f : Linear ℕ) →
    value_of_form (put t z v) (without same_atom t f) ≡ value_of_form v (without same_atom t f)
value_put_without t z v f =
    value_alike (put t z v) v (without same_atom t f)
    (apart_alike t z v (without same_atom t f).parts (without_apart same_atom t f.parts))

-- the value of a form with the value that is put
pub value_put : (t : ℕ) (z : ℤ) (v : Values) (f : Linear ℕ) →
    value_of_form (put t z v) f ≡ (at t f *ℤ z) +ℤ value_of_form v (without same_atom t f)
value_put t z v f =
    value_split t (put t z v) f ∙ ap (λ (x : ℤ). (at t f *ℤ x) +ℤ value_of_form (put t z v) (without same_atom t f)) (put_same t z v)
    ∙ ap (λ (x : ℤ). (at t f *ℤ z) +ℤ x) (value_put_without t z v f)

-- a form without the variable has the same value, whatever is put
pub value_none : (t : ℕ) (z : ℤ) (v : Values) (f : Linear ℕ) → at t f ≡ pos 0 → value_of_form (put t z v) f ≡ value_of_form v f
value_none t z v f none =
    let one : at t f *ℤ z ≡ pos 0 = ap (λ (x : ℤ). x *ℤ z) none ∙ zero_mul z in
    let other : at t f *ℤ v t ≡ pos 0 = ap (λ (x : ℤ). x *ℤ v t) none ∙ zero_mul (v t) in
    let first = value_put t z v f in
    let second = value_split t v f in
    omega (arith, sums)

-- whether a form without a variable holds doesn't depend on what is put for it
pub holds_put : (t : ℕ) (z : ℤ) (v : Values) (f : Linear ℕ) → has t f ≡ false → HoldsAt v f ↔ HoldsAt (put t z v) f
holds_put t z v f e =
    let same = value_none t z v f (without_it t f e) in
    (subst (Satisfies f.kind) (sym same), subst (Satisfies f.kind) same)

-- a sum that is computed behind another
sum_from_gives : (v : Values) (z : ℤ) (ps : List (ℕ × ℤ)) → Gives (λ (x : ℤ). x ≡ z +ℤ sum_of_parts v ps) (sum_from v z ps)
sum_from_gives v z [] = omega (arith, sums)
sum_from_gives v z (p ∷ ps) =
    let Goal : ℤ → Type 0 = λ (x : ℤ). x ≡ z +ℤ ((p.1 *ℤ v p.0) +ℤ sum_of_parts v ps) in
    then_gives (λ (y : ℤ). (y ≡ p.1 *ℤ v p.0) × IsTrue (fits_form y)) Goal (computed Mul p.1 (v p.0)) _ (computed_gives Mul p.1 (v p.0))
    (λ (y : ℤ) (first : (y ≡ p.1 *ℤ v p.0) × IsTrue (fits_form y)).
    then_gives (λ (w : ℤ). (w ≡ z +ℤ y) × IsTrue (fits_form w)) Goal (computed Add z y) (λ (w : ℤ). sum_from v w ps)
    (computed_gives Add z y)
    (λ (w : ℤ) (second : (w ≡ z +ℤ y) × IsTrue (fits_form w)).
    gives_more (λ (x : ℤ). x ≡ w +ℤ sum_of_parts v ps) Goal (sum_from v w ps) (sum_from_gives v w ps)
    (λ (x : ℤ) (third : x ≡ w +ℤ sum_of_parts v ps). let one = first.0 in let two = second.0 in omega (arith, sums))))

-- the rest of a form is the value of the form without the variable
pub rest_gives : (t : ℕ) (v : Values) (f : Linear ℕ) → Gives (λ (z : ℤ). z ≡ value_of_form v (without same_atom t f)) (rest_of t v f)
rest_gives t v f =
    let rest = without same_atom t f in
    then_gives (λ (z : ℤ). z ≡ pos 0 +ℤ sum_of_parts v rest.parts) (λ (z : ℤ). z ≡ value_of_form v rest) (sum_from v (pos 0) rest.parts)
    (λ (z : ℤ). computed Add z f.constant) (sum_from_gives v (pos 0) rest.parts)
    (λ (z : ℤ) (first : z ≡ pos 0 +ℤ sum_of_parts v rest.parts).
    gives_more (λ (w : ℤ). (w ≡ z +ℤ f.constant) × IsTrue (fits_form w)) (λ (w : ℤ). w ≡ value_of_form v rest) (computed Add z f.constant)
    (computed_gives Add z f.constant)
    (λ (w : ℤ) (second : (w ≡ z +ℤ f.constant) × IsTrue (fits_form w)). let two = second.0 in omega (arith, sums)))

-- where it fits
pub rest_is : (t : ℕ) (v : Values) (f : Linear ℕ) (z : ℤ) → rest_of t v f ≡ Fits z → z ≡ value_of_form v (without same_atom t f)
rest_is t v f z e = gives_fits (λ (x : ℤ). x ≡ value_of_form v (without same_atom t f)) (rest_of t v f) z (rest_gives t v f) e
