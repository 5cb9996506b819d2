-- Numbers of values in a list that has each once and grows at its end.
use Rattle.sm_cc.proofs.Imports.{◌≡◌, ℕ, zero, suc, Bool, true, false, ◌&&◌, List, [], ◌∷◌, ◌++◌, map, Some, slice_get, Decides, refl, sym, ap, ◌∙◌, if◌then◌else◌, ℤ, ◌==◌, Vec, Global, int_eq, pointwise, Decides-eqb, Decides-int_eq, slice_eq-Decides, list_any, IsDistinct, AllByRecursion, append-nil, map-append, slice_get-map, IsDistinct-head, IsDistinct-tail, StandApart, IsLonger}
use Rattle.std.proofs.Common.{true≢false}
use Rattle.std.specs.Option.{option_map}

module _ {K A : Type 0} (eq : K → K → Bool) (f : K → A) (decides : (x y : K) → Decides (eq x y) (f x ≡ f y)) where
  -- keys with one more are longer
  pub longer_put : (ks : List K) (k : K) → IsLonger (map f ks) (map f (ks ++ k ∷ []))
  longer_put ks k = (f k ∷ [], map-append f ks (k ∷ []))

  -- a key that differs from all others has a value of its own
  differs : (k : K) (ks : List K) (j : ℕ) → AllByRecursion (λ y. eq k y ≡ false) ks → slice_get (map f ks) j ≡ Some (f k) → ⊥
  differs k [] j all e = absurd cc
  differs k (y ∷ ks) zero all e = let same : f y ≡ f k = cc in true≢false (sym ((decides k y).1 (sym same)) ∙ all.0)
  differs k (y ∷ ks) (suc j) all e = differs k ks j all.1 e

  -- the values of distinct keys stand once
  pub apart_from_distinct : (ks : List K) → IsDistinct eq ks → StandApart (map f ks)
  apart_from_distinct [] d i j x e g = absurd cc
  apart_from_distinct (k ∷ ks) d zero zero x e g = refl
  apart_from_distinct (k ∷ ks) d zero (suc j) x e g =
      absurd (differs k ks j (IsDistinct-head eq k ks d) (g ∙ sym e))
  apart_from_distinct (k ∷ ks) d (suc i) zero x e g =
      absurd (differs k ks i (IsDistinct-head eq k ks d) (e ∙ sym g))
  apart_from_distinct (k ∷ ks) d (suc i) (suc j) x e g =
      ap suc (apart_from_distinct ks (IsDistinct-tail eq k ks d) i j x e g)

  -- the value of a key that is stored
  pub value_stored : (ks : List K) (k : K) (n : ℕ) → (s : K) × (slice_get ks n ≡ Some s) × (eq k s ≡ true) → slice_get (map f ks) n
      ≡ Some (f k)
  value_stored ks k n stored =
      slice_get-map f ks n ∙ ap (option_map f) stored.1 ∙ ap Some (sym ((decides k stored.0).0 stored.2))

-- the program's lists of parts
abbrev pub Parts : Type 0
Parts = Vec (ℕ × ℤ) Global

-- the parts of a list
abbrev pub parts_of : Parts → List (ℕ × ℤ)
parts_of v = v.items

-- whether two parts are equal
abbrev pub same_part : ℕ × ℤ → ℕ × ℤ → Bool
same_part p q = (p.0 == q.0) && int_eq p.1 q.1

-- whether two lists of parts are equal
abbrev pub same_list : Parts → Parts → Bool
same_list v w = pointwise same_part v.items w.items

-- two parts are equal where their atoms and coefficients are
same_part-Decides : (p q : ℕ × ℤ) → Decides (same_part p q) (p ≡ q)
same_part-Decides p q = by (p.0 == q.0) (int_eq p.1 q.1) (Decides-eqb p.0 q.0) (Decides-int_eq p.1 q.1)
  where
    by : (a b : Bool) → Decides a (p.0 ≡ q.0) → Decides b (p.1 ≡ q.1) → Decides (a && b) (p ≡ q)
    by true b e d = (
      λ (t : b ≡ true). ap (λ (n : ℕ). (n, p.1)) (e.0 refl) ∙ ap (λ (z : ℤ). (q.0, z)) (d.0 t),
      λ (both : p ≡ q). d.1 (ap (λ (r : ℕ × ℤ). r.1) both),
    )
    by false b e d = (
      λ (t : false ≡ true). absurd cc,
      λ (both : p ≡ q). e.1 (ap (λ (r : ℕ × ℤ). r.0) both),
    )

-- two lists of parts are equal where their parts are
pub same_list-Decides : (v w : Parts) → Decides (same_list v w) (parts_of v ≡ parts_of w)
same_list-Decides v w = slice_eq-Decides same_part-Decides v.items w.items (same_list v w) refl
