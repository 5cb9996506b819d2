-- What stands in lists that are chosen from others, crossed, mapped and put together.
use Rattle.sm_fm.proofs.Imports.{◌≡◌, ◌⊎◌, inl, inr, ℕ, ◌==◌, Bool, true, false, ◌&&◌, ◌||◌, not, if◌then◌else◌, Option, Some, None, List, [], ◌∷◌, ◌++◌, map, refl, sym, ap, subst, ⊎_elim, find, list_any, not_both, Placed, has_atom, is_below, is_above, is_pivot, crossed, pairs_with, pairs}
use Rattle.std.proofs.Common.{filter}

-- something is an element of a list
abbrev pub IsIn : {X : Type 0} → X → List X → Type 0
IsIn x [] = ⊥
IsIn x (y ∷ ys) = (x ≡ y) ⊎ IsIn x ys

module _ {X : Type 0} where
  -- what passes a test is among those that are chosen
  pub in_filter : (test : X → Bool) (x : X) (xs : List X) → IsIn x xs → test x ≡ true → IsIn x (filter test xs)
  in_filter test x [] is passes = is
  in_filter test x (y ∷ ys) is passes = by (test y) refl is (λ (rest : IsIn x ys). in_filter test x ys rest passes)
    where
      by : (b : Bool) → test y ≡ b → (x ≡ y) ⊎ IsIn x ys → (IsIn x ys → IsIn x (filter test ys)) →
          IsIn x (if b then y ∷ filter test ys else filter test ys)
      by true e here rest = ⊎_elim (λ (same : x ≡ y). inl same) (λ (there : IsIn x ys). inr (rest there)) here
      by false e here rest =
          ⊎_elim (λ (same : x ≡ y). absurd (not_both (test y) (subst (λ (z : X). test z ≡ true) same passes) e)) rest here

  -- those that are chosen stand in the list and pass the test
  pub from_filter : (test : X → Bool) (x : X) (xs : List X) → IsIn x (filter test xs) → IsIn x xs × (test x ≡ true)
  from_filter test x [] is = absurd is
  from_filter test x (y ∷ ys) is = by (test y) refl is (from_filter test x ys)
    where
      by : (b : Bool) → test y ≡ b → IsIn x (if b then y ∷ filter test ys else filter test ys) →
          (IsIn x (filter test ys) → IsIn x ys × (test x ≡ true)) → IsIn x (y ∷ ys) × (test x ≡ true)
      by true e here rest =
          ⊎_elim
          (λ (same : x ≡ y). (inl same, subst (λ (z : X). test z ≡ true) (sym same) e))
          (λ (there : IsIn x (filter test ys)). (inr (rest there).0, (rest there).1))
          here
      by false e here rest = (inr (rest here).0, (rest here).1)

  -- an element of the first of two lists that are put together, and the one that is put at the end
  pub in_first : (x : X) (xs ys : List X) → IsIn x xs → IsIn x (xs ++ ys)
  in_first x [] ys is = absurd is
  in_first x (y ∷ xs) ys is = ⊎_elim (λ (same : x ≡ y). inl same) (λ (there : IsIn x xs). inr (in_first x xs ys there)) is

  pub in_second : (x : X) (xs ys : List X) → IsIn x ys → IsIn x (xs ++ ys)
  in_second x [] ys is = is
  in_second x (y ∷ xs) ys is = inr (in_second x xs ys is)

  pub from_both : (x : X) (xs ys : List X) → IsIn x (xs ++ ys) → IsIn x xs ⊎ IsIn x ys
  from_both x [] ys is = inr is
  from_both x (y ∷ xs) ys is =
      ⊎_elim
      (λ (same : x ≡ y). inl (inl same))
      (λ (there : IsIn x (xs ++ ys)). ⊎_elim (λ (h : IsIn x xs). inl (inr h)) (λ (h : IsIn x ys). inr h) (from_both x xs ys there))
      is

  -- what a test finds stands in the list and passes
  pub found : (test : X → Bool) (x : X) (xs : List X) → find test xs ≡ Some x → IsIn x xs × (test x ≡ true)
  found test x [] e = absurd cc
  found test x (y ∷ ys) e = by (test y) refl e (found test x ys)
    where
      by : (b : Bool) → test y ≡ b → (if b then Some y else find test ys) ≡ Some x →
          (find test ys ≡ Some x → IsIn x ys × (test x ≡ true)) → IsIn x (y ∷ ys) × (test x ≡ true)
      by true t e rest = let same : x ≡ y = cc in (inl same, subst (λ (z : X). test z ≡ true) (sym same) t)
      by false t e rest = (inr (rest e).0, (rest e).1)

  -- where it finds none, no element passes
  pub not_found : (test : X → Bool) (x : X) (xs : List X) → find test xs ≡ None → IsIn x xs → test x ≡ false
  not_found test x [] e is = absurd is
  not_found test x (y ∷ ys) e is = by (test y) refl e (λ (rest : find test ys ≡ None) (there : IsIn x ys). not_found test x ys rest there)
    where
      by : (b : Bool) → test y ≡ b → (if b then Some y else find test ys) ≡ None →
          (find test ys ≡ None → IsIn x ys → test x ≡ false) → test x ≡ false
      by true t e rest = absurd cc
      by false t e rest = ⊎_elim (λ (same : x ≡ y). subst (λ (z : X). test z ≡ false) (sym same) t) (rest e) is

  -- an element for which a test is true somewhere in the list
  pub some_passes : (test : X → Bool) (xs : List X) → list_any test xs ≡ true → (x : X) × IsIn x xs × (test x ≡ true)
  some_passes test [] e = absurd cc
  some_passes test (y ∷ ys) e = by (test y) refl e (some_passes test ys)
    where
      by : (b : Bool) → test y ≡ b → (b || list_any test ys) ≡ true →
          (list_any test ys ≡ true → (x : X) × IsIn x ys × (test x ≡ true)) → (x : X) × IsIn x (y ∷ ys) × (test x ≡ true)
      by true t e rest = (y, inl refl, t)
      by false t e rest = let there = rest e in (there.0, inr there.1, there.2)

  -- an element of a list is one of what a function gives of the list
  pub in_map : {Y : Type 0} (f : X → Y) (x : X) (xs : List X) → IsIn x xs → IsIn (f x) (map f xs)
  in_map f x [] is = absurd is
  in_map f x (y ∷ ys) is = ⊎_elim (λ (same : x ≡ y). inl (ap f same)) (λ (there : IsIn x ys). inr (in_map f x ys there)) is

-- each pair of elements of two lists is among the crossed
pub in_crossed : (f g : Placed) (fs gs : List Placed) → IsIn f fs → IsIn g gs → IsIn {X = Placed × Placed} (f, g) (crossed fs gs)
in_crossed f g [] gs first second = absurd first
in_crossed f g (y ∷ ys) gs first second =
    ⊎_elim
    (λ (same : f ≡ y).
    in_first {X = Placed × Placed} (f, g) (map (λ (z : Placed). (y, z)) gs) (crossed ys gs)
    (subst (λ (x : Placed). IsIn {X = Placed × Placed} (f, g) (map (λ (z : Placed). (x, z)) gs)) same
    (in_map {X = Placed} {Y = Placed × Placed} (λ (z : Placed). (f, z)) g gs second)))
    (λ (there : IsIn f ys). in_second {X = Placed × Placed} (f, g) (map (λ (z : Placed). (y, z)) gs) (crossed ys gs)
    (in_crossed f g ys gs there second))
    first

-- elements of a list that stand in the pairs that a function makes
pub from_map : {X Y : Type 0} (f : X → Y) (y : Y) (xs : List X) → IsIn y (map f xs) → (x : X) × IsIn x xs × (y ≡ f x)
from_map f y [] is = absurd is
from_map f y (x ∷ xs) is =
    ⊎_elim
    (λ (same : y ≡ f x). (x, inl refl, same))
    (λ (there : IsIn y (map f xs)). let rest = from_map f y xs there in (rest.0, inr rest.1, rest.2))
    is

-- crossed pairs are of elements of the two lists
pub from_crossed : (p : Placed × Placed) (fs gs : List Placed) → IsIn p (crossed fs gs) → IsIn p.0 fs × IsIn p.1 gs
from_crossed p [] gs is = absurd is
from_crossed p (f ∷ fs) gs is =
    ⊎_elim
    (λ (here : IsIn p (map (λ (z : Placed). (f, z)) gs)).
    let from = from_map {X = Placed} {Y = Placed × Placed} (λ (z : Placed). (f, z)) p gs here in
    let second : p.1 ≡ from.0 = ap (λ (q : Placed × Placed). q.1) from.2 in
    (inl (ap (λ (q : Placed × Placed). q.0) from.2), subst (λ (z : Placed). IsIn z gs) (sym second) from.1))
    (λ (there : IsIn p (crossed fs gs)). let rest = from_crossed p fs gs there in (inr rest.0, rest.1))
    (from_both p (map (λ (z : Placed). (f, z)) gs) (crossed fs gs) is)

-- the pairs in which an atom cancels are of forms of the list
pub from_pairs : (t : ℕ) (p : Placed × Placed) (forms : List Placed) → IsIn p (pairs t forms) → IsIn p.0 forms × IsIn p.1 forms
from_pairs t p forms is = by (find (is_pivot t) forms) refl is
  where
    by : (o : Option Placed) → find (is_pivot t) forms ≡ o → IsIn p (pairs_with o t forms) → IsIn p.0 forms × IsIn p.1 forms
    by None e is =
        let both = from_crossed p (filter (is_below t) forms) (filter (is_above t) forms) is in
        ((from_filter (is_below t) p.0 forms both.0).0, (from_filter (is_above t) p.1 forms both.1).0)
    by (Some pivot) e is =
        let test = λ (z : Placed). has_atom t z && not (z.place == pivot.place) in
        let from = from_map {X = Placed} {Y = Placed × Placed} (λ (z : Placed). (z, pivot)) p (filter test forms) is in (
          subst (λ (z : Placed). IsIn z forms) (sym (ap (λ (q : Placed × Placed). q.0) from.2)) (from_filter test from.0 forms from.1).0,
          subst (λ (z : Placed). IsIn z forms) (sym (ap (λ (q : Placed × Placed). q.1) from.2)) (found (is_pivot t) pivot forms e).0,
        )
