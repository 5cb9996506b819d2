-- Elements that stand in another list, under the new numbers that theirs get.
use Rattle.sm_prune.proofs.Imports.{◌≡◌, ◌⊎◌, ℕ, zero, suc, ◌<◌, Bool, true, false, nat_eq, Some, slice_get, get_or, List, [], ◌∷◌, ◌++◌, length, inl, inr, refl, ap, sym, ◌∙◌, arith, list_any, AllByRecursion, Decides-eqb, get_or_append_left, same_Some, new_number, or_right, or_left}
use Rattle.sm_lemmas.proofs.Lists.{get_in_first, get_last}

-- element n stands in the other list
abbrev pub StandsAt : {T : Type 0} → (ℕ → ℕ) → List T → List T → ℕ → Type 0
StandsAt {T} move xs ys n = (x : T) → slice_get xs n ≡ Some x → slice_get ys (move n) ≡ Some x

-- those with these numbers do
abbrev pub EachStands : {T : Type 0} → (ℕ → ℕ) → List T → List T → List ℕ → Type 0
EachStands move xs ys ns = AllByRecursion (StandsAt move xs ys) ns

-- each that is wanted does
abbrev pub AreCarried : {T : Type 0} → (ℕ → Bool) → List ℕ → List T → List T → Type 0
AreCarried wanted moved xs ys = (n : ℕ) → wanted n ≡ true → StandsAt (new_number moved) xs ys n

-- each that is named stands there
pub each_stands : {T : Type 0} (move : ℕ → ℕ) (xs ys : List T) (ns : List ℕ) →
    ((n : ℕ) → list_any (nat_eq n) ns ≡ true → StandsAt move xs ys n) → EachStands move xs ys ns
each_stands move xs ys [] all = tt
each_stands move xs ys (m ∷ ns) all = (
  all m (or_left (nat_eq m m) (list_any (nat_eq m) ns) ((Decides-eqb m m).1 refl)),
  each_stands move xs ys ns
      (λ (n : ℕ) (h : list_any (nat_eq n) ns ≡ true). all n (or_right (nat_eq n m) (list_any (nat_eq n) ns) h)),
)

-- either of both
pub slice_either : {T : Type 0} (xs : List T) (x y : T) (n : ℕ) → slice_get (xs ++ x ∷ []) n ≡ Some y →
    ((slice_get xs n ≡ Some y) × (n < length xs)) ⊎ ((n ≡ length xs) × (x ≡ y))
slice_either [] x y zero e = inr (refl, same_Some x y e)
slice_either [] x y (suc n) e = absurd cc
slice_either (z ∷ xs) x y zero e = inl (e, omega arith)
slice_either {T} (z ∷ xs) x y (suc n) e = of (slice_either xs x y n e)
  where
    of : ((slice_get xs n ≡ Some y) × (n < length xs)) ⊎ ((n ≡ length xs) × (x ≡ y)) →
        ((slice_get xs n ≡ Some y) × (suc n < suc (length xs))) ⊎ ((suc n ≡ suc (length xs)) × (x ≡ y))
    of (inl h) = inl (h.0, (let less = h.1 in omega arith))
    of (inr h) = inr (ap suc h.0, h.1)

-- the new number behind others
pub number_last : (moved : List ℕ) (k : ℕ) → new_number (moved ++ k ∷ []) (length moved) ≡ k
number_last [] k = refl
number_last (m ∷ moved) k = number_last moved k

-- one element more in both lists
pub carried_on : {T : Type 0} (wanted later : ℕ → Bool) (moved : List ℕ) (xs ys : List T) (x : T) (k : ℕ) → length moved ≡ length xs →
    length ys ≡ k → ((n : ℕ) → later n ≡ true → wanted n ≡ true) → AreCarried wanted moved xs ys →
    AreCarried later (moved ++ k ∷ []) (xs ++ x ∷ []) (ys ++ x ∷ [])
carried_on {T} wanted later moved xs ys x k same there less carried n h y e = of (slice_either xs x y n e)
  where
    of : ((slice_get xs n ≡ Some y) × (n < length xs)) ⊎ ((n ≡ length xs) × (x ≡ y)) →
        slice_get (ys ++ x ∷ []) (new_number (moved ++ k ∷ []) n) ≡ Some y
    of (inl g) =
        ap (slice_get (ys ++ x ∷ []))
        (get_or_append_left moved (k ∷ []) 0 n (let within = g.1 in let less : n < length moved = omega arith in less))
        ∙ get_in_first ys (x ∷ []) (new_number moved n) y (carried n (less n h) y g.0)
    of (inr g) =
        ap (λ (m : ℕ). slice_get (ys ++ x ∷ []) (new_number (moved ++ k ∷ []) m)) (g.0 ∙ sym same)
        ∙ (ap (slice_get (ys ++ x ∷ [])) (number_last moved k ∙ sym there)
        ∙ (get_last ys x ∙ ap Some g.1))

-- one element more, which nothing wants, in the first list alone
pub carried_past : {T : Type 0} (wanted : ℕ → Bool) (moved : List ℕ) (xs ys : List T) (x : T) (k : ℕ) → length moved ≡ length xs →
    wanted (length xs) ≡ false → AreCarried wanted moved xs ys → AreCarried wanted (moved ++ k ∷ []) (xs ++ x ∷ []) ys
carried_past {T} wanted moved xs ys x k same none carried n h y e = of (slice_either xs x y n e)
  where
    of : ((slice_get xs n ≡ Some y) × (n < length xs)) ⊎ ((n ≡ length xs) × (x ≡ y)) →
        slice_get ys (new_number (moved ++ k ∷ []) n) ≡ Some y
    of (inl g) =
        ap (slice_get ys)
        (get_or_append_left moved (k ∷ []) 0 n (let within = g.1 in let less : n < length moved = omega arith in less))
        ∙ carried n h y g.0
    of (inr g) = let wrong : true ≡ false = sym h ∙ (ap wanted g.0 ∙ none) in absurd cc
