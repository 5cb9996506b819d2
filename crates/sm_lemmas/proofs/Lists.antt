-- What stands at a place of a list that is joined, pushed to, mapped or set, and lists without items.
use Rattle.std.proofs.Common.{◌≡◌, ℕ, zero, suc, ◌+◌, Some, None, List, [], ◌∷◌, ◌++◌, slice_get, length, arith, ⊎_elim, inl, inr, ◌⊎◌, ◌<◌, refl, ap, ◌∙◌, map, slice_set}
use Rattle.std.specs.List.{range_with_len, AllZip}
use Rattle.std.proofs.lemmas.Option.{same_Some}

-- an element stays where it is as more are put behind it
pub get_in_first : {X : Type 0} (xs ys : List X) (n : ℕ) (x : X) → slice_get xs n ≡ Some x → slice_get (xs ++ ys) n ≡ Some x
get_in_first [] ys n x h = absurd (let k : None ≡ Some x = h in cc)
get_in_first (z ∷ xs) ys zero x h = h
get_in_first (z ∷ xs) ys (suc n) x h = get_in_first xs ys n x h

-- what stands in two lists
pub get_in_either : {A : Type 0} (xs ys : List A) (k : ℕ) (y : A) → slice_get (xs ++ ys) k ≡ Some y →
    (slice_get xs k ≡ Some y) ⊎ ((m : ℕ) × (k ≡ length xs + m) × (slice_get ys m ≡ Some y))
get_in_either [] ys k y e = inr (k, omega arith, e)
get_in_either (x ∷ xs) ys zero y e = inl e
get_in_either {A} (x ∷ xs) ys (suc k) y e =
    ⊎_elim (λ (h : slice_get xs k ≡ Some y). inl h)
    (λ (h : (m : ℕ) × (k ≡ length xs + m) × (slice_get ys m ≡ Some y)). let same = h.1 in inr (h.0, omega (arith, same), h.2))
    (get_in_either xs ys k y e)

-- there is an element within a list
pub get_below : {X : Type 0} (xs : List X) (i : ℕ) → i < length xs → (x : X) × (slice_get xs i ≡ Some x)
get_below [] i h = absurd (omega arith)
get_below (x ∷ xs) zero h = (x, refl)
get_below (x ∷ xs) (suc i) h = get_below xs i (omega arith)

-- what stands behind a first list is what stands in the second
pub get_in_second : {X : Type 0} (xs ys : List X) (i : ℕ) → slice_get (xs ++ ys) (length xs + i) ≡ slice_get ys i
get_in_second [] ys i = let e : 0 + i ≡ i = omega arith in ap (slice_get ys) e
get_in_second (x ∷ xs) ys i =
    let e : suc (length xs) + i ≡ suc (length xs + i) = omega arith in
    ap (slice_get (x ∷ (xs ++ ys))) e ∙ get_in_second xs ys i

-- the one behind
pub get_last : {X : Type 0} (xs : List X) (y : X) → slice_get (xs ++ y ∷ []) (length xs) ≡ Some y
get_last [] y = refl
get_last (z ∷ xs) y = get_last xs y

-- the numbers from one on, one more
pub range_more : (a n : ℕ) → range_with_len a (suc n) ≡ range_with_len a n ++ (a + n) ∷ []
range_more a zero = ap (λ (k : ℕ). k ∷ []) (let e : a ≡ a + 0 = omega arith in e)
range_more a (suc n) =
    let last : (a + 1) + n ≡ a + suc n = omega arith in
    ap (λ (ks : List ℕ). a ∷ ks) (range_more (a + 1) n ∙ ap (λ (k : ℕ). range_with_len (a + 1) n ++ k ∷ []) last)

-- an element of a list with one more is one of the list, or the last
pub get_pushed : {X : Type 0} (xs : List X) (x y : X) (k : ℕ) → slice_get (xs ++ x ∷ []) k ≡ Some y →
    (slice_get xs k ≡ Some y) ⊎ ((k ≡ length xs) × (x ≡ y))
get_pushed [] x y zero e = inr (refl, same_Some x y e)
get_pushed [] x y (suc k) e = absurd cc
get_pushed (z ∷ xs) x y zero e = inl e
get_pushed (z ∷ xs) x y (suc k) e =
    elim (get_pushed xs x y k e) [ inl h ↦ inl h | inr h ↦ inr (ap suc h.0, h.1) ]

-- things that may be there are equal as things
pub one_thing : {T : Type 0} (x y : T) → Some x ≡ Some y → x ≡ y
one_thing x y is = cc

-- they are as long
pub zip_length : {A B : Type 0} (R : A → B → Type 0) (xs : List A) (ys : List B) → AllZip R xs ys → length xs ≡ length ys
zip_length R [] [] all = refl
zip_length R [] (y ∷ ys) all = absurd all
zip_length R (x ∷ xs) [] all = absurd all
zip_length R (x ∷ xs) (y ∷ ys) all = ap (λ n. suc n) (zip_length R xs ys all.1)

-- what stands at a place of a list that is mapped
pub get_mapped : {T U : Type 0} (f : T → U) (l : List T) (i : ℕ) (a : T) → slice_get l i ≡ Some a → slice_get (map f l) i ≡ Some (f a)
get_mapped f [] i a e = absurd cc
get_mapped f (b ∷ l) zero a e = ap (λ x. Some (f x)) (same_Some b a e)
get_mapped f (b ∷ l) (suc i) a e = get_mapped f l i a e

-- what stands in a list after a write
pub get_set : {T : Type 0} (l : List T) (x : ℕ) (t : T) → x < length l → slice_get (slice_set l x t) x ≡ Some t
get_set [] x t h = absurd (omega arith)
get_set (a ∷ l) zero t h = refl
get_set (a ∷ l) (suc x) t h = get_set l x t (omega arith)

-- a place at which something stands
pub below_if_got : {A : Type 0} (xs : List A) (k : ℕ) (x : A) → slice_get xs k ≡ Some x → k < length xs
below_if_got [] k x e = absurd cc
below_if_got (y ∷ ys) zero x e = omega arith
below_if_got (y ∷ ys) (suc k) x e = let less = below_if_got ys k x e in omega arith

-- lists one behind the other
pub together : {A : Type 0} (xs ys zs : List A) → (xs ++ ys) ++ zs ≡ xs ++ (ys ++ zs)
together [] ys zs = refl
together {A} (x ∷ xs) ys zs = ap (λ (l : List A). x ∷ l) (together xs ys zs)

-- neither of two lists has an item
pub neither_has_items : (xs ys : List ℕ) → xs ++ ys ≡ [] → (xs ≡ []) × (ys ≡ [])
neither_has_items [] ys e = (refl, e)
neither_has_items (x ∷ xs) ys e = absurd cc

-- lists of no elements
pub no_items : {A : Type 0} (xs : List A) → length xs ≡ 0 → xs ≡ []
no_items [] h = refl
no_items (x ∷ xs) h = absurd (omega arith)
