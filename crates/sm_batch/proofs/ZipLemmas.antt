-- Two lists side by side.
use Rattle.sm_batch.proofs.Imports.{◌≡◌, ℕ, ◌+◌, ◌<◌, List, [], ◌∷◌, ◌++◌, map, length, get_or, take, sym, ap, subst, ◌∙◌, AllZip, take_more}

-- one more on both sides
pub zip_push : {A B : Type 0} (R : A → B → Type 0) (xs : List A) (ys : List B) (x : A) (y : B)
    → AllZip R xs ys → R x y → AllZip R (xs ++ x ∷ []) (ys ++ y ∷ [])
zip_push R [] [] x y all one = (one, tt)
zip_push R [] (z ∷ ys) x y all one = absurd all
zip_push R (w ∷ xs) [] x y all one = absurd all
zip_push R (w ∷ xs) (z ∷ ys) x y all one = (all.0, zip_push R xs ys x y all.1 one)

-- where each pair has one, the images have the other
pub zip_map : {A B C D : Type 0} (f : A → C) (g : B → D) (R : A → B → Type 0) (S : C → D → Type 0)
    → ((x : A) (y : B) → R x y → S (f x) (g y)) → (xs : List A) (ys : List B) → AllZip R xs ys → AllZip S (map f xs) (map g ys)
zip_map f g R S step [] [] all = tt
zip_map f g R S step [] (y ∷ ys) all = absurd all
zip_map f g R S step (x ∷ xs) [] all = absurd all
zip_map f g R S step (x ∷ xs) (y ∷ ys) all = (step x y all.0, zip_map f g R S step xs ys all.1)

-- one more from a place on
pub zip_more : {A B : Type 0} (R : A → B → Type 0) (xs : List A) (ys zs : List B) (i : ℕ) (x : A) (y : B) → i < length xs → x ≡ get_or xs i x
    → zs ≡ ys ++ y ∷ [] → AllZip R (take i xs) ys → R x y → AllZip R (take (i + 1) xs) zs
zip_more R xs ys zs i x y within at more all one =
    let front : take (i + 1) xs ≡ take i xs ++ x ∷ [] = take_more xs i x within ∙ ap (λ z. take i xs ++ z ∷ []) (sym at) in
    subst (AllZip R (take (i + 1) xs)) (sym more)
    (subst (λ l. AllZip R l (ys ++ y ∷ [])) (sym front) (zip_push R (take i xs) ys x y all one))
