-- What is done to the entries of a map is done to their images, where the keys' tests agree.
use Rattle.sm_batch.proofs.Imports.{◌≡◌, ℕ, zero, suc, Bool, true, false, cond, Option, Some, None, List, [], ◌∷◌, map, take, refl, sym, ap, ◌∙◌, option_map, option_map_or, lookup, lookup_entry, remove_entry, promoted}

module _ {K V L X : Type 0} (f : K → L) (g : V → X) where
  -- the image of an entry
  abbrev pub image : K × V → L × X
  image e = (f e.0, g e.1)

  -- those of the entries that a cache has
  abbrev pub images : List (K × V) → List (L × X)
  images es = map image es

  images-take : (n : ℕ) (es : List (K × V)) → images (take n es) ≡ take n (images es)
  images-take zero es = refl
  images-take (suc n) [] = refl
  images-take (suc n) (e ∷ es) = ap (λ r. image e ∷ r) (images-take n es)

  module _ (test : L → Bool) where
    pub lookup-images : (es : List (K × V)) → lookup test (images es) ≡ option_map g (lookup (λ k. test (f k)) es)
    lookup-images [] = refl
    lookup-images (e ∷ es) = by (test (f e.0)) (lookup-images es)
      where
        by : (b : Bool) → lookup test (images es) ≡ option_map g (lookup (λ k. test (f k)) es)
            → cond b (Some (g e.1)) (lookup test (images es)) ≡ option_map g (cond b (Some e.1) (lookup (λ k. test (f k)) es))
        by true rest = refl
        by false rest = rest

    pub lookup_entry-images : (es : List (K × V)) → lookup_entry test (images es) ≡ option_map image (lookup_entry (λ k. test (f k)) es)
    lookup_entry-images [] = refl
    lookup_entry-images (e ∷ es) = by (test (f e.0)) (lookup_entry-images es)
      where
        by : (b : Bool) → lookup_entry test (images es) ≡ option_map image (lookup_entry (λ k. test (f k)) es)
            → cond b (Some (image e)) (lookup_entry test (images es)) ≡ option_map image (cond b (Some e) (lookup_entry (λ k. test (f k)) es))
        by true rest = refl
        by false rest = rest

    pub images-remove_entry : (es : List (K × V)) → images (remove_entry (λ k. test (f k)) es) ≡ remove_entry test (images es)
    images-remove_entry [] = refl
    images-remove_entry (e ∷ es) = by (test (f e.0)) (images-remove_entry es)
      where
        by : (b : Bool) → images (remove_entry (λ k. test (f k)) es) ≡ remove_entry test (images es)
            → images (cond b es (e ∷ remove_entry (λ k. test (f k)) es)) ≡ cond b (images es) (image e ∷ remove_entry test (images es))
        by true rest = refl
        by false rest = ap (λ r. image e ∷ r) rest

    -- the entry that was found goes first
    pub images-promoted : (es : List (K × V)) → images (promoted (λ k. test (f k)) es) ≡ promoted test (images es)
    images-promoted es =
        by (lookup_entry (λ k. test (f k)) es)
        ∙ ap (λ o. option_map_or (λ e. e ∷ remove_entry test (images es)) o (images es)) (sym (lookup_entry-images es))
      where
        by : (o : Option (K × V)) →
            images (option_map_or (λ e. e ∷ remove_entry (λ k. test (f k)) es) o es)
            ≡ option_map_or (λ e. e ∷ remove_entry test (images es)) (option_map image o) (images es)
        by None = refl
        by (Some e) = ap (λ r. image e ∷ r) (images-remove_entry es)

    -- an entry is put
    pub images-put : (es : List (K × V)) (k : K) (v : V) (n : ℕ) →
        images (option_map_or (λ e. (e.0, v) ∷ remove_entry (λ j. test (f j)) es) (lookup_entry (λ j. test (f j)) es) ((k, v) ∷ take n es))
        ≡ option_map_or (λ e. (e.0, g v) ∷ remove_entry test (images es)) (lookup_entry test (images es)) ((f k, g v) ∷ take n (images es))
    images-put es k v n =
        by (lookup_entry (λ j. test (f j)) es)
        ∙ ap (λ o. option_map_or (λ e. (e.0, g v) ∷ remove_entry test (images es)) o ((f k, g v) ∷ take n (images es)))
        (sym (lookup_entry-images es))
      where
        by : (o : Option (K × V)) →
            images (option_map_or (λ e. (e.0, v) ∷ remove_entry (λ j. test (f j)) es) o ((k, v) ∷ take n es))
            ≡ option_map_or (λ e. (e.0, g v) ∷ remove_entry test (images es)) (option_map image o) ((f k, g v) ∷ take n (images es))
        by None = ap (λ r. (f k, g v) ∷ r) (images-take n es)
        by (Some e) = ap (λ r. (f e.0, g v) ∷ r) (images-remove_entry es)
