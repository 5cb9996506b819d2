-- Lists of entries.
use Rattle.sm_audit.proofs.Imports.{◌≡◌, ◌⊎◌, inl, inr, ◌<◌, ℕ, zero, suc, Option, Some, None, List, [], ◌∷◌, length, get_or, refl, sym, ap, ◌∙◌, arith, same_Some, entry_of, IsPut}
use Rattle.std.proofs.Math.ListN.{replicate, set}

-- as many as are wanted, which tell nothing
pub none_told : (count n : ℕ) → entry_of (replicate count None) n ≡ None
none_told zero zero = refl
none_told zero (suc n) = refl
none_told (suc count) zero = refl
none_told (suc count) (suc n) = none_told count n

-- one is put at a place
pub entry_put : (since : List (Option ℕ)) (i node : ℕ) → IsPut since (set since i (Some node)) i node
entry_put [] i node n first e = inl e
entry_put (o ∷ since) zero node zero first e = inr (refl, sym (same_Some node first e))
entry_put (o ∷ since) zero node (suc n) first e = inl e
entry_put (o ∷ since) (suc i) node zero first e = inl e
entry_put (o ∷ since) (suc i) node (suc n) first e = of (entry_put since i node n first e)
  where
    of : (entry_of since n ≡ Some first) ⊎ ((n ≡ i) × (first ≡ node)) →
        (entry_of since n ≡ Some first) ⊎ ((suc n ≡ suc i) × (first ≡ node))
    of (inl h) = inl h
    of (inr h) = inr (ap suc h.0, h.1)
