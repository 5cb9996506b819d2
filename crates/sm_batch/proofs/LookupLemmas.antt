-- What a look-up finds in a cache.
use Rattle.sm_batch.proofs.Imports.{◌≡◌, ℕ, Bool, false, Option, Some, None, IsSome, List, refl, sym, ap, ◌∙◌, Vec, Global, option_map, option_map_or, lookup, bytes_eq, Parts, Kept, Entry, key_of, entry_of, entries_of}
use Rattle.sm_batch.specs.Groups.{is_hit}
use Rattle.sm_batch.specs.Keys.{is_key_of}
use Rattle.sm_batch.proofs.MapLemmas.{lookup-images}

module _ (cached : List (Vec ℕ Global × Kept)) (t : Parts) (key : List ℕ) (same : key ≡ key_of t) (o : Option Kept)
    (found : o ≡ lookup (λ (v : Vec ℕ Global). bytes_eq key v.items) cached) where
  -- what is found is what the entries have under the task's key
  pub entry_found : lookup (is_key_of t) (entries_of cached) ≡ option_map entry_of o
  unfolding is_key_of
  entry_found =
      ap (λ k. lookup (bytes_eq k) (entries_of cached)) (sym same)
      ∙ lookup-images (λ (v : Vec ℕ Global). v.items) entry_of (bytes_eq key) cached
      ∙ ap (option_map entry_of) (sym found)

  -- so a task is a hit where the certificate that is found is taken
  pub hit_found : (takes : Parts → List ℕ → Bool)
      → is_hit takes (entries_of cached) t ≡ option_map_or (λ (k : Kept). takes t k.cert.items) o false
  unfolding is_hit
  hit_found takes = ap (λ e. option_map_or (λ (entry : Entry). takes t entry.cert) e false) entry_found ∙ by o
    where
      by : (p : Option Kept) →
          option_map_or (λ (entry : Entry). takes t entry.cert) (option_map entry_of p) false
          ≡ option_map_or (λ (k : Kept). takes t k.cert.items) p false
      by None = refl
      by (Some k) = refl

-- where a key isn't found, entries have nothing under it
pub none_found : (cached : List (Vec ℕ Global × Kept)) (key : List ℕ) → (IsSome (lookup (λ (v : Vec ℕ Global). bytes_eq key v.items) cached) → ⊥)
    → lookup (bytes_eq key) (entries_of cached) ≡ None
none_found cached key none =
    lookup-images (λ (v : Vec ℕ Global). v.items) entry_of (bytes_eq key) cached ∙ by (lookup (λ (v : Vec ℕ Global). bytes_eq key v.items) cached) none
  where
    by : (o : Option Kept) → (IsSome o → ⊥) → option_map entry_of o ≡ None
    by None never = refl
    by (Some k) never = absurd (never refl)

-- what is none isn't some
pub none_not_some : {T P : Type 0} (o : Option T) → o ≡ None → IsSome o → P
none_not_some None none some = absurd (cc)
none_not_some (Some x) none some = absurd (cc)
