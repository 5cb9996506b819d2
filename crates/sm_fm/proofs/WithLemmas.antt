-- The pairs in which an atom cancels are those of the forms that have it.
use Rattle.sm_fm.proofs.Imports.{◌≡◌, ◌==◌, ℕ, ℤ, pos, negsuc, Bool, true, false, not, cond, ◌&&◌, Option, Some, None, List, [], ◌∷◌, map, refl, ap, ◌∙◌, find, int_eq, is_equation, is_negative, Placed, has_atom, is_below, is_above, is_pivot, crossed, pairs_with, pairs}
use Rattle.std.specs.List.{filter}
use Rattle.sm_fm.specs.Elimination.{coefficient_at}
use Rattle.sm_fm.proofs.PlaceLemmas.{and_first, and_second}

module _ (test wide : Placed → Bool) (more : (f : Placed) → test f ≡ true → wide f ≡ true) where
  -- what passes a test is chosen from those that pass a wider one
  chosen_among : (fs : List Placed) → filter test (filter wide fs) ≡ filter test fs
  chosen_among [] = refl
  chosen_among (f ∷ fs) = by (wide f) (test f) refl refl (chosen_among fs)
    where
      by : (b c : Bool) → wide f ≡ b → test f ≡ c → filter test (filter wide fs) ≡ filter test fs →
          filter test (cond b (f ∷ filter wide fs) (filter wide fs)) ≡ cond c (f ∷ filter test fs) (filter test fs)
      by true c is here rest =
          ap (λ (d : Bool). cond d (f ∷ filter test (filter wide fs)) (filter test (filter wide fs))) here
          ∙ ap (λ (l : List Placed). cond c (f ∷ l) l) rest
      by false true is here rest = let wrong = more f here in absurd cc
      by false false is here rest = rest

  -- the first that passes a test is the first of those that pass a wider one
  found_among : (fs : List Placed) → find test (filter wide fs) ≡ find test fs
  found_among [] = refl
  found_among (f ∷ fs) = by (wide f) (test f) refl refl (found_among fs)
    where
      by : (b c : Bool) → wide f ≡ b → test f ≡ c → find test (filter wide fs) ≡ find test fs →
          find test (cond b (f ∷ filter wide fs) (filter wide fs)) ≡ cond c (Some f) (find test fs)
      by true c is here rest =
          ap (λ (d : Bool). cond d (Some f) (find test (filter wide fs))) here ∙ ap (λ (o : Option Placed). cond c (Some f) o) rest
      by false true is here rest = let wrong = more f here in absurd cc
      by false false is here rest = rest

-- a number below 0 isn't 0
pub below_some : (z : ℤ) → is_negative z ≡ true → not (int_eq z (pos 0)) ≡ true
below_some (pos n) e = absurd cc
below_some (negsuc n) e = refl

module _ (t : ℕ) (forms : List Placed) where
  -- the forms that have the atom
  abbrev having : List Placed
  having = filter (has_atom t) forms

  same_pairs : (pivot : Option Placed) → pairs_with pivot t having ≡ pairs_with pivot t forms
  same_pairs None =
      ap (λ (l : List Placed). crossed l (filter (is_above t) having))
      (chosen_among (is_below t) (has_atom t) (λ f e. below_some (coefficient_at t f) e) forms)
      ∙ ap (crossed (filter (is_below t) forms))
      (chosen_among (is_above t) (has_atom t) (λ f e. and_first (has_atom t f) (not (is_below t f)) e) forms)
  same_pairs (Some pivot) =
      ap (map (λ (f : Placed). (f, pivot)))
      (chosen_among (λ (f : Placed). has_atom t f && not (f.place == pivot.place)) (has_atom t)
      (λ f e. and_first (has_atom t f) (not (f.place == pivot.place)) e) forms)

  pub pairs_having : pairs t having ≡ pairs t forms
  pairs_having =
      ap (λ (o : Option Placed). pairs_with o t having)
      (found_among (is_pivot t) (has_atom t) (λ f e. and_second (is_equation f.form.kind) (has_atom t f) e) forms)
      ∙ same_pairs (find (is_pivot t) forms)
