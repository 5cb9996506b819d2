-- The terms of a table stand at their places, and so do the operands of their operations.
use Rattle.sm_judge.proofs.Imports.{◌≡◌, zero, suc, ◌<◌, ◌+◌, Bool, true, false, if◌then◌else◌, List, [], ◌∷◌, length, refl, sym, ap, ◌∙◌, subst, Some, arith, ◌⊎◌, inl, inr, ◌≤◌, cases_lt, slice_get-get_or, Sorts, Tree, same_tree, tree_at, tree_in, IsTermWithin, Term, same_tree_is, StandsAt, HasPlaces, HavePlacesBelow, place_in}
use Rattle.std.proofs.Common.{ℕ}
use Rattle.sm_num.proofs.SameAtomLemmas.{not_both}
use Rattle.sm_syntax.specs.claim.Syntax.{Code}
use Rattle.sm_term.specs.declared.term.Term.TheVariants as row

-- a term that is there stands at its place
pub place_there : (trees : List Tree) (i : ℕ) (t : Tree) → StandsAt trees i t → StandsAt trees (place_in trees t) t
place_there [] i t e = absurd cc
place_there (u ∷ us) i t e = by (λ (j : ℕ) (there : StandsAt us j t). place_there us j t there) (same_tree u t) refl
  where
    later : ((j : ℕ) → StandsAt us j t → StandsAt us (place_in us t) t) → (i : ℕ) → same_tree u t ≡ false → StandsAt (u ∷ us) i t →
        StandsAt us (place_in us t) t
    later go zero other e = let same : u ≡ t = cc in absurd (not_both (same_tree u t) ((same_tree_is u t).1 same) other)
    later go (suc i) other e = go i e

    by : ((j : ℕ) → StandsAt us j t → StandsAt us (place_in us t) t) → (b : Bool) → same_tree u t ≡ b →
        StandsAt (u ∷ us) (if b then 0 else suc (place_in us t)) t
    by go true same = ap Some ((same_tree_is u t).0 same)
    by go false other = later go i other e

module _ (sorts : Sorts) (bodies : ℕ) (codes : List Code) (trees : List Tree) where
  -- the tree of a term whose parts stand at their places
  row_places : (n : ℕ) (r : Term) → StandsAt trees n (tree_in codes trees r) → IsTermWithin sorts bodies n r → HavePlacesBelow trees n →
      HasPlaces trees (place_in trees) (tree_in codes trees r)
  row_places n (row.Lit z) at within below = place_there trees n _ at
  row_places n (row.Start x) at within below = place_there trees n _ at
  row_places n (row.Havoc k c x) at within below = place_there trees n _ at
  row_places n (row.Slot c x) at within below = place_there trees n _ at
  row_places n row.Cell at within below = place_there trees n _ at
  row_places n (row.Read a i) at within below = place_there trees n _ at
  row_places n (row.Write a i e) at within below = place_there trees n _ at
  row_places n (row.Neg t) at within below = (place_there trees n _ at, below t.0 within)
  row_places n (row.Add t u) at within below = (place_there trees n _ at, below t.0 within.0, below u.0 within.1)
  row_places n (row.Sub t u) at within below = (place_there trees n _ at, below t.0 within.0, below u.0 within.1)
  row_places n (row.Mul t u) at within below = (place_there trees n _ at, below t.0 within.0, below u.0 within.1)
  row_places n (row.Fun body x from args) at within below = place_there trees n _ at

  -- one term more
  pub places_more : (n : ℕ) (r : Term) → n < length trees → tree_in codes trees r ≡ tree_at trees n → IsTermWithin sorts bodies n r →
      HavePlacesBelow trees n → HavePlacesBelow trees (n + 1)
  places_more n r there tree within below = λ i h. by i h (cases_lt i n)
    where
      here : HasPlaces trees (place_in trees) (tree_at trees n)
      here =
          subst (HasPlaces trees (place_in trees)) tree
          (row_places n r (slice_get-get_or trees n _ there ∙ ap Some (sym tree)) within below)

      by : (i : ℕ) → i < n + 1 → (i < n) ⊎ (n ≤ i) → HasPlaces trees (place_in trees) (tree_at trees i)
      by i h (inl less) = below i less
      by i h (inr more) =
          let e : n ≡ i = omega (arith, h, more) in subst (λ (m : ℕ). HasPlaces trees (place_in trees) (tree_at trees m)) e here
