-- Private: forms by their places in one list, and the pairs of them that are left.
use Rattle.std.specs.Prelude.{◌<◌, ℕ, ◌==◌, pos, Bool, ◌&&◌, not, IsTrue, Option, Some, None, List, [], ◌∷◌, ◌++◌, map, length}
use Rattle.std.specs.List.{filter, find, slice_index_or, All}
use Rattle.sm_num.specs.Forms.{Linear}
use Rattle.sm_num.specs.declared.kind.Kind.TheVariants.{Le}
use Rattle.sm_num.specs.FormLaws.{same_atom}
use Rattle.sm_num.specs.Eliminating.{can_cancel}
use Rattle.sm_fm.specs.declared.roles.Role.{Role}
use Rattle.sm_fm.specs.declared.roles.Role.TheVariants.{Below, Above, Beside}
use Rattle.sm_fm.specs.Elimination.{Placed, has_atom, is_below, is_above, is_pivot}

-- a form that says that 0 is at most 0
abbrev pub no_form : Linear ℕ
no_form = record { parts = []; constant = pos 0; kind = Le }

-- the form at a place
abbrev pub form_at : List (Linear ℕ) → ℕ → Linear ℕ
form_at forms n = slice_index_or forms n no_form

-- the form at a place, with its place
abbrev pub placed_at : List (Linear ℕ) → ℕ → Placed
placed_at forms n = record { place = n; form = form_at forms n }

-- two forms by their places
abbrev pub both_at : List (Linear ℕ) → ℕ × ℕ → Placed × Placed
both_at forms p = (placed_at forms p.0, placed_at forms p.1)

-- whether a form plays a role where an atom is taken out
abbrev pub plays : Role → ℕ → Placed → Bool
plays Below t f = is_below t f
plays Above t f = is_above t f
plays (Beside pivot) t f = has_atom t f && not (f.place == pivot)

-- the places at which the forms play a role
abbrev pub places_of : Role → ℕ → List (Linear ℕ) → List ℕ → List ℕ
places_of role t forms places = filter (λ n. plays role t (placed_at forms n)) places

-- the pairs of a place with each of some, and of each place that follows it with each of all
abbrev pub crossed_from : List ℕ → List ℕ → List ℕ → List (ℕ × ℕ)
crossed_from [] rest all = []
crossed_from (f ∷ fs) rest all = map (λ g. (f, g)) rest ++ crossed_from fs all all

-- each of some places with each of others
abbrev pub crossed_places : List ℕ → List ℕ → List (ℕ × ℕ)
crossed_places fs gs = crossed_from fs gs gs

-- the places of the pairs in which an atom cancels, where the place of a pivot is known
abbrev pub place_pairs_with :
    Option ℕ → ℕ → List (Linear ℕ) → List ℕ → List (ℕ × ℕ)
place_pairs_with None t forms places =
    crossed_places (places_of Below t forms places) (places_of Above t forms places)
place_pairs_with (Some pivot) t forms places =
    crossed_places (places_of (Beside pivot) t forms places) (pivot ∷ [])

-- the place of the pivot
abbrev pub pivot_place : ℕ → List (Linear ℕ) → List ℕ → Option ℕ
pivot_place t forms places = find (λ n. is_pivot t (placed_at forms n)) places

-- the places of the pairs in which an atom cancels
abbrev pub place_pairs : ℕ → List (Linear ℕ) → List ℕ → List (ℕ × ℕ)
place_pairs t forms places = place_pairs_with (pivot_place t forms places) t forms places

-- each number is below another
abbrev pub AreWithin : ℕ → List ℕ → Type 0
AreWithin n places = All (λ k. k < n) places

-- the places of two forms in which an atom cancels
pub record IsPair (forms : List (Linear ℕ)) (t : ℕ) (p : ℕ × ℕ) : Type 0 where
  pub first : p.0 < length forms
  pub second : p.1 < length forms
  pub cancels : IsTrue (can_cancel same_atom (form_at forms p.0) (form_at forms p.1) t)
