-- Private: the forms that stand, the atoms with which they begin, and their places by these.
use Rattle.std.specs.Prelude.{◌≡◌, ◌<◌, ℕ, zero, suc, ◌==◌, pos, Bool, true, ◌&&◌, not, List, [], ◌∷◌, ◌++◌, map, length, get_or, set, Vec}
use Rattle.std.specs.List.{filter, range_with_len}
use Rattle.std.specs.Ordering.{int_eq}
use Rattle.std.specs.declared.alloc.Global.{Global}
use Rattle.sm_num.specs.Forms.{Linear, coefficient}
use Rattle.sm_num.specs.FormLaws.{same_atom}
use Rattle.sm_fm.specs.Elimination.{Placed, placed_from}
use Rattle.sm_fm.specs.Places.{form_at}

-- whether a form has an atom
abbrev pub has : ℕ → Linear ℕ → Bool
has t h = not (int_eq (coefficient same_atom t h.parts) (pos 0))

-- whether it has none before that
abbrev pub has_none_before : ℕ → Linear ℕ → Bool
has_none_before zero h = true
has_none_before (suc t) h = has_none_before t h && not (has t h)

-- whether it begins with it
abbrev pub begins_with : ℕ → Linear ℕ → Bool
begins_with t h = has_none_before t h && has t h

-- a form begins with an atom, where it is below a number; else with none below it
abbrev pub BeginsAt : ℕ → ℕ → Linear ℕ → Type 0
BeginsAt end atom h = (t : ℕ) → t < end → begins_with t h ≡ (t == atom)

-- the forms that stand where an atom is at hand: those that have none before it
abbrev pub standing : List (Linear ℕ) → ℕ → List Placed
standing forms t = filter (λ f. has_none_before t f.form) (placed_from 0 forms)

-- the places of the forms that begin with an atom
abbrev pub beginning : List (Linear ℕ) → ℕ → List ℕ
beginning forms t =
    filter (λ n. begins_with t (form_at forms n)) (range_with_len 0 (length forms))

-- those for each of so many atoms
abbrev pub beginnings : List (Linear ℕ) → ℕ → List (List ℕ)
beginnings forms atoms = map (beginning forms) (range_with_len 0 atoms)

-- the lists in vectors
abbrev pub lists_in : List (Vec ℕ Global) → List (List ℕ)
lists_in firsts = map (λ v. v.items) firsts

-- a place is put behind those of an atom, where it has a list
abbrev pub put_at : List (List ℕ) → ℕ → ℕ → List (List ℕ)
put_at lists atom place = set lists atom (get_or lists atom [] ++ place ∷ [])

-- vectors list the places of all forms, by the atoms with which they begin
abbrev pub ListsFirsts : List (Vec ℕ Global) → List (Linear ℕ) → ℕ → Type 0
ListsFirsts firsts forms atoms = lists_in firsts ≡ beginnings forms atoms
