-- Cited by public clauses: how atoms are taken out of linear forms, one after the other, in the
-- order of a list. An atom's number is its place there.
use Rattle.std.specs.Prelude.{ℕ, zero, suc, ◌==◌, ℤ, pos, Bool, true, false, ◌&&◌, not, if◌then◌else◌, Option, Some, None, List, [], ◌∷◌, ◌++◌, map, length}
use Rattle.std.specs.List.{filter, find, list_any}
use Rattle.std.specs.Ordering.{int_eq}
use Rattle.sm_num.specs.Forms.{Linear, coefficient}
use Rattle.sm_num.specs.declared.kind.Kind.{Kind}
use Rattle.sm_num.specs.declared.kind.Kind.TheVariants.{Le, Eq}
use Rattle.sm_num.specs.FormLaws.{same_atom}
use Rattle.sm_num.specs.Combining.{Outcome, Fits, Leaves}
use Rattle.sm_num.specs.declared.op.Op.{Op}
use Rattle.sm_num.specs.Eliminating.{is_equation, is_negative, eliminated}
use Rattle.sm_num.specs.Tightening.{has_no_part, is_contradictory}

-- a form with its place in the list of the given forms, which the kept sums follow
pub record Placed : Type 0 where
  pub place : ℕ
  pub form : Linear ℕ

-- what happens
pub data Event : Type 0 where
  -- two forms, by their places, have a sum without an atom; whether it is kept, and whether it is a
  -- contradiction
  Cancels : ℕ → ℕ → ℕ → Bool → Bool → Event
  -- an operation leaves the range
  GoesBeyond : Op → ℤ → ℤ → Event

-- whether two lists have the same parts in the same order
abbrev pub same_list : List (ℕ × ℤ) → List (ℕ × ℤ) → Bool
same_list [] [] = true
same_list (p ∷ ps) (q ∷ qs) = (p.0 == q.0) && (int_eq p.1 q.1 && same_list ps qs)
same_list ps qs = false

-- whether two kinds are the same
abbrev pub same_kind : Kind → Kind → Bool
same_kind Le kind = not (is_equation kind)
same_kind Eq kind = is_equation kind

-- whether two forms are the same
abbrev pub same_form : Linear ℕ → Linear ℕ → Bool
same_form f g =
    same_list f.parts g.parts && (int_eq f.constant g.constant && same_kind f.kind g.kind)

-- the coefficient that a form has at an atom
abbrev pub coefficient_at : ℕ → Placed → ℤ
coefficient_at t f = coefficient same_atom t f.form.parts

-- whether a form has an atom
abbrev pub has_atom : ℕ → Placed → Bool
has_atom t f = not (int_eq (coefficient_at t f) (pos 0))

-- whether its coefficient there is below 0
abbrev pub is_below : ℕ → Placed → Bool
is_below t f = is_negative (coefficient_at t f)

-- whether it is above 0
abbrev pub is_above : ℕ → Placed → Bool
is_above t f = has_atom t f && not (is_below t f)

-- whether an equation has the atom
abbrev pub is_pivot : ℕ → Placed → Bool
is_pivot t f = is_equation f.form.kind && has_atom t f

-- each form of one list with each of another
abbrev pub crossed : List Placed → List Placed → List (Placed × Placed)
crossed [] gs = []
crossed (f ∷ fs) gs = map (λ g. (f, g)) gs ++ crossed fs gs

-- each other form with an atom, with the pivot; where there is none, each form whose coefficient is
-- below 0 with each whose coefficient is above 0
abbrev pub pairs_with : Option Placed → ℕ → List Placed → List (Placed × Placed)
pairs_with None t forms = crossed (filter (is_below t) forms) (filter (is_above t) forms)
pairs_with (Some pivot) t forms =
    map (λ f. (f, pivot)) (filter (λ f. has_atom t f && not (f.place == pivot.place)) forms)

-- the pairs of forms in which an atom cancels; the pivot is the first equation that has it
abbrev pub pairs : ℕ → List Placed → List (Placed × Placed)
pairs t forms = pairs_with (find (is_pivot t) forms) t forms

-- whether a sum that can hold is kept: it says something, and doesn't stand in the list yet
abbrev pub is_new : Linear ℕ → List Placed → Bool
is_new h forms = not (has_no_part h.parts) && not (list_any (λ f. same_form h f.form) forms)

-- what goes on with the list of forms and the number of those that were placed
abbrev pub Next : Type 0
Next = List Placed → ℕ → List Event

-- the sum of two forms, then what goes on; a contradiction, and an operation that leaves the range,
-- end the list
abbrev pub with_sum :
    ℕ → Placed → Placed → Outcome (Linear ℕ) → Next → List Placed → ℕ → List Event
with_sum t f g (Leaves op y z) next forms count = GoesBeyond op y z ∷ []
with_sum t f g (Fits h) next forms count =
    if is_contradictory h then Cancels f.place g.place t false true ∷ []
    else if is_new h forms then
    Cancels f.place g.place t true false
    ∷ next (forms ++ record { place = count; form = h } ∷ []) (suc count)
    else Cancels f.place g.place t false false ∷ next forms count

-- the sums of pairs, in order, then what goes on
abbrev pub sums : ℕ → List (Placed × Placed) → Next → List Placed → ℕ → List Event
sums t [] next forms count = next forms count
sums t (p ∷ ps) next forms count =
    with_sum t p.0 p.1 (eliminated p.0.form p.1.form t) (sums t ps next) forms count

-- the forms without an atom
abbrev pub forms_without : ℕ → List Placed → List Placed
forms_without t forms = filter (λ f. not (has_atom t f)) forms

-- so many atoms are taken out, from t on
abbrev pub taken_out : ℕ → ℕ → List Placed → ℕ → List Event
taken_out zero t forms count = []
taken_out (suc more) t forms count =
    sums t (pairs t forms)
    (λ (left : List Placed) (n : ℕ). taken_out more (suc t) (forms_without t left) n) forms count

-- forms with their places, from one on
abbrev pub placed_from : ℕ → List (Linear ℕ) → List Placed
placed_from n [] = []
placed_from n (f ∷ fs) = record { place = n; form = f } ∷ placed_from (suc n) fs

-- all that happens while each of so many atoms is taken out of forms
abbrev pub events : List (Linear ℕ) → ℕ → List Event
events forms atoms = taken_out atoms 0 (placed_from 0 forms) (length forms)
