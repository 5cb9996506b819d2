-- Private: the state of an elimination, and what is left to happen from there.
use Rattle.std.specs.Prelude.{◌≡◌, ◌<◌, ◌+◌, ℕ, suc, pos, Bool, if◌then◌else◌, List, [], ◌∷◌, ◌++◌, map, length, Result, Ok, Err}
use Rattle.std.specs.List.{All}
use Rattle.sm_num.specs.Forms.{Linear, coefficient}
use Rattle.sm_num.specs.FormLaws.{same_atom}
use Rattle.sm_num.specs.Combining.{Outcome, Fits, Leaves}
use Rattle.sm_num.specs.Eliminating.{eliminated}
use Rattle.sm_num.specs.declared.error.NumError.{NumError}
use Rattle.sm_num.specs.declared.error.NumError.TheVariants.{Beyond, Memory}
use Rattle.sm_num.specs.Tightening.{is_contradictory}
use Rattle.sm_term.specs.declared.term.TermId.{TermId}
use Rattle.sm_fm.specs.declared.step.ElimStep.{ElimStep}
use Rattle.sm_fm.specs.declared.step.ElimStep.TheVariants.{Line, End}
use Rattle.sm_fm.specs.declared.state.State.{State}
use Rattle.sm_fm.specs.Elimination.{Event, Cancels, Next, sums, with_sum, taken_out, forms_without}
use Rattle.sm_fm.specs.Firsts.{standing, ListsFirsts}
use Rattle.sm_fm.specs.Known.{KnowsAll}
use Rattle.sm_fm.specs.Places.{form_at, placed_at, both_at, IsPair}
use Rattle.sm_fm.specs.Taking.{Taking}

-- the atoms after one are taken out of the forms without it
abbrev pub later_atoms : ℕ → ℕ → Next
later_atoms more t forms count = taken_out more (suc t) (forms_without t forms) count

-- what happens after the next sum
abbrev pub after_sum : List (Linear ℕ) → ℕ → ℕ → List (ℕ × ℕ) → Next
after_sum forms t more pairs = sums t (map (both_at forms) pairs) (later_atoms more t)

-- what is left to happen, by the forms, the atom at hand, how many come after it, and the pairs
-- that are left
abbrev pub left_of : List (Linear ℕ) → ℕ → ℕ → List (ℕ × ℕ) → List Event
left_of forms t more pairs = after_sum forms t more pairs (standing forms t) (length forms)

-- what is left of a state
abbrev pub events_left : State → List Event
events_left s = left_of s.forms.items s.atom s.more s.pairs

-- what is left of a state where a pair that was just taken has this sum
abbrev pub events_of_sum : State → ℕ × ℕ → Outcome (Linear ℕ) → List Event
events_of_sum s p outcome =
    with_sum s.atom (placed_at s.forms.items p.0) (placed_at s.forms.items p.1) outcome
    (after_sum s.forms.items s.atom s.more s.pairs)
    (standing s.forms.items s.atom) (length s.forms.items)

-- the state as it is seen
abbrev pub taking : State → Taking
taking s =
    record { atoms = s.atoms.list.items; forms = s.forms.items; left = events_left s }

-- the state as it is seen where nothing is left
abbrev pub stopped : State → Taking
stopped s = record { atoms = s.atoms.list.items; forms = s.forms.items; left = [] }

-- the state as it is seen where a form was put after the others
abbrev pub with_form : State → Linear ℕ → Taking
with_form s h =
    let n = length s.forms.items in
    record {
      atoms = s.atoms.list.items;
      forms = s.forms.items ++ h ∷ [];
      left = after_sum s.forms.items s.atom s.more s.pairs
          (standing s.forms.items s.atom ++ record { place = n; form = h } ∷ [])
          (suc n);
    }

-- a form has no atom below a number
abbrev pub Lacks : ℕ → Linear ℕ → Type 0
Lacks n h = (a : ℕ) → a < n → coefficient same_atom a h.parts ≡ pos 0

-- a pair is of forms in which the atom at hand cancels, which is one of so many, and which have no
-- earlier one
pub record IsPairOf (forms : List (Linear ℕ)) (atoms t : ℕ) (p : ℕ × ℕ) : Type 0 where
  pub atom : t < atoms
  pub pair : IsPair forms t p
  pub first_lacks : Lacks t (form_at forms p.0)
  pub second_lacks : Lacks t (form_at forms p.1)

-- the atoms that come later are among the atoms; the places of the forms are listed by the atoms
-- with which they begin; exactly the forms of the list are known, of which those that don't stand
-- have an atom that a new sum lacks; pairs are of forms that stand
pub record IsSound (s : State) : Type 0 where
  pub later : 0 < s.more → s.atom + s.more < length s.atoms.list.items
  pub firsts : ListsFirsts s.firsts.items s.forms.items (length s.atoms.list.items)
  pub known : KnowsAll s.known.keys s.forms.items
  pub pairs : All (IsPairOf s.forms.items (length s.atoms.list.items) s.atom) s.pairs

-- a sum that fits was dealt with
pub record IsSettled
    (old new : State) (p : ℕ × ℕ) (sum : Linear ℕ) (kept contradiction : Bool) : Type 0 where
  pub atoms_are : new.atoms.list.items ≡ old.atoms.list.items
  pub contradiction_is : contradiction ≡ is_contradictory sum
  pub forms_are : new.forms.items ≡ old.forms.items ++ (if kept then sum ∷ [] else [])
  pub happens : events_of_sum old p (Fits sum)
      ≡ Cancels p.0 p.1 old.atom kept contradiction ∷ events_left new

-- the first pair of a state was taken
pub record TakesPair (old new : State) (p : ℕ × ℕ) : Type 0 where
  pub atoms_are : new.atoms.list.items ≡ old.atoms.list.items
  pub forms_are : new.forms.items ≡ old.forms.items
  pub pair : IsPairOf new.forms.items (length new.atoms.list.items) new.atom p
  pub happens : let sum = eliminated (form_at new.forms.items p.0) (form_at new.forms.items p.1) in
      events_left old ≡ events_of_sum new p (sum new.atom)

-- the step says how
abbrev pub Settles : State → State → ℕ × ℕ → TermId → Linear ℕ → ElimStep → Type 0
Settles old new p atom sum (Line f g t kept contradiction) =
    (f ≡ p.0) × (g ≡ p.1) × (t ≡ atom) × IsSettled old new p sum kept contradiction
Settles old new p atom sum End = ⊥

-- a sum, whether it fits or not, was dealt with
abbrev pub Finishes :
    State → State → ℕ × ℕ → TermId → Outcome (Linear ℕ) → Result ElimStep NumError → Type 0
Finishes old new p atom outcome (Ok step) =
    (h : Linear ℕ) × (outcome ≡ Fits h) × Settles old new p atom h step
Finishes old new p atom outcome (Err (Beyond op y z)) =
    (outcome ≡ Leaves op y z) × (taking new ≡ stopped old)
Finishes old new p atom outcome (Err Memory) = Unit {0}
