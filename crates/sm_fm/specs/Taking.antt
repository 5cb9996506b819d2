-- Cited by public clauses: what an elimination is seen as, and what a step of it gives.
use Rattle.std.specs.Prelude.{◌≡◌, ℕ, Bool, IsTrue, if◌then◌else◌, Some, List, [], ◌∷◌, ◌++◌, length, Result, Ok, Err, slice_get}
use Rattle.sm_num.specs.declared.error.NumError.{NumError}
use Rattle.sm_num.specs.declared.error.NumError.TheVariants.{Beyond, Memory}
use Rattle.sm_num.specs.Forms.{Linear}
use Rattle.sm_num.specs.FormLaws.{same_atom}
use Rattle.sm_num.specs.Combining.{Fits}
use Rattle.sm_num.specs.Eliminating.{can_cancel, eliminated}
use Rattle.sm_num.specs.Tightening.{is_contradictory}
use Rattle.sm_term.specs.declared.term.TermId.{TermId}
use Rattle.sm_fm.specs.declared.step.ElimStep.{ElimStep}
use Rattle.sm_fm.specs.declared.step.ElimStep.TheVariants.{Line, End}
use Rattle.sm_fm.specs.Elimination.{Event, Cancels, GoesBeyond, events}

-- an elimination: the terms of its atoms, the forms by their places, given and kept, and what is
-- left to happen
pub record Taking : Type 0 where
  pub atoms : List TermId
  pub forms : List (Linear ℕ)
  pub left : List Event

-- an elimination before anything happens
abbrev pub begun : List TermId → List (Linear ℕ) → Taking
begun atoms forms =
    record { atoms = atoms; forms = forms; left = events forms (length atoms) }

-- the next event is a sum of two forms in which an atom cancels
pub record TakesSum
    (old new : Taking) (f g : ℕ) (atom : TermId) (kept contradiction : Bool) : Type 0 where
  pub number : ℕ
  pub first : Linear ℕ
  pub second : Linear ℕ
  pub sum : Linear ℕ
  pub atoms_are : new.atoms ≡ old.atoms
  pub atom_is : slice_get old.atoms number ≡ Some atom
  pub first_is : slice_get old.forms f ≡ Some first
  pub second_is : slice_get old.forms g ≡ Some second
  pub cancels : IsTrue (can_cancel same_atom first second number)
  pub sum_is : eliminated first second number ≡ Fits sum
  pub contradiction_is : contradiction ≡ is_contradictory sum
  pub forms_are : new.forms ≡ old.forms ++ (if kept then sum ∷ [] else [])
  pub happens : old.left ≡ Cancels f g number kept contradiction ∷ new.left

-- these events are left, after which nothing is; nothing else changes
pub record EndsWith (old new : Taking) (events : List Event) : Type 0 where
  pub atoms_are : new.atoms ≡ old.atoms
  pub forms_are : new.forms ≡ old.forms
  pub happens : old.left ≡ events
  pub over : new.left ≡ []

-- a step gives the next event; after want of memory nothing is said
abbrev pub Gives : Taking → Taking → Result ElimStep NumError → Type 0
Gives old new (Ok (Line f g atom kept contradiction)) =
    TakesSum old new f g atom kept contradiction
Gives old new (Ok End) = EndsWith old new []
Gives old new (Err (Beyond op y z)) = EndsWith old new (GoesBeyond op y z ∷ [])
Gives old new (Err Memory) = Unit {0}
