-- Private: sums of forms while atoms are taken out, as the program keeps them.
use Rattle.std.specs.Prelude.{◌≡◌, ℕ, suc, ◌+◌, ◌<◌, ◌≤◌, IsTrue, Some, List, [], ◌∷◌, ◌++◌, length, slice_get}
use Rattle.sm_num.specs.Forms.{Linear}
use Rattle.sm_num.specs.FormLaws.{same_atom}
use Rattle.sm_num.specs.Combining.{Fits}
use Rattle.sm_num.specs.Eliminating.{can_cancel, eliminated}
use Rattle.sm_term.specs.declared.term.TermId.{TermId}
use Rattle.sm_judge.specs.declared.eliminating.ElimLine.{ElimLine}
use Rattle.sm_judge.specs.declared.summing.SumsEnd.{SumsEnd}
use Rattle.sm_judge.specs.declared.summing.SumsEnd.TheVariants as ends
use Rattle.sm_judge.specs.Forms.{Walked, Closes, TooFar, GoesOut}
use Rattle.sm_judge.specs.Refutations.{Contradict}

-- a form is the sum of two of these without an atom
pub record IsSum (forms : List (Linear ℕ)) (e : ElimLine) (h : Linear ℕ) : Type 0 where
  pub first : Linear ℕ
  pub second : Linear ℕ
  pub first_is : slice_get forms e.f ≡ Some first
  pub second_is : slice_get forms e.g ≡ Some second
  pub cancels : IsTrue (can_cancel same_atom first second e.atom.0)
  pub sum_is : eliminated first second e.atom.0 ≡ Fits h

-- forms with sums of them, each of which goes behind the forms before the next one is made
abbrev pub AreSums : List (Linear ℕ) → List ElimLine → List (Linear ℕ) → Type 0
AreSums forms [] all = all ≡ forms
AreSums forms (e ∷ es) all =
    (h : Linear ℕ) × IsSum forms e h × AreSums (forms ++ h ∷ []) es all

-- the numbers of atoms ascend by one, from one on
abbrev pub AreNumbered : ℕ → List TermId → Type 0
AreNumbered n [] = Unit {0}
AreNumbered n (t ∷ ts) = (t.0 ≡ n) × AreNumbered (suc n) ts

-- how sums end is what is counted of them
abbrev pub TellsSums : SumsEnd → ℕ → Walked → (ℕ → Walked) → Type 0
TellsSums (ends.Contradiction count) steps walked next = (walked ≡ Closes count) × (count ≤ steps)
TellsSums (ends.GoesOn count) steps walked next = (walked ≡ next count) × (count ≤ steps)
TellsSums ends.Steps steps walked next = walked ≡ TooFar
TellsSums (ends.Coefficient op a b) steps walked next = walked ≡ GoesOut op a b

-- where the last of the sums can't hold, they come to a contradiction
abbrev pub ShowsSums : List (Linear ℕ) → List ElimLine → SumsEnd → Type 0
ShowsSums forms es (ends.Contradiction count) =
    (0 < length es)
    × ((bad : ℕ) → bad + 1 ≡ length forms + length es → Contradict forms es bad)
ShowsSums forms es (ends.GoesOn count) = Unit {0}
ShowsSums forms es ends.Steps = Unit {0}
ShowsSums forms es (ends.Coefficient op a b) = Unit {0}
