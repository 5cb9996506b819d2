-- What is left of all lines leads where they lead, from a start on.
use Rattle.sm_prune.proofs.Imports.{◌≡◌, ℕ, Bool, true, Ok, List, [], refl, subst, arith, cases_Bool, Sorts, State, ProofLine, Progress, start_progress, LeadAlike, AreTold, no_numbers, left_lines, advanced, AreReadable}
use Rattle.sm_prune.proofs.LeftLeads.{Serves, left_lead}
use Rattle.sm_prune.proofs.LeftReadable.{IsLowNumbering, left_readable}

-- no term and no formula stands before the start
serves_start : (st : State) (bs : List Bool) (lines : List ProofLine) → Serves 0 0 no_numbers (start_progress st) [] [] bs lines
serves_start st bs lines = record {
  terms_there = refl;
  forms_there = refl;
  terms_moved = refl;
  forms_moved = refl;
  terms_left = refl;
  forms_left = refl;
  terms_stand = λ n h x e. absurd cc;
  forms_stand = λ n h x e. absurd cc;
}

pub left_alike : (bs : List Bool) (lines : List ProofLine) → AreTold 0 0 bs lines → LeadAlike lines (left_lines no_numbers bs lines)
left_alike bs lines told = λ (sorts : Sorts) (st : State) (q : Progress) (e : advanced sorts (start_progress st) lines ≡ Ok q).
    let led = left_lead sorts 0 0 no_numbers (start_progress st) q [] [] bs lines told (serves_start st bs lines) e in
    (record q { terms = led.zs; forms = led.hs }, led.comes, refl, refl)

low_start : IsLowNumbering no_numbers
low_start = record { terms = tt; forms = tt; terms_few = omega arith; forms_few = omega arith }

pub left_read : (bs : List Bool) (lines : List ProofLine) → AreReadable lines → AreReadable (left_lines no_numbers bs lines)
left_read bs lines are = left_readable no_numbers bs lines low_start are
