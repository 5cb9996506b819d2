-- What stands behind an answer, by what it rests on.
use Rattle.sm_replies.proofs.Imports.{◌≡◌, ◌∙◌, ℕ, List, sym, subst, Option, Some, None, option_map, Vec, Global, IsOutcome, Verdict, Parts, Effort, Stop, Status, Accepted, Conflict, Unknown, reach_of, IsShownBy, RestsOn, stop_in, ComesWith, Ground, Proved, Input, Stopped}
use Rattle.sm_houdini.specs.Outcomes.{Outcome}

-- what is shown by an input rests on it
pub shown_rests : (t : Parts) (effort : Effort) (status : Status) (text : List ℕ) (g : Ground) → IsShownBy t status text g
    → RestsOn t effort status text g
shown_rests t effort status text Proved h = absurd h
shown_rests t effort status text (Input store) h = h
shown_rests t effort status text (Stopped stop) h = absurd h

-- no proof comes with an answer that isn't accepted
none_comes : (t : Parts) (status : Status) (o : Option (Vec ℕ Global)) → o ≡ None → (status ≡ Accepted → ⊥)
    → ComesWith t status (option_map (λ (v : Vec ℕ Global). v.items) o)
none_comes t status o none other =
    subst (λ (x : Option (Vec ℕ Global)). ComesWith t status (option_map (λ (v : Vec ℕ Global). v.items) x)) (sym none) other

-- no proof comes with a conflict
pub shown_comes : (t : Parts) (status : Status) (o : Option (Vec ℕ Global)) → o ≡ None → status ≡ Conflict
    → ComesWith t status (option_map (λ (v : Vec ℕ Global). v.items) o)
shown_comes t status o none is =
    none_comes t status o none (λ (accepted : status ≡ Accepted). absurd (let both : Conflict ≡ Accepted = sym is ∙ accepted in cc))

-- none comes where the search decides nothing
pub unknown_comes : (t : Parts) (status : Status) (o : Option (Vec ℕ Global)) → o ≡ None → status ≡ Unknown
    → ComesWith t status (option_map (λ (v : Vec ℕ Global). v.items) o)
unknown_comes t status o none is =
    none_comes t status o none (λ (accepted : status ≡ Accepted). absurd (let both : Unknown ≡ Accepted = sym is ∙ accepted in cc))

-- an answer that shows an input is a Conflict
pub shown_is : (t : Parts) (status : Status) (text : List ℕ) (g : Ground) → IsShownBy t status text g → status ≡ Conflict
shown_is t status text Proved h = absurd h
shown_is t status text (Input store) h = h.0
shown_is t status text (Stopped stop) h = absurd h

-- an Unknown rests on what the search stopped at
pub stopped_rests : (t : Parts) (effort : Effort) (status : Status) (text : List ℕ) (g : Ground) (stop : Stop) (o : Outcome (ℕ × Verdict))
    → g ≡ Stopped stop → status ≡ Unknown → IsOutcome t (reach_of effort) effort.turns o → stop_in o ≡ Some stop
    → RestsOn t effort status text g
stopped_rests t effort status text g stop o is e found stopped =
    subst (λ (x : Ground). RestsOn t effort status text x) (sym is) (e, record { outcome = o; found = found; stopped = stopped })
