-- The exact decision of forms, as the walk counts it and as a certificate needs it.
use Rattle.sm_solve.proofs.Imports.{◌≡◌, ◌≤◌, ◌-◌, ℕ, min, None, List, ap, ◌∙◌, arith, Linear, Fits, exact, Assertion, Seen, AreSources, decided, by_decision}
use Rattle.sm_omega.specs.Counting.{Done}
use Rattle.sm_omega.specs.Rules.{Answer}
use Rattle.sm_omega.proofs.LimitLemmas.{count_is_within, limit_does_not_matter}
use Rattle.sm_judge.specs.declared.forms.Source.{Source}
use Rattle.sm_certify.specs.Decided.{AreDecided}

-- forms are decided in the steps that are left
pub decided_is : (fs : List (Linear ℕ)) (steps count left : ℕ) (all : List Assertion) (a : Answer) → min (steps - count) 1000000 ≡ left →
    exact fs left ≡ a → by_decision steps count all (Fits fs) ≡ decided count all a
decided_is fs steps count left all a room told =
    ap (λ (k : ℕ). decided count all (exact fs k)) room ∙ ap (decided count all) told

-- where they have no solution, as many steps as were counted show it
pub decided_shows : (b : Seen) (ss : List Source) (fs : List (Linear ℕ)) (left c : ℕ) → left ≤ 1000000 → AreSources b ss fs →
    exact fs left ≡ Done c None → AreDecided b ss c × (c ≤ left)
decided_shows b ss fs left c few from told =
    let less = count_is_within fs left c None told in
    let same : c ≤ c = omega arith in
    (record { forms = fs; from = from; decided = limit_does_not_matter fs left c c None told same; few = omega arith }, less)
