-- The rule for a variable that is bounded from both sides gives right answers.
use Rattle.sm_omega.proofs.Imports.{◌≡◌, ℕ, ℤ, Some, None, List, ◌∷◌, ◌++◌, refl, Linear, Outcome, Fits, Leaves, Done, Passed, Outside, Shallow, Item, with_result, Values, lower_bounds, upper_bounds, others, put, Answer, solved, giving, or_else, shadows, standing, greatest_at, greatest_bound, by_all_splinters, by_bounds, AllHold}
use Rattle.sm_omega.proofs.Predicates.{Fitting, EachOf, ItemsHold, Decides}
use Rattle.sm_omega.proofs.Bounds.{NoEquations}
use Rattle.sm_omega.proofs.Shadows.{dark_back}
use Rattle.sm_omega.proofs.Splinters.{IsFar, far_is_dark, Comes, IsRightOf, all_splinters_right}

-- what enters for the dark shadows
abbrev pub dark_items : ℕ → List (Linear ℕ) → List (Linear ℕ) → List (Linear ℕ) → List Item
dark_items t fs ls us = standing (others t fs) ++ shadows t ls us

-- an answer that is a solution came of items that all fit
abbrev pub SolvesFitting : List Item → Answer → Type 0
SolvesFitting items answer = (c : ℕ) (v : Values) → answer ≡ Done c (Some v) → EachOf Fitting items

-- by the dark shadows and the splinters
pub by_both_right : (limit : ℕ) (solve : List (Linear ℕ) → ℕ → Answer) (fs : List (Linear ℕ)) (t c : ℕ) (l : Linear ℕ)
    (ls : List (Linear ℕ)) (u : Linear ℕ) (us : List (Linear ℕ)) → NoEquations fs → lower_bounds t fs ≡ l ∷ ls →
    upper_bounds t fs ≡ u ∷ us →
    Decides (λ (v : Values). ItemsHold v (dark_items t fs (l ∷ ls) (u ∷ us))) (solved limit solve (dark_items t fs (l ∷ ls) (u ∷ us)) c) →
    SolvesFitting (dark_items t fs (l ∷ ls) (u ∷ us)) (solved limit solve (dark_items t fs (l ∷ ls) (u ∷ us)) c) →
    EachOf (IsRightOf limit solve fs) (l ∷ ls) →
    Decides (λ (v : Values). AllHold v fs) (by_bounds limit solve fs c t (l ∷ ls) (u ∷ us))
by_both_right limit solve fs t c l ls u us les lower upper right fitting each =
    by (solved limit solve (dark_items t fs (l ∷ ls) (u ∷ us)) c) right fitting
  where
    refuted : ((v : Values) → ItemsHold v (dark_items t fs (l ∷ ls) (u ∷ us)) → ⊥) → (answer : Answer) →
        Comes (λ (v : Values). AllHold v fs) ((v : Values) → AllHold v fs → EachOf (IsFar t (greatest_at t (u ∷ us)) v) (l ∷ ls)) answer →
        Decides (λ (v : Values). AllHold v fs) answer
    refuted none (Done d None) comes = λ v all. none v (far_is_dark t fs v (l ∷ ls) (u ∷ us) les lower upper all (comes v all))
    refuted none (Done d (Some v)) comes = comes
    refuted none Passed comes = tt
    refuted none (Outside op y z) comes = tt
    refuted none Shallow comes = tt

    given : (d : ℕ) (v : Values) → ItemsHold v (dark_items t fs (l ∷ ls) (u ∷ us)) → EachOf Fitting (dark_items t fs (l ∷ ls) (u ∷ us)) →
        (value : Outcome ℤ) → greatest_bound t (l ∷ ls) v ≡ value →
        Decides (λ (w : Values). AllHold w fs)
        (or_else (with_result value (λ (z : ℤ). Done d (Some (put t z v))))
        (by_all_splinters limit solve fs t (greatest_at t (u ∷ us)) (l ∷ ls)))
    given d v holds fits (Fits z) e = dark_back t fs v z l ls (u ∷ us) les lower upper fits holds e
    given d v holds fits (Leaves op y z) e = tt

    by : (answer : Answer) → Decides (λ (v : Values). ItemsHold v (dark_items t fs (l ∷ ls) (u ∷ us))) answer →
        SolvesFitting (dark_items t fs (l ∷ ls) (u ∷ us)) answer →
        Decides (λ (v : Values). AllHold v fs)
        (or_else (giving t (greatest_bound t (l ∷ ls)) answer)
        (by_all_splinters limit solve fs t (greatest_at t (u ∷ us)) (l ∷ ls)))
    by (Done d None) dark fits =
        refuted dark (by_all_splinters limit solve fs t (greatest_at t (u ∷ us)) (l ∷ ls) d)
        (all_splinters_right limit solve fs t (greatest_at t (u ∷ us)) (l ∷ ls) each d)
    by (Done d (Some v)) dark fits = given d v dark (fits d v refl) (greatest_bound t (l ∷ ls) v) refl
    by Passed dark fits = tt
    by (Outside op y z) dark fits = tt
    by Shallow dark fits = tt
