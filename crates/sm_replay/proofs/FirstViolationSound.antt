-- The first trial that violates, by the answers to all.
use Rattle.sm_replay.proofs.Imports.{◌≡◌, ◌<◌, ℕ, Option, Some, None, List, length, subst, zero-add, arith, slice_index_or, IfNone, IfSome, Task, Sorts, trial, trials, IsFirstViolation, Shows, IsFirstThere, Violates}
use Rattle.sm_par.specs.Results.{StandInOrder}
use Rattle.sm_replay.specs.Trials.{Verdict}

-- the answers to all trials
abbrev pub Answered : Task → Sorts → ℕ → List (Option Verdict) → Type 0
Answered t sorts n results = StandInOrder (λ (j : ℕ) (out : Option Verdict). Shows t (trial sorts j) n out) 0 trials results

-- the answers by which they stand under a premise
pub answered_where : (P : Type 0) (t : Task) (sorts : Sorts) (n : ℕ) (results : List (Option Verdict)) → P
    → StandInOrder (λ (j : ℕ) (out : Option Verdict). P → Shows t (trial sorts j) n out) 0 trials results → Answered t sorts n results
answered_where P t sorts n results holds all =
    record { all = all.all; each = λ (k : ℕ) (d : Option Verdict) (lt : k < trials). all.each k d lt holds }

-- the answer to one trial
answer_to : (t : Task) (sorts : Sorts) (n : ℕ) (results : List (Option Verdict)) → Answered t sorts n results → (j : ℕ) → j < trials
    → Shows t (trial sorts j) n (slice_index_or results j None)
answer_to t sorts n results all j inside =
    subst (λ (i : ℕ). Shows t (trial sorts i) n (slice_index_or results j None)) (zero-add j) (all.each j None inside)

-- an answer that isn't there
not_violated : (t : Task) (sorts : Sorts) (n : ℕ) (results : List (Option Verdict)) → Answered t sorts n results → (j : ℕ) → j < trials
    → slice_index_or results j None ≡ None → ¬ Violates t (trial sorts j) n
not_violated t sorts n results all j inside none = subst (Shows t (trial sorts j) n) none (answer_to t sorts n results all j inside)

-- the first answer that is there is that of the first trial that violates
pub first_violates : (t : Task) (sorts : Sorts) (n : ℕ) (results : List (Option Verdict)) → Answered t sorts n results
    → (found : Option (ℕ × Verdict))
    → IfNone found ((k : ℕ) → k < length results → slice_index_or results k None ≡ None)
    → IfSome found (λ (f : ℕ × Verdict). IsFirstThere results f.0 f.1)
    → IsFirstViolation t sorts n found
first_violates t sorts n results all None none some =
    λ (j : ℕ) (inside : j < trials). not_violated t sorts n results all j inside (none j (omega (arith, all.all)))
first_violates t sorts n results all (Some f) none some =
    let inside : f.0 < trials = omega (arith, all.all, some.inside) in
    let shown : Shows t (trial sorts f.0) n (Some f.1) =
    subst (Shows t (trial sorts f.0) n) some.there (answer_to t sorts n results all f.0 inside) in
    record {
      inside = inside;
      violates = shown.0;
      verdict = shown.1;
      no_violation_before = λ (i : ℕ) (lt : i < f.0). not_violated t sorts n results all i (omega arith) (some.none_before i lt);
    }
