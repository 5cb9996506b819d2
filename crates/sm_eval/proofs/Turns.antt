-- Events and ends of code in its parts.
use Rattle.sm_eval.proofs.Imports.{◌≡◌, ◌-◌, ℕ, zero, suc, Bool, true, Option, Some, None, Ok, refl, ap, arith, truth_of, turns, Condition, condition_event, turns_event, answer, EvalError}
use Rattle.sm_syntax.specs.claim.Stores.{Store}

-- an answer that is Ok has no event
pub answered : {T : Type 0} (o : Option EvalError) (v w : T) → Ok v ≡ answer o w → (o ≡ None) × (v ≡ w)
answered None v w same = (refl, cc)
answered (Some e) v w same = cc

-- one turn before the number less one
one_less : (m : ℕ) → m ≡ suc m - 1
one_less m = omega arith

-- what happens in a loop from a turn on is what happens after the turn, where nothing happens in it
pub turns_event-turn : (b : Condition) (happens : Store → Option EvalError) (body : Store → Option Store) (left : ℕ) (s t : Store)
    → (left ≡ 0 → ⊥) →
    condition_event b s ≡ None → truth_of b s ≡ true → happens s ≡ None → body s ≡ Some t →
    turns_event b happens body left s ≡ turns_event b happens body (left - 1) t
turns_event-turn b happens body zero s t some no_event holds inner end = absurd (some refl)
turns_event-turn b happens body (suc m) s t some no_event holds inner end =
    rw (no_event, holds, inner, end) (ap (λ (k : ℕ). turns_event b happens body k t) (one_less m))

-- a loop ends from a turn on as it ends after the turn
pub turns-turn : (guard : Store → Bool) (body : Store → Option Store) (left : ℕ) (s t : Store) → (left ≡ 0 → ⊥) →
    guard s ≡ true → body s ≡ Some t → turns guard body left s ≡ turns guard body (left - 1) t
turns-turn guard body zero s t some holds end = absurd (some refl)
turns-turn guard body (suc m) s t some holds end = rw (holds, end) (ap (λ (k : ℕ). turns guard body k t) (one_less m))
