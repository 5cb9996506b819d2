-- Which verdicts are on four ends, and one trial more.
use Rattle.sm_why.proofs.Imports.{◌≡◌, ◌≤◌, ◌+◌, ℕ, suc, Bool, true, false, if◌then◌else◌, Some, None, Result, Ok, Err, IfOk, inl, inr, refl, sym, subst, ◌∙◌, arith, ◌↔◌, IsTrue, Task, copy_of, program_of, Store, EndsFrom}
use Rattle.std.specs.declared.alloc.AllocError.{AllocError}
use Rattle.sm_eval.specs.declared.error.EvalError.{EvalError}
use Rattle.sm_eval.specs.declared.error.EvalError.TheVariants as eval
use Rattle.sm_replay.specs.declared.verdict.Verdict.{Verdict}
use Rattle.sm_replay.specs.declared.verdict.Verdict.TheVariants.{Holds, Unmet, Violates}
use Rattle.sm_replay.specs.Verdicts.{Judges, Stops}
use Rattle.sm_replay.specs.declared.error.ReplayError.{ReplayError}
use Rattle.sm_replay.specs.declared.error.ReplayError.TheVariants.{OutOfTurns, Beyond, BeyondAssumed, Memory}
use Rattle.sm_why.specs.Ended.{IsEnded}
use Rattle.sm_why.specs.Trials.{AreCounted}

-- a store with a verdict on four ends
ended_so : (t : Task) (s : Store) (n : ℕ) (ends : Bool) → ends ≡ true → EndsFrom t s n → IsTrue ends ↔ EndsFrom t s n
ended_so t s n ends is from = (λ (yes : ends ≡ true). from, λ (h : EndsFrom t s n). is)

-- a store without one
stopped_so : (t : Task) (s : Store) (n : ℕ) (ends : Bool) → ends ≡ false → (¬ EndsFrom t s n) → IsTrue ends ↔ EndsFrom t s n
stopped_so t s n ends is not_from =
    (λ (yes : ends ≡ true). absurd (let both : true ≡ false = sym yes ∙ is in cc), λ (h : EndsFrom t s n). absurd (not_from h))

-- a copy with an event has no end
stops_nowhere : (t : Task) (s : Store) (n copy : ℕ) (e : EvalError) → Stops (program_of t) s n copy e → ¬ EndsFrom t s n
stops_nowhere t s n copy e st from = let both : None ≡ Some e = sym (from.ends.no_event (copy_of copy)) ∙ st.stops in cc

pub ended_is : (t : Task) (s : Store) (n : ℕ) (v : Result Verdict ReplayError) (ends : Bool) → Judges t s n v → IsEnded v ends
    → IsTrue ends ↔ EndsFrom t s n
ended_is t s n (Ok Holds) ends j is = ended_so t s n ends is (record { met = j.met; end = j.end; ends = j.ends })
ended_is t s n (Ok (Violates x i clause)) ends j is = ended_so t s n ends is (record { met = j.met; end = j.end; ends = j.ends })
ended_is t s n (Ok Unmet) ends j is = stopped_so t s n ends is (λ (from : EndsFrom t s n). j.fails from.met.meets)
ended_is t s n (Err (OutOfTurns copy)) ends j is = stopped_so t s n ends is (stops_nowhere t s n copy eval.OutOfTurns j.1)
ended_is t s n (Err (Beyond copy op a b)) ends j is = stopped_so t s n ends is (stops_nowhere t s n copy (eval.Beyond op a b) j.1)
ended_is t s n (Err (BeyondAssumed op a b)) ends j is =
    stopped_so t s n ends is (λ (from : EndsFrom t s n). let both : None ≡ Some (eval.Beyond op a b) = sym from.met.no_event ∙ j in cc)
ended_is t s n (Err Memory) ends j is = absurd is

-- an answer on a store with a verdict, where there is one
pub ended_ok : (t : Task) (s : Store) (n : ℕ) (v : Result Verdict ReplayError) (r : Result Bool AllocError) → Judges t s n v
    → IfOk r (IsEnded v) → IfOk r (λ ends. IsTrue ends ↔ EndsFrom t s n)
ended_ok t s n v (Ok ends) j is = ended_is t s n v ends j is
ended_ok t s n v (Err e) j is = is

-- what a trial counts
pub one_at_most : (more : ℕ) (holds : Bool) → more ≡ (if holds then 1 else 0) → more ≤ 1
one_at_most more true is = omega (arith, is)
one_at_most more false is = omega (arith, is)

-- no number
pub none_counted : (P : ℕ → Type 0) → AreCounted P 0 0
unfolding AreCounted
none_counted P = refl

-- one number more
pub one_more : (P : ℕ → Type 0) (n count more : ℕ) (holds : Bool) → AreCounted P n count → IsTrue holds ↔ P n
    → more ≡ (if holds then 1 else 0) → AreCounted P (suc n) (count + more)
unfolding AreCounted
one_more P n count more true before exact is =
    let next : count + more ≡ suc count = omega (arith, is) in
    inl (exact.0 refl, (count, next, before))
one_more P n count more false before exact is =
    let same : count ≡ count + more = omega (arith, is) in
    inr (λ (h : P n). let both : false ≡ true = exact.1 h in cc, subst (AreCounted P n) same before)
