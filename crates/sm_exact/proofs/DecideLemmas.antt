-- The decision as a whole: how it begins, and how it ends.
use Rattle.sm_exact.proofs.Imports.{◌≡◌, ◌++◌, ℕ, Option, Some, None, List, [], ◌∷◌, map, refl, sym, ap, subst, ◌∙◌, Ok, Err, Linear, Decision, Done, Passed, Outside, Shallow, Enter, Entered, entered, go_on, Answer, or_refuted, enough, above_all, solved_within, ExactAnswer, Turned, Entry, shown, answer_of, all_zero, Awaits, Stands, Frame, TellsExact, Turns}
use Rattle.std.proofs.Common.{Result}
use Rattle.std.specs.Result.{IfOk}
use Rattle.sm_omega.specs.Exact.{exact}
use Rattle.sm_exact.specs.declared.deciding.Turned.TheVariants as turned
use Rattle.sm_exact.proofs.StackLemmas.{awaits_along}

-- nothing waits for the given forms
pub begins : (fs : List (Linear ℕ)) (limit s : ℕ) (e : Entry) (frames : List Frame) → frames ≡ [] → s ≡ above_all fs →
    entered limit (map Enter fs) 0 ≡ shown e → Stands limit frames s e (exact fs limit)
unfolding exact
begins fs limit s e frames none above enters = (
  enough limit fs,
  awaits_along limit [] frames (answer_of limit (enough limit fs) s e) (exact fs limit) none
      (ap (λ (x : Entered). go_on x (or_refuted (solved_within limit (enough limit fs) (above_all fs)))) enters
      ∙ ap (λ n. answer_of limit (enough limit fs) n e) (sym above)),
)

-- the next list
pub turns_next : (limit : ℕ) (fs : List Frame) (whole : Answer) (r : Turned) (s : ℕ) (e : Entry) → r ≡ turned.Next s e →
    Turns limit fs whole r → Stands limit fs s e whole
turns_next limit fs whole r s e is turns = subst (Turns limit fs whole) is turns

-- a solution
pub turns_solved : {E : Type 0} (limit : ℕ) (fs : List Frame) (whole : Answer) (r : Turned) (given : List (Linear ℕ))
    (result : Result ExactAnswer E) → r ≡ turned.Solved → Turns limit fs whole r →
    IfOk result (λ answer. (limit c : ℕ) (whole : Answer) → Awaits limit fs (Done c (Some all_zero)) whole → TellsExact given whole answer)
    →
    IfOk result (TellsExact given whole)
turns_solved limit fs whole r given (Ok answer) is turns tells = by_solved (subst (Turns limit fs whole) is turns)
  where
    by_solved : (c : ℕ) × Awaits limit fs (Done c (Some all_zero)) whole → TellsExact given whole answer
    by_solved solved = tells limit solved.0 whole solved.1
turns_solved limit fs whole r given (Err x) is turns tells = tt

-- the answer
pub turns_ends : (limit : ℕ) (fs : List Frame) (whole : Answer) (r : Turned) (given : List (Linear ℕ)) (answer : ExactAnswer) →
    r ≡ turned.Ends answer → Turns limit fs whole r → TellsExact given whole answer
turns_ends limit fs whole r given answer is turns = by_ends (subst (Turns limit fs whole) is turns)
  where
    by_ends : ((given : List (Linear ℕ)) → TellsExact given whole answer) → TellsExact given whole answer
    by_ends ends = ends given
