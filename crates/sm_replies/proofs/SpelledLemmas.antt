-- What holds of a task that some text spells.
use Rattle.sm_replies.proofs.Imports.{◌≡◌, ℕ, List, None, subst, IsOutcome, outcome_in, AreNamed, IsLeast, Verdict, Parts, sort_of, task_of, HasText, SaysNoted, Status}
use Rattle.sm_check.proofs.SpelledCheckable.{spelled_checkable}
use Rattle.sm_houdini.proofs.OutcomeLemmas.{conflict_least, outcomes_same}
use Rattle.sm_houdini.specs.Laws.{OutcomeIsOne}
use Rattle.sm_houdini.specs.Outcomes as outcome
use Rattle.sm_houdini.specs.declared.outcome.Outcome.{Outcome}
use Rattle.sm_plan.specs.SortedStates.{IsTaskSorted}
use Rattle.sm_plan.specs.Starts.{AreNumbered}
use Rattle.sm_replay.proofs.NamesFound.{spelled_found}
use Rattle.sm_replay.proofs.RunnableTasks.{spelled_runs}
use Rattle.sm_replay.proofs.VerdictUnique.{first_violation_one}
use Rattle.sm_replay.specs.Sorted.{sort_fault}
use Rattle.sm_solve.specs.declared.reach.Reach.{Reach}
use Rattle.sm_syntax.specs.text.Conditions.{first_refusal}

-- it runs, meets the conditions, and its proofs may be checked
pub record IsSpelled (t : Parts) : Type 0 where
  pub runs : sort_fault t ≡ None
  pub valid : first_refusal t ≡ None
  pub named : AreNamed t.names (sort_of t.declared)
  pub sorted : IsTaskSorted (sort_of t.declared) (task_of t)
  pub numbered : AreNumbered t.declared

pub is_spelled : (t : Parts) → HasText t → IsSpelled t
is_spelled t has =
    let checkable = spelled_checkable has.0 t has.1 in
    record {
      runs = spelled_runs has.0 t has.1;
      valid = has.1.valid;
      named = spelled_found has.0 t has.1;
      sorted = checkable.sorted;
      numbered = checkable.numbered;
    }

-- a search comes to one outcome
pub outcome_one : OutcomeIsOne
outcome_one = outcomes_same first_violation_one

-- a conflict that a search comes to is that of the least trial that violates, for some turns
pub least_trial : (t : Parts) (reach : Reach) (turns number : ℕ) (v : Verdict) → IsOutcome t reach turns (outcome.Conflict (number, v))
    → (n : ℕ) × IsLeast (task_of t) (sort_of t.declared) n number v
least_trial t reach turns number v is = (turns, conflict_least t reach turns (number, v) is)

-- what the search of the program comes to, where it is known
pub outcome_so : (t : Parts) (reach : Reach) (turns : ℕ) (o p : Outcome) → o ≡ p → IsOutcome t reach turns (outcome_in o)
    → IsOutcome t reach turns (outcome_in p)
outcome_so t reach turns o p same is = subst (λ (q : Outcome). IsOutcome t reach turns (outcome_in q)) same is

-- a line that is the one that is to be printed
pub noted_by : (t : Parts) (wanted status : Status) (line same text : List ℕ) → same ≡ line → SaysNoted t wanted same status text
    → SaysNoted t wanted line status text
noted_by t wanted status line same text e says = subst (λ (l : List ℕ). SaysNoted t wanted l status text) e says
