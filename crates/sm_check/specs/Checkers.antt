-- Cited by public clauses: where the proof of a checker stands.
use Rattle.std.specs.Prelude.{◌≡◌, ◌⊎◌, ℕ, true, false, if◌then◌else◌, length, Some, None, Result, Ok, Err, List, [], ◌∷◌}
use Rattle.sm_syntax.specs.text.Sorts.{Sorts}
use Rattle.sm_term.specs.Tables.{sorts_in}
use Rattle.sm_proof.specs.Passing.{Pending, Due, Branch, start_progress}
use Rattle.sm_check.specs.Walks.{Walks}
use Rattle.sm_proof.specs.declared.word.Word.{Word}
use Rattle.sm_proof.specs.Verdicts.{Subject, Standing, Unopened, Underway, is_done, reads_exact}
use Rattle.sm_check.specs.declared.checker.Checker.{Checker}
use Rattle.sm_check.specs.declared.checker.State.{State}
use Rattle.sm_check.specs.declared.checker.State.TheVariants.{Done, More}
use Rattle.sm_check.specs.declared.fault.LineFault.{LineFault}
use Rattle.sm_check.specs.declared.fault.LineFault.TheVariants.{Wrong, Memory}

-- a checker knows a subject: the sorts of its names, and whether its task assumes something
pub record IsAbout (c : Checker) (s : Subject) : Type 0 where
  pub sorts : sorts_in c.walk.table ≡ s.sorts
  pub assumes : c.assumes ≡ s.assumes

-- the sorts of the names that a checker's terms are over
abbrev pub sorts_known : Checker → Sorts
sorts_known c = sorts_in c.walk.table

-- a checker that goes on stands where a proof does; before the version line that is at its start
abbrev pub StandsAt : Checker → Subject → Standing → Type 0
StandsAt c s Unopened = (c.opened ≡ false) × Walks c.walk (start_progress s.start)
StandsAt c s (Underway exact p) = (c.opened ≡ true) × Walks c.walk p

-- a checker's proof is about a subject and stands here, and it reads lines `exact` where they are
-- read here; or it stopped with this fault
unfoldable pub IsAt : Checker → Subject → Result Standing LineFault → Type 0
IsAt c s (Ok at) =
    (c.stopped ≡ None) × IsAbout c s × StandsAt c s at × (c.exact ≡ reads_exact at)
IsAt c s (Err e) = c.stopped ≡ Some e

-- whether a proof that stands here is done
abbrev pub state_of : Standing → State
state_of at = if is_done at then Done else More

-- the line was taken: the checker stands where the proof does, and tells whether it is done
abbrev pub GoesOn : Subject → Result Standing Word → Checker → State → Type 0
GoesOn s (Ok at) c state = IsAt c s (Ok at) × (state ≡ state_of at)
GoesOn s (Err w) c state = ⊥

-- the line was refused by this word, or memory was wanting
abbrev pub Stops : Subject → Result Standing Word → Checker → LineFault → Type 0
Stops s (Ok at) c e = (e ≡ Memory) × IsAt c s (Err Memory)
Stops s (Err w) c e = ((e ≡ Wrong w) × IsAt c s (Err (Wrong w))) ⊎ ((e ≡ Memory) × IsAt c s (Err Memory))

-- the branch that is due, if one is, has so many facts
abbrev pub HasFacts : List Pending → ℕ → Type 0
HasFacts [] n = Unit {0}
HasFacts (Due st above ∷ rest) n = Unit {0}
HasFacts (Branch stores facts splits ∷ rest) n = n ≡ length facts
