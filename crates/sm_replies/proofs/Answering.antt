-- What answers say: where Usage is one, and what Accepted promises.
use Rattle.sm_replies.proofs.Imports.{◌≡◌, ℕ, List, refl, Verdict, ConflictFree, Parts, task_of, SaysOutcome, Status, Accepted}
use Rattle.sm_houdini.specs.Outcomes as outcome
use Rattle.sm_houdini.specs.Outcomes.{Outcome}
use Rattle.sm_replay.specs.declared.verdict.Verdict.TheVariants as verdict

-- only what a search accepts is accepted, and is free of conflicts
pub outcome_accepted : (t : Parts) (o : Outcome (ℕ × Verdict)) (status : Status) (text : List ℕ) → SaysOutcome t o status text
    → status ≡ Accepted → (o ≡ outcome.Accepted) × ConflictFree (task_of t)
outcome_accepted t outcome.Accepted status text h e = (refl, h.0)
outcome_accepted t (outcome.Conflict (j, verdict.Holds)) status text h e = absurd h
outcome_accepted t (outcome.Conflict (j, verdict.Unmet)) status text h e = absurd h
outcome_accepted t (outcome.Conflict (j, verdict.Violates x i clause)) status text h e = let is = h.2.ended in cc
outcome_accepted t (outcome.Open node goal) status text h e = let is = h.2.ended in cc
outcome_accepted t (outcome.Steps node goal) status text h e = let is = h.2.ended in cc
outcome_accepted t (outcome.Coefficient node goal op y z) status text h e = let is = h.2.ended in cc
outcome_accepted t outcome.TooMany status text h e = let is = h.2.ended in cc
