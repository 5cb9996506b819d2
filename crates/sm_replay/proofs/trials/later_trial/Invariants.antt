-- A name has its value, or else 0 and is declared in what is left.
use Rattle.sm_replay.proofs.Imports.{◌≡◌, ℕ, drop, sort_of, declared_of, meaning, sorts_of, zero_of, value_in_trial}
use Rattle.sm_replay.proofs.UpdatesSound.{Filling, numbered}
use Rattle.sm_replay.proofs.trials.later_trial.Given as goal

abbrev pub invariant-loop-d : goal.invariant-loop-d
invariant-loop-d l = record {
  filling : Filling (sort_of (declared_of l.task.shared.decls)) (λ (x : ℕ). zero_of (sort_of (declared_of l.task.shared.decls) x))
      (λ (x : ℕ). value_in_trial l.j x (sort_of (declared_of l.task.shared.decls) x)) (numbered (drop l.d-index l.d-items)) (meaning l.s);
  sorts : sorts_of l.s ≡ sort_of (declared_of l.task.shared.decls);
}
