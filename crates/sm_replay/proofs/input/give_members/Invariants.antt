-- A name has its value, or else 0 and is declared in what is left.
use Rattle.sm_replay.proofs.Imports.{◌≡◌, ℕ, drop, view, sort_of, declared_of, meaning, sorts_of, zero_of, store_of}
use Rattle.sm_replay.proofs.UpdatesSound.{Filling, numbered}
use Rattle.sm_replay.proofs.input.give_members.Given as goal

abbrev pub invariant-loop-d : goal.invariant-loop-d
invariant-loop-d l = record {
  filling : Filling (sort_of (declared_of l.decls)) (λ (x : ℕ). zero_of (sort_of (declared_of l.decls) x))
      (store_of l.names (sort_of (declared_of l.decls)) (view l.input)) (numbered (drop l.d-index l.d-items)) (meaning l.s);
  sorts : sorts_of l.s ≡ sort_of (declared_of l.decls);
}
