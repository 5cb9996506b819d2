use Rattle.sm_task.proofs.Imports.{◌≡◌, ℕ, nat_eq, take, is_in}
use Rattle.std.specs.HashSet.{contains}
use Rattle.sm_task.proofs.holes.set_of.Given as goal

abbrev pub invariant-loop-x : goal.invariant-loop-x
invariant-loop-x l = (q : ℕ) → contains nat_eq l.set q ≡ is_in (take l.x-index l.numbers) q
