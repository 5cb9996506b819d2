-- The numbers so far are there.
use Rattle.sm_check.proofs.Imports.{◌≡◌, drop, are_there}
use Rattle.sm_check.proofs.names.are_there.Given as goal

abbrev pub invariant-loop-n : goal.invariant-loop-n
invariant-loop-n l = are_there l.count l.numbers ≡ are_there l.count (drop l.n-index l.numbers)
