-- There are as many as were passed.
use Rattle.std.proofs.Common.{◌≡◌, length}
use Rattle.sm_certify.proofs.marks.no_marks.Given as goal

abbrev pub invariant-loop : goal.invariant-loop
invariant-loop l = length l.marks.items ≡ l.counter
