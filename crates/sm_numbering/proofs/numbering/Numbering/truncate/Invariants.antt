-- The values but for so many last ones.
use Rattle.std.proofs.Common.{◌≡◌, ◌-◌, take}
use Rattle.sm_numbering.proofs.numbering.Numbering.truncate.Given as goal

abbrev pub invariant-loop : goal.invariant-loop
invariant-loop g l = l.self ≡ take (l.all - (l.counter - l.len)) l.fn.self
