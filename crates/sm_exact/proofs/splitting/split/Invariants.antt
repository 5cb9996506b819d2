-- The forms so far are split.
use Rattle.sm_exact.specs.Rows.{Splits}
use Rattle.sm_exact.proofs.splitting.split.Given as goal

abbrev pub invariant-loop-f : goal.invariant-loop-f
invariant-loop-f l = Splits l.t l.yielded l.out
