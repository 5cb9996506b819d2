-- The forms so far are the same.
use Rattle.std.proofs.Common.{◌≡◌, take}
use Rattle.sm_exact.proofs.splitting.copy_all.Given as goal

abbrev pub invariant-loop-f : goal.invariant-loop-f
invariant-loop-f l = l.out.items ≡ take l.f-index l.forms
