-- At first none was looked at.
use Rattle.std.proofs.Common.{arith}
use Rattle.sm_cc.proofs.behind.look.Goals as goal

pub loop-k-init : goal.loop-k-init
loop-k-init c =
    let count = c.in_ok-s.ensures.count in
    record { looked = c.in_ok-s.ensures.looked c.args.more.now; place = omega (arith, count) }
