use Rattle.sm_cc.proofs.Imports.{◌≡◌, length, sym, arith, are_together}
use Rattle.sm_cc.proofs.CausesLemmas.{equal_places-other}
use Rattle.sm_cc.proofs.compare.are_equal.Goals as goal

pub returns-then-first-second : goal.returns-then-first-second
returns-then-first-second c =
    sym (equal_places-other (are_together c.args.c.now.roots.items) c.args.first.now c.args.second.now
    (λ (h : length c.args.first.now ≡ length c.args.second.now). omega (arith, h, c.if-first-second.true)))
