use Rattle.sm_cc.proofs.Imports.{subst, sym, arith, ArePlacesClosed, board_of, are_together}
use Rattle.sm_cc.specs.Closures.{Closure}
use Rattle.sm_cc.proofs.RoundsLemmas.{closed_from}
use Rattle.sm_cc.proofs.RegroundingLemmas.{over_grown}
use Rattle.sm_cc.proofs.regrounding.settle_over.Goals as goal

pub round_over-requires-clause-over : goal.round_over-requires-clause-over
round_over-requires-clause-over c =
    over_grown c.args.ground.now c.args.c.now c.loop-c.c
    (record { kept = c.requires.kept; keyed = c.requires.keyed; inside = c.requires.inside }) c.loop-c.invariant

pub returns-then-len-count-clause-closed : goal.returns-then-len-count-clause-closed
returns-then-len-count-clause-closed c =
    let old = c.loop-c.c in
    let new = c.round_over.new.c in
    let quiet = c.in_ok-round_over.ensures.quiet (omega (arith, c.if-len-count.true, c.len.ensures, c.len-count.ensures)) in
    subst (λ (x : Closure). ArePlacesClosed (board_of x) (are_together x.roots.items)) (sym quiet.0)
    (closed_from old c.loop-c.invariant.sound quiet.1)
