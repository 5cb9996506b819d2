use Rattle.sm_cc.proofs.Imports.{subst, sym, arith, ArePlacesClosed, board_of, are_together}
use Rattle.sm_cc.specs.Closures.{Closure}
use Rattle.sm_cc.proofs.RoundsLemmas.{closed_from}
use Rattle.sm_cc.proofs.rounds.settle.Goals as goal

pub returns-then-len-count-clause-closed : goal.returns-then-len-count-clause-closed
returns-then-len-count-clause-closed c =
    let old = c.loop-c.c in
    let new = c.round.new.c in
    let quiet = c.in_ok-round.ensures.quiet (omega (arith, c.if-len-count.true, c.len.ensures, c.len-count.ensures)) in
    subst (λ (x : Closure). ArePlacesClosed (board_of x) (are_together x.roots.items)) (sym quiet.0)
    (closed_from old c.loop-c.invariant.sound quiet.1)
