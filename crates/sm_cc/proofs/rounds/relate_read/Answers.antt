use Rattle.sm_cc.proofs.Imports.{on_ok_weaker, Tries, IsSettledThere}
use Rattle.sm_cc.proofs.RoundsLemmas.{tries_both}
use Rattle.sm_cc.proofs.rounds.relate_read.Goals as goal

pub returns : goal.returns
returns c =
    let e = c.args.e in
    let mid = c.relate_there.new.c in
    let new = c.relate_there-2.new.c in
    on_ok_weaker c.relate_there-2.result
    (λ (h : Tries (IsSettledThere c.args.i e.before) mid new).
    tries_both (IsSettledThere c.args.i e.written) (IsSettledThere c.args.i e.before) c.args.c.now mid new c.in_ok-relate_there.ensures h)
    c.relate_there-2.ensures
