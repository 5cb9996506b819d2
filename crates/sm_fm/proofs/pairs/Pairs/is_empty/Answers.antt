use Rattle.std.proofs.Common.{arith}
use Rattle.sm_fm.proofs.CrossedLemmas.{empty_told}
use Rattle.sm_fm.proofs.pairs.Pairs.is_empty.Goals as goal

pub returns : goal.returns
returns c =
    let p = c.self.inside in
    empty_told p.firsts.items p.seconds.items p.first p.second c.len.result c.args.self.now (omega arith) c.self.invariant.0
    c.self.invariant.1
    c.self.view_is
