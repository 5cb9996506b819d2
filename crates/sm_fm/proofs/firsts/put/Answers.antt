use Rattle.std.proofs.Common.{arith}
use Rattle.sm_fm.proofs.FirstLemmas.{put_listed}
use Rattle.sm_fm.proofs.firsts.put.Goals as goal

pub returns-in_ok-push : goal.returns-in_ok-push
returns-in_ok-push c =
    put_listed c.args.firsts.now.items c.args.atom c.args.place c.index_mut.result.now c.push.new.self (omega arith)
    c.index_mut.ensures.value c.in_ok-push.ensures.items
