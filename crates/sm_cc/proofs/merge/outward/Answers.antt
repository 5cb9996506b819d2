use Rattle.std.proofs.Common.{◌∙◌}
use Rattle.sm_cc.proofs.ClosuresLemmas.{root_in}
use Rattle.sm_cc.proofs.merge.outward.Goals as goal

pub chained-requires-clause-shared : goal.chained-requires-clause-shared
chained-requires-clause-shared c =
    c.in_ok-back.ensures.right ∙
    root_in c.args.c.now c.args.e.left c.index-root.result.now c.requires.sound c.requires.there.0 c.index-root.ensures
