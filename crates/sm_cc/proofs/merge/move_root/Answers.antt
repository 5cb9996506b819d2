use Rattle.std.proofs.Common.{◌∙◌}
use Rattle.sm_cc.proofs.ClosuresLemmas.{root_at}
use Rattle.sm_cc.proofs.merge.move_root.Goals as goal

pub set_root-requires-clause-left : goal.set_root-requires-clause-left
set_root-requires-clause-left c =
    c.in_ok-moved.ensures.left ∙
    root_at c.args.c.now c.args.k c.index-root.result.now c.requires.sound c.requires.there c.index-root.ensures
