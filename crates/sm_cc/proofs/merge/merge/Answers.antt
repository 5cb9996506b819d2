use Rattle.sm_cc.proofs.Imports.{on_ok_weaker, MovesRoots}
use Rattle.sm_cc.proofs.MergesLemmas.{merged_together, merged_coarser}
use Rattle.sm_cc.proofs.merge.merge.Goals as goal

pub returns-clause-together : goal.returns-clause-together
returns-clause-together c =
    on_ok_weaker c.move_roots.result
    (λ (h : MovesRoots c.crossing.new.c c.move_roots.new.c c.in_ok-b.b).
    merged_together c.args.c.now c.crossing.new.c c.move_roots.new.c c.in_ok-b.b c.args.e c.requires.sound c.requires.there.0
    c.requires.there.1 c.in_ok-b.ensures h) c.move_roots.ensures

pub returns-clause-coarser : goal.returns-clause-coarser
returns-clause-coarser c =
    on_ok_weaker c.move_roots.result
    (λ (h : MovesRoots c.crossing.new.c c.move_roots.new.c c.in_ok-b.b).
    merged_coarser c.args.c.now c.crossing.new.c c.move_roots.new.c c.in_ok-b.b c.in_ok-b.ensures.roots h) c.move_roots.ensures
