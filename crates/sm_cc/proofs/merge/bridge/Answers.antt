use Rattle.sm_cc.proofs.Imports.{IfOk-weaker, AddsEquation, Bridges, ◌∙◌, sym}
use Rattle.sm_cc.specs.Closures.{Equation}
use Rattle.sm_cc.proofs.MergesLemmas.{bridge_from, root_get}
use Rattle.sm_cc.proofs.ClosuresLemmas.{root_in}
use Rattle.sm_cc.proofs.merge.bridge.Goals as goal

pub chained-requires-clause-shared : goal.chained-requires-clause-shared
chained-requires-clause-shared c =
    c.in_ok-f.ensures.adds.right ∙
    sym (root_in c.args.c.now c.args.e.right c.index-root.result.now c.requires.sound c.requires.there.1 c.index-root.ensures)

pub returns : goal.returns
returns c =
    let old = c.args.c.now in
    let f = c.in_ok-f.f in
    let root = c.index-root.result.now in
    IfOk-weaker c.chained.result (λ (b : Equation). AddsEquation c.outward.new.c c.chained.new.c b f.left root.right)
    (λ (b : Equation). Bridges old c.chained.new.c b c.args.e)
    (λ (b : Equation) (h : AddsEquation c.outward.new.c c.chained.new.c b f.left root.right).
    bridge_from old c.outward.new.c c.chained.new.c f root b c.args.e c.in_ok-f.ensures h
    (root_get old c.args.e.right root c.requires.sound c.requires.there.1 c.index-root.ensures)) c.chained.ensures
