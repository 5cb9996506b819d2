use Rattle.sm_cc.proofs.Imports.{IfOk-weaker, ◌∙◌, AddsEquation}
use Rattle.sm_cc.specs.Closures.{Equation}
use Rattle.sm_cc.proofs.ClosuresLemmas.{root_left, root_right, equation_on}
use Rattle.sm_cc.proofs.derive.join.Goals as goal

pub returns : goal.returns
returns c =
    let old = c.args.c.now in
    let first = c.index-first.result.now in
    let back = c.in_ok-back.back in
    let one = c.in_ok-back.ensures in
    IfOk-weaker c.chained.result (λ (e : Equation). AddsEquation c.turned.new.c c.chained.new.c e first.left back.right)
    (λ (e : Equation). AddsEquation old c.chained.new.c e c.args.i c.args.j)
    (λ (e : Equation) (two : AddsEquation c.turned.new.c c.chained.new.c e first.left back.right).
    equation_on old c.turned.new.c c.chained.new.c e first.left back.right c.args.i c.args.j one.adds.grows one.adds.roots two
    (root_left old c.args.i c.args.j first c.requires.sound c.requires.together c.index-first.ensures)
    (one.right ∙ root_right old c.args.i c.args.j c.index-second.result.now c.requires.sound c.requires.together c.index-second.ensures))
    c.chained.ensures
