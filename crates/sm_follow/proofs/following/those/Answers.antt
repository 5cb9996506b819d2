-- Kind by kind.
use Rattle.sm_follow.proofs.Imports.{◌+◌, [], take, sym, subst, none, AreThose}
use Rattle.sm_syntax.specs.declared.symbol.Mark.TheVariants.{Var}
use Rattle.sm_follow.specs.declared.kinds.Kind.TheVariants.{Mark}
use Rattle.sm_follow.proofs.Lines.{those_all, those_more}
use Rattle.sm_follow.proofs.following.those.Goals as goal

pub loop-kind-init : goal.loop-kind-init
loop-kind-init c = subst (AreThose c.args.text.now []) (sym c.new-shown.ensures.items) none

pub loop-kind-preserved : goal.loop-kind-preserved
loop-kind-preserved c =
    let more = c.in_ok-put_one.ensures in
    subst (AreThose c.args.text.now (take (c.loop-kind.kind-index + 1) c.args.kinds.now)) (sym more.2)
    (those_more c.args.text.now c.args.kinds.now c.loop-kind.kind-index (Mark Var) c.loop-kind.shown.items more.0 c.loop-kind-test.true
    c.loop-kind.invariant more.1)

pub returns : goal.returns
returns c =
    those_all c.args.text.now c.args.kinds.now c.loop-kind.kind-index c.loop-kind.shown.items c.loop-kind-test.false c.loop-kind.invariant
