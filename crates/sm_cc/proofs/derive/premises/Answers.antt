use Rattle.sm_cc.proofs.Imports.{length, ap, arith, are_together, arguments_at}
use Rattle.sm_cc.proofs.CausesLemmas.{equal_places-length}
use Rattle.sm_cc.proofs.ClosuresLemmas.{row_at, arguments_of, arguments_same, argument_together, premise_more, premises_all}
use Rattle.sm_cc.proofs.derive.premises.Goals as goal

pub premise-requires-clause-second : goal.premise-requires-clause-second
premise-requires-clause-second c =
    let old = c.args.c.now in
    let row = c.index.result.now in
    let same = equal_places-length (are_together old.roots.items) (arguments_at old c.args.i) (arguments_at old c.args.j)
    c.requires.arguments in
    let first = ap length (arguments_of old c.args.i row (row_at old c.args.i row c.requires.there.0 c.index.ensures)) in
    let now = ap length (arguments_same old c.loop-k.c c.args.j c.loop-k.invariant.grows) in
    omega (arith, same, first, now, c.loop-k-test.true, c.len-k-end.ensures)

pub premise-requires-clause-together : goal.premise-requires-clause-together
premise-requires-clause-together c =
    let old = c.args.c.now in
    let row = c.index.result.now in
    let first = ap length (arguments_of old c.args.i row (row_at old c.args.i row c.requires.there.0 c.index.ensures)) in
    argument_together old c.loop-k.c c.args.i c.args.j c.loop-k.k c.loop-k.invariant.grows c.loop-k.invariant.roots c.requires.arguments
    (omega (arith, first, c.loop-k-test.true, c.len-k-end.ensures))

pub loop-k-preserved : goal.loop-k-preserved
loop-k-preserved c =
    let old = c.args.c.now in
    let row = c.index.result.now in
    let same = equal_places-length (are_together old.roots.items) (arguments_at old c.args.i) (arguments_at old c.args.j)
    c.requires.arguments in
    let first = ap length (arguments_of old c.args.i row (row_at old c.args.i row c.requires.there.0 c.index.ensures)) in
    premise_more old c.loop-k.c c.premise.new.c c.loop-k.numbers.items c.push.new.self.items c.in_ok-n.n c.loop-k.k c.args.i c.args.j
    c.loop-k.invariant c.in_ok-n.ensures (omega (arith, first, c.loop-k-test.true, c.len-k-end.ensures))
    (omega (arith, same, first, c.loop-k-test.true, c.len-k-end.ensures)) c.in_ok-push.ensures.items

pub returns : goal.returns
returns c =
    let old = c.args.c.now in
    let row = c.index.result.now in
    let same = equal_places-length (are_together old.roots.items) (arguments_at old c.args.i) (arguments_at old c.args.j)
    c.requires.arguments in
    let first = ap length (arguments_of old c.args.i row (row_at old c.args.i row c.requires.there.0 c.index.ensures)) in
    premises_all old c.loop-k.c c.loop-k.numbers.items (arguments_at old c.args.i) (arguments_at old c.args.j) c.loop-k.k c.loop-k.invariant
    (omega (arith, first, c.loop-k-test.false, c.len-k-end.ensures)) (omega (arith, same, first, c.loop-k-test.false, c.len-k-end.ensures))
