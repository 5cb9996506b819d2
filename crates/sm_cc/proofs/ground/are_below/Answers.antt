-- Each of them is.
use Rattle.sm_cc.proofs.Imports.{arith, slice_get_within}
use Rattle.sm_cc.proofs.GroundLemmas.{all_below}
use Rattle.sm_cc.proofs.ground.are_below.Goals as goal

pub returns : goal.returns
returns c = λ t.
    let places = c.args.places.now in
    all_below c.args.bound places
    (λ i n e.
    let within = slice_get_within places i n e in
    c.loop-p.invariant i n (omega (arith, within, c.loop-p-test.false, c.loop-p.auto.p-index-end)) e)
