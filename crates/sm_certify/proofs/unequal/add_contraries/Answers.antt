-- Each turn tells of one more formula.
use Rattle.sm_certify.proofs.Imports.{given_from, ◌++◌}
use Rattle.sm_certify.proofs.ContrariesLemmas.{sides_of, none_step, sides_step}
use Rattle.sm_certify.proofs.unequal.add_contraries.Goals as goal

pub loop-f-preserved : goal.loop-f-preserved
loop-f-preserved c =
    let fs = c.args.facts.now in
    let i = c.loop-f.f-index in
    let f = c.f-item.result in
    let one = c.in_ok-add_contrary.ensures in
    let holds = c.if-not-branch.false in
    let now = c.loop-f.pairs.items in
    let next = c.add_contrary.new.pairs.items in
    let all = c.args.pairs.now.items ++ sides_of (given_from 0 fs) in
    record {
      none = none_step fs i f c.in_ok-add_contrary.field-0 c.loop-f-test.true c.f-item.is holds one.none c.loop-f.invariant.none;
      pairs = sides_step now next all fs i f c.loop-f-test.true c.f-item.is (one.pairs holds) c.loop-f.invariant.pairs;
    }
