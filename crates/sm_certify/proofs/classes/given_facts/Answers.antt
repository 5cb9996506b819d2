-- Each turn gives one more formula.
use Rattle.std.proofs.Common.{◌+◌, ap}
use Rattle.sm_certify.proofs.GivenLemmas.{given_step, given_whole}
use Rattle.sm_certify.proofs.classes.given_facts.Goals as goal

pub loop-f-preserved : goal.loop-f-preserved
loop-f-preserved c = record {
  count = ap (λ n. n + 1) c.loop-f.invariant.count;
  rest = given_step c.loop-f.given.items c.give.new.given.items c.args.facts.now c.loop-f.n c.loop-f.f-index c.f-item.result
      c.loop-f-test.true c.f-item.is c.in_ok-give.ensures c.loop-f.invariant.rest;
}

pub returns : goal.returns
returns c =
    given_whole c.loop-f.given.items c.args.facts.now c.loop-f.n c.loop-f.f-index c.loop-f.invariant.rest c.loop-f-test.false
