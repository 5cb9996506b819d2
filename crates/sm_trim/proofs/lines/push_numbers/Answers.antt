use Rattle.std.proofs.Common.{◌∙◌, arith}
use Rattle.sm_trim.proofs.LinesLemmas.{pushed}
use Rattle.sm_trim.proofs.lines.push_numbers.Goals as goal

pub loop-n-preserved : goal.loop-n-preserved
loop-n-preserved c =
    let less = c.loop-n-test.true in
    let from = c.loop-n.invariant.from in
    record {
      from = omega arith;
      end = omega arith;
      items = c.in_ok-push.ensures.items
          ∙ pushed c.args.list.now.items c.loop-n.list.items c.args.from c.loop-n.n from c.loop-n.invariant.items;
    }
