-- Where it is over the limit, so is the whole.
use Rattle.sm_product.proofs.Imports.{◌≡◌, ◌+◌, ◌<◌, length, ap, arith, dues_in, goals_in}
use Rattle.sm_product.proofs.SizesLemmas.{goals_more, goals_front, over_limit}
use Rattle.sm_product.proofs.limits.are_few_goals.Goals as goal

pub returns-then-more-count : goal.returns-then-more-count
returns-then-more-count c = λ sorts trees.
    let ds = c.args.dues.now in
    let i = c.loop-due.due-index in
    let same : length c.as_slice.result.now ≡ length c.due-item.result.targets.list.items =
    ap (λ l. length l) c.as_slice.ensures.value in
    let more = goals_more sorts trees ds i c.due-item.result c.loop-due-test.true c.due-item.is in
    let part = goals_front sorts trees ds (i + 1) in
    let count = c.loop-due.invariant.count sorts trees in
    let over : 200000 < c.args.nodes + goals_in (dues_in sorts trees ds) =
    omega (arith, same, more, part, count, c.if-more-count.true, c.loop-due.invariant.few) in
    over_limit (c.args.nodes + goals_in (dues_in sorts trees ds)) 200000 over

pub loop-due-preserved : goal.loop-due-preserved
loop-due-preserved c = record {
  few = omega (arith, c.if-more-count.false, c.loop-due.invariant.few);
  count = λ sorts trees.
      let same : length c.as_slice.result.now ≡ length c.due-item.result.targets.list.items =
      ap (λ l. length l) c.as_slice.ensures.value in
      let more = goals_more sorts trees c.args.dues.now c.loop-due.due-index c.due-item.result c.loop-due-test.true c.due-item.is in
      let count = c.loop-due.invariant.count sorts trees in
      omega (arith, same, more, count);
}
