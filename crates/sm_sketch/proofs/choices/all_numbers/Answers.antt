-- The numbers of a range.
use Rattle.std.proofs.Common.{length, refl, arith}
use Rattle.std.proofs.lemmas.Iterator.{items_from_collect, YieldsList-from_range}
use Rattle.sm_sketch.proofs.choices.all_numbers.Goals as goal

pub returns : goal.returns
returns c =
    let count = length c.args.templates.now.list.items in
    items_from_collect c.collect.result c.collect.ensures.ran (YieldsList-from_range 0 _ count refl (omega (arith, c.len-count.ensures)))
