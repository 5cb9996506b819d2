use Rattle.sm_explain.proofs.MergedLists.{past_end}
use Rattle.sm_explain.proofs.indices.past.Goals as goal

pub returns : goal.returns
returns c = past_end c.args.i c.args.list.now c.args.place c.if-place-list.false
