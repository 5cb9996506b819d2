-- No byte that is kept ends a line.
use Rattle.sm_check.proofs.EndedLines.{ended-extend}
use Rattle.sm_check.proofs.unfinished.Unfinished.add.Goals as goal

pub invariant_of-self-2 : goal.invariant_of-self-2
invariant_of-self-2 c = record {
  no_end =
      ended-extend _ c.args.self.now.bytes.items c.args.more.now _ c.args.self.now.no_end c.requires c.extend_from_slice.ensures.items;
}
