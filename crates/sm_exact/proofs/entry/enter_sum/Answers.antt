-- A sum that left the range ends the list.
use Rattle.sm_exact.proofs.EntryLemmas.{sum_fails}
use Rattle.sm_exact.proofs.entry.enter_sum.Goals as goal

pub returns-in-Err : goal.returns-in-Err
returns-in-Err c = sum_fails c.args.out.items c.args.count c.args.sum c.in-Err.e c.beyond.result c.in-Err.is c.beyond.ensures
