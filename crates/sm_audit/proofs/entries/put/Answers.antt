-- A node is put at a place.
use Rattle.sm_audit.proofs.EntriesLemmas.{entry_put}
use Rattle.sm_audit.proofs.entries.put.Goals as goal

pub returns : goal.returns
returns c = entry_put c.args.since.now.items c.args.t.0 c.args.node
