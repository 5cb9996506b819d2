-- No facts are of two terms.
use Rattle.sm_cc.proofs.PlacedLemmas.{none_given}
use Rattle.sm_cc.proofs.classes.Classes.new.Goals as goal

pub of-requires-clause-given : goal.of-requires-clause-given
of-requires-clause-given c = none_given c.args.table.now c.args.terms.now.list.items c.new.result.items c.new.ensures.items
