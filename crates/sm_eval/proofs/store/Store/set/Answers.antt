use Rattle.std.proofs.Common.{sym}
use Rattle.sm_eval.specs.StoredValues.{meaning, sorts_of, Number}
use Rattle.sm_eval.proofs.Writes.{declared_within, sorts-set}
use Rattle.sm_eval.proofs.store.Store.set.Goals as goal

-- the new stored value has the sort of the old one
pub returns-clause-sorts : goal.returns-clause-sorts
unfolding meaning sorts_of
returns-clause-sorts c =
    let stored = c.args.self.now.stored.items in
    sorts-set stored c.args.x.0 (Number _) (declared_within stored c.args.x.0 _ c.requires) (sym c.requires)
