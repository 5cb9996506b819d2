use Rattle.sm_cc.proofs.GrowingLemmas.{grown_kept}
use Rattle.sm_cc.proofs.places.PlaceClasses.over.Goals as goal

pub settle_over-requires-clause-kept : goal.settle_over-requires-clause-kept
settle_over-requires-clause-kept c =
    grown_kept c.args.ground.now.closure.rows.items c.args.more.items c.in_ok-inside.inside.rows.items c.in_ok-inside.ensures.rows
