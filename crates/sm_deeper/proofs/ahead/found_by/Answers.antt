-- The copy has the same terms.
use Rattle.sm_goals.proofs.NodesLemmas.{ready_over}
use Rattle.sm_deeper.proofs.ahead.found_by.Goals as goal

pub walk_shares-requires : goal.walk_shares-requires
walk_shares-requires c =
    ready_over c.args.table.now c.in_ok-copy.copy c.in_ok-copy.ensures.sorts c.in_ok-copy.ensures.trees c.args.wave.now.dues.now c.requires
