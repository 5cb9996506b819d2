-- The copy and the table both go on from the table as it was.
use Rattle.calls.proofs.GrowthLemmas.{rows_suit}
use Rattle.calls.proofs.term.adopted.Goals as goal

pub adopt-requires-clause-sound : goal.adopt-requires-clause-sound
adopt-requires-clause-sound c =
    let start = c.args.scene.now.table in
    rows_suit start c.args.copy.now.table c.put_terms.new.scene.table c.len-from.result c.in_ok-rows.rows c.len-from.ensures.len c.requires
    c.in_ok-put_terms.ensures c.in_ok-rows.ensures.sound
