use Rattle.sm_cc.proofs.Imports.{length, refl, slice_get_read, placed_of, are_together}
use Rattle.sm_cc.proofs.CausesLemmas.{pair_cause_at}
use Rattle.sm_cc.proofs.cause.pair_cause.Goals as goal

pub returns : goal.returns
returns c =
    let rows = c.args.c.now.rows.items in
    let r = c.index.result.now in
    let s = c.index-2.result.now in
    pair_cause_at (placed_of c.args.c.now) (are_together c.args.c.now.roots.items) c.two_rows_cause.result c.args.i c.args.j r s
    (slice_get_read rows (length rows) c.args.i r refl c.requires.left c.index.ensures)
    (slice_get_read rows (length rows) c.args.j s refl c.requires.right c.index-2.ensures) c.two_rows_cause.ensures
