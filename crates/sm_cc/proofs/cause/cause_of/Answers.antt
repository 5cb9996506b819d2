use Rattle.sm_cc.proofs.Imports.{◌≡◌, false, List, map, subst, length, arith, slice_get_read, placed_of, are_together, pair_of, GivenHere, get_below}
use Rattle.sm_cc.specs.Rows.{is_listed}
use Rattle.sm_cc.specs.Closures.{Given}
use Rattle.sm_cc.proofs.CausesLemmas.{cause_at}
use Rattle.sm_cc.proofs.cause.cause_of.Goals as goal

pub returns-in-Some : goal.returns-in-Some
returns-in-Some c =
    let rows = c.args.c.now.rows.items in
    let r = get_below rows c.args.i c.requires.left in
    let s = get_below rows c.args.j c.requires.right in
    record {
      first = r.0;
      second = s.0;
      at_first = r.1;
      at_second = s.1;
      cause =
          subst (λ (list : List Given). GivenHere list c.in-Some.fact c.args.i c.args.j) c.deref.ensures.value c.in-Some.ensures;
    }

pub returns-in-None : goal.returns-in-None
returns-in-None c =
    let rows = c.args.c.now.rows.items in
    let r = c.index.result.now in
    let s = c.index-in-None.result.now in
    cause_at (placed_of c.args.c.now) (are_together c.args.c.now.roots.items) c.row_cause.result c.args.i c.args.j r s
    (slice_get_read rows (length rows) c.args.i r (omega arith) c.requires.left c.index.ensures)
    (slice_get_read rows (length rows) c.args.j s (omega arith) c.requires.right c.index-in-None.ensures)
    (subst (λ (list : List Given). is_listed (map pair_of list) c.args.i c.args.j ≡ false) c.deref.ensures.value c.in-None.ensures)
    c.row_cause.ensures
