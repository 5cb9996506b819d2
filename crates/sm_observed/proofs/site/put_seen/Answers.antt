-- The table grows step by step.
use Rattle.sm_term.proofs.TablesLemmas.{grows-twice}
use Rattle.sm_observed.proofs.site.put_seen.Goals as goal

pub returns : goal.returns
returns c =
    let t0 = c.args.table.now in
    let t1 = c.boxed_places.new.table in
    let t2 = c.guards_of.new.table in
    let t3 = c.put_suggested.new.table in
    let a = grows-twice t0 t1 t2 c.boxed_places.ensures c.guards_of.ensures in
    grows-twice t0 t2 t3 a c.put_suggested.ensures
