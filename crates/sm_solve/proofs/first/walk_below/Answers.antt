-- The walk goes on from the classes of the facts.
use Rattle.sm_solve.proofs.Imports.{sym, classes_by}
use Rattle.sm_solve.proofs.BasesLemmas.{led_same, led_alone}
use Rattle.sm_solve.proofs.first.walk_below.Goals as goal

pub walk_on-requires-clause-led : goal.walk_on-requires-clause-led
walk_on-requires-clause-led c =
    let ids = c.args.cx.now.terms.now.list.items in
    let v = classes_by c.args.cx.now.table.now ids c.as_slice.result.now in
    (v, c.in_ok-base.ensures, led_same v c.args.cx.now.table.now ids c.as_slice.result.now c.args.facts.now.items (sym c.as_slice.ensures.value) (led_alone v))
