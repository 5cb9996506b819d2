-- The visit begins with nothing.
use Rattle.std.proofs.Common.{[]}
use Rattle.sm_solve.proofs.BasesLemmas.{led_nothing}
use Rattle.sm_solve.proofs.first.visit_alone.Goals as goal

pub visit_branch-requires-clause-led : goal.visit_branch-requires-clause-led
visit_branch-requires-clause-led c = (
  record { table = c.args.cx.now.table.now; terms = []; given = [] },
  tt,
  led_nothing c.args.cx.now.table.now c.args.cx.now.terms.now.list.items c.args.facts.now,
)
