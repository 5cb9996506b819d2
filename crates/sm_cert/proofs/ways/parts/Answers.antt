use Rattle.sm_cert.proofs.Imports.{IfOk, sym, subst, trees_in, sorts_in, line_in, CertLine, ways_with, SplitsInto}
use Rattle.sm_cert.proofs.WaysLemmas.{other_is_whole}
use Rattle.sm_cert.proofs.ways.parts.Goals as goal

pub returns-in-Either : goal.returns-in-Either
returns-in-Either c = λ facts added all.
    let sorts = sorts_in c.args.table.now in
    let trees = trees_in c.args.table.now in
    subst (λ (line : CertLine). IfOk c.disjuncts.result (λ o. SplitsInto sorts trees o (ways_with sorts facts added (line_in trees line))))
    (sym c.in-Either.is) (c.disjuncts.ensures sorts trees facts added all)

pub returns-in-Cases : goal.returns-in-Cases
returns-in-Cases c = λ facts added all.
    let sorts = sorts_in c.args.table.now in
    let trees = trees_in c.args.table.now in
    subst (λ (line : CertLine). SplitsInto sorts trees c.cases.result (ways_with sorts facts added (line_in trees line)))
    (sym c.in-Cases.is) (c.cases.ensures facts added)

pub returns-in-Order : goal.returns-in-Order
returns-in-Order c = λ facts added all.
    let sorts = sorts_in c.args.table.now in
    let trees = trees_in c.args.table.now in
    subst (λ (line : CertLine). SplitsInto sorts trees c.orders.result (ways_with sorts facts added (line_in trees line)))
    (sym c.in-Order.is) (c.orders.ensures facts added all)

pub returns-in_default : goal.returns-in_default
returns-in_default c = λ facts added all.
    other_is_whole (sorts_in c.args.table.now) (trees_in c.args.table.now) facts added c.args.line.now c.in_default.not-Either
    c.in_default.not-Cases c.in_default.not-Order
