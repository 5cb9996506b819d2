-- The formula says that two terms aren't equal.
use Rattle.sm_term.specs.declared.formula.Formula.TheVariants as tree
use Rattle.sm_judge.proofs.Imports.{Assertion, trees_in, sorts_in, numbered, assertion_in, Formula, seen_in, split_in}
use Rattle.sm_judge.proofs.SplitLemmas.{order_of}
use Rattle.sm_judge.proofs.holding.order_split.Goals as goal

pub returns-in-Ne-clause-split : goal.returns-in-Ne-clause-split
returns-in-Ne-clause-split c = λ terms equal apart.
    let sorts = sorts_in c.args.table.now in
    let trees = trees_in c.args.table.now in
    let b = seen_in sorts trees terms c.args.facts.now equal apart in
    let says : Formula → Assertion = λ f. assertion_in sorts trees (numbered f) in
    order_of b says (split_in sorts trees c.orders.result) (tree.Ne c.in-Ne.t c.in-Ne.u) c.args.f.now (c.orders.ensures.split terms equal apart)
    c.in-Ne.is
