use Rattle.sm_solve.proofs.Imports.{Option, IfSome, List, subst, Assertion, trees_in, sorts_in, CertTree, ShowsVisit, ClosesIn}
use Rattle.sm_solve.proofs.inconsistent.found.Goals as goal

pub returns-then-names_what_it_reads-clause-closes : goal.returns-then-names_what_it_reads-clause-closes
returns-then-names_what_it_reads-clause-closes c = λ given is.
    let sorts = sorts_in c.args.table.now in
    let trees = trees_in c.args.table.now in
    let shows = subst (λ (fs : List Assertion). ShowsVisit sorts trees fs c.in_ok-visit-in-Some.visit) is c.in_ok-visit-in-Some.ensures.shows in
    subst (λ (o : Option CertTree). IfSome o (ClosesIn sorts trees given 1)) c.in-Some-2.is
    (c.in_ok-tree-in-Some.ensures sorts trees given is shows)
