use Rattle.sm_cert.proofs.Imports.{◌∙◌, subst, trees_in, sorts_in, FactStands, Fact}
use Rattle.sm_cert.proofs.WaysLemmas.{sum_cannot}
use Rattle.sm_cert.proofs.ways.cannot_hold.Goals as goal

pub returns-in-Lin : goal.returns-in-Lin
returns-in-Lin c = λ as_facts stands.
    let sorts = sorts_in c.args.table.now in
    let trees = trees_in c.args.table.now in
    c.is_contradiction.ensures
    ∙ sum_cannot sorts trees c.in-Lin.f as_facts c.len.ensures.apart
    (subst (λ (f : Fact). FactStands sorts trees f as_facts) c.in-Lin.is stands)
