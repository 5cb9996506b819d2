use Rattle.sm_solve.proofs.Imports.{[], List, refl, ap, subst, ◌∙◌, Formula, Assertion, trees_in, sorts_in, all_numbered, assertions_in, ShowsEnd}
use Rattle.sm_solve.proofs.first.walk_over.Goals as goal

pub returns-clause-shows : goal.returns-clause-shows
returns-clause-shows c = λ given are.
    let sorts = sorts_in c.args.table.now in
    let trees = trees_in c.args.table.now in
    let now = ap (λ (fs : List Formula). assertions_in sorts trees (all_numbered fs)) (c.as_slice.ensures.value ∙ c.in_ok-end.ensures.kept)
    ∙ are in
    let shows = subst (λ (fs : List Assertion). ShowsEnd sorts trees fs 1001 c.in_ok-end.end) are c.in_ok-end.ensures.shows in
    c.in_ok-led.ensures.shows sorts trees 1001 [] given refl now shows
