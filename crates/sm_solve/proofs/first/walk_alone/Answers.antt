-- The walk of the first branch is what its visit tells, and what the walk below it comes to.
use Rattle.sm_solve.proofs.Imports.{◌≡◌, ◌<◌, [], List, refl, sym, ap, subst, ◌∙◌, arith, Formula, Assertion, AreFormsSorted, trees_in, sorts_in, branch_of, all_numbered, assertions_in, Walked, walk_from, by_classes, TellsVisit, ShowsVisit, ShowsEnd}
use Rattle.sm_solve.proofs.WalkingLemmas.{walk_next}
use Rattle.sm_solve.proofs.first.walk_alone.Goals as goal

pub walk_below-requires-clause-shows : goal.walk_below-requires-clause-shows
walk_below-requires-clause-shows c =
    let sorts = sorts_in c.args.table.now in
    let trees = trees_in c.args.table.now in
    subst (λ (fs : List Formula). ShowsVisit sorts trees (assertions_in sorts trees (all_numbered fs)) c.in_ok-visit.visit)
    c.as_slice.ensures.value c.in_ok-visit.ensures.shows

pub returns-clause-tells : goal.returns-clause-tells
returns-clause-tells c =
    let table = c.args.table.now in
    let sorts = sorts_in table in
    let trees = trees_in table in
    let all = assertions_in sorts trees (all_numbered c.args.facts.now.items) in
    let go = walk_from sorts trees c.args.reach 1000 in
    let some : 1001 ≡ 0 → ⊥ = λ e. omega (arith, e) in
    let less : 0 < c.args.reach.steps = omega arith in
    let next = walk_next sorts trees c.args.reach 1001 0 all some less in
    let told = subst (λ (fs : List Formula). TellsVisit sorts trees (assertions_in sorts trees (all_numbered fs)) go c.in_ok-visit.visit
    (by_classes go c.args.reach (branch_of table fs) 1)) c.as_slice.ensures.value (c.in_ok-visit.ensures.tells go) in
    c.in_ok-led.ensures.tells sorts trees (walk_from sorts trees c.args.reach 1001 0 all)
    (c.in_ok-end.ensures.tells (walk_from sorts trees c.args.reach 1001 0 all)
    (subst (λ (w : Walked). TellsVisit sorts trees all go c.in_ok-visit.visit w) (sym next) told))

pub returns-clause-shows : goal.returns-clause-shows
returns-clause-shows c = λ given are.
    let sorts = sorts_in c.args.table.now in
    let trees = trees_in c.args.table.now in
    let now = ap (λ (fs : List Formula). assertions_in sorts trees (all_numbered fs)) (c.as_slice-2.ensures.value ∙ c.in_ok-end.ensures.kept)
    ∙ are in
    let shows = subst (λ (fs : List Assertion). ShowsEnd sorts trees fs 1001 c.in_ok-end.end) are c.in_ok-end.ensures.shows in
    c.in_ok-led.ensures.shows sorts trees 1001 [] given refl now shows
