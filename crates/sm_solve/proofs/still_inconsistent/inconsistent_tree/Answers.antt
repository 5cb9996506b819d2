-- The walk closes at its first visit, and the certificate of the facts serves.
use Rattle.sm_solve.proofs.Imports.{◌≡◌, ℕ, List, sym, subst, arith, trees_in, sorts_in, TermId, all_numbered, assertions_in, AreTermsOf, Closes, walk_from}
use Rattle.sm_solve.proofs.InconsistentLemmas.{visit_walks, closes_on, first_terms}
use Rattle.sm_solve.proofs.still_inconsistent.inconsistent_tree.Goals as goal

pub returns-clause-tells : goal.returns-clause-tells
returns-clause-tells c = λ first given is below.
    let table = c.args.branch.now.table.now in
    let sorts = sorts_in table in
    let trees = trees_in table in
    let all = assertions_in sorts trees (all_numbered c.args.branch.now.facts.now) in
    let reach = c.args.reach in
    let same : reach.steps ≡ c.args.inconsistent.now.steps = sym c.if-inconsistent-reach.false in
    let told = c.in_ok-is_still_inconsistent.ensures.closes first given reach (walk_from sorts trees reach 1000) same is below
    c.if-not-branch.false in
    let some = is.some in
    (told.0, visit_walks sorts trees reach told.0 all (omega (arith, same, some)) told.1)

pub returns-clause-shows : goal.returns-clause-shows
returns-clause-shows c = λ first given f is longer.
    let sorts = sorts_in c.args.branch.now.table.now in
    let trees = trees_in c.args.branch.now.table.now in
    let inconsistent = c.args.inconsistent.now in
    let terms = subst (λ (ids : List TermId). AreTermsOf trees ids first) (sym c.deref.ensures.value)
    (first_terms first trees inconsistent.terms.list.items longer is.counted) in
    let made = c.in_ok-tree in
    closes_on sorts first trees given f inconsistent.tree made.tree is.closes is.named (made.ensures.same first trees terms is.closes.within)
    (made.ensures.within first trees terms is.closes.within)
