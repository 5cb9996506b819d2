-- The certificate of the branch with all parts, led by the lines that add these.
use Rattle.sm_solve.proofs.Imports.{refl, [], subst, Visit, with_parts, ShowsVisit}
use Rattle.sm_solve.proofs.inconsistent.visited_tree.Goals as goal

pub returns-in-Closed : goal.returns-in-Closed
returns-in-Closed c = λ sorts trees given is shows.
    let closes = subst (λ (v : Visit). ShowsVisit sorts trees (with_parts given) v) c.in-Closed.is shows in
    c.tree_of.ensures sorts trees given 1 (c.in_ok-end-in-Closed.ensures.shows sorts trees 1 [] given refl is closes)
