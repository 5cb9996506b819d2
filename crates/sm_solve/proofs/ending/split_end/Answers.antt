use Rattle.sm_solve.proofs.Imports.{◌++◌, [], ◌∷◌, length, subst, ShowsEnd}
use Rattle.sm_solve.proofs.WalkingLemmas.{split_closes}
use Rattle.sm_solve.proofs.ending.split_end.Goals as goal

pub returns-in_ok-whole-in-Closed-clause-shows : goal.returns-in_ok-whole-in-Closed-clause-shows
returns-in_ok-whole-in-Closed-clause-shows c = λ sorts trees room facts p q line splits one shows.
    let two = subst (ShowsEnd sorts trees (facts ++ q ∷ []) room) c.in-Closed.is shows in
    split_closes sorts trees room facts p q c.args.line c.args.first c.in-Closed.tree c.in_ok-whole-in-Closed.whole splits
    (c.in_ok-whole-in-Closed.ensures.tree trees)
    (c.in_ok-whole-in-Closed.ensures.within (length trees) line one.within two.within) one two
