-- As for the end of a walk.
use Rattle.sm_solve.proofs.Imports.{List, sym, subst, TermId, AreTermsOf}
use Rattle.sm_solve.specs.declared.goal_end.GoalEnd.{GoalEnd}
use Rattle.sm_solve.specs.GoalEnds.{ShowsGoal}
use Rattle.sm_solve.proofs.SolvingLemmas.{renumbered_closes}
use Rattle.sm_solve.proofs.goal_end.renumbered_goal_end.Goals as goal

pub returns-in_ok-other-in-Inconsistent-clause-shows : goal.returns-in_ok-other-in-Inconsistent-clause-shows
returns-in_ok-other-in-Inconsistent-clause-shows c = λ sorts trees others room given terms shows.
    let closes = subst (λ (e : GoalEnd). ShowsGoal sorts trees given room e) c.in-Inconsistent.is shows in
    let ids = subst (λ (ts : List TermId). AreTermsOf others ts trees) (sym c.deref.ensures.value) terms in
    renumbered_closes sorts trees others given room c.in-Inconsistent.tree c.in_ok-other-in-Inconsistent.other
    (c.in_ok-other-in-Inconsistent.ensures.same trees others ids closes.within)
    (c.in_ok-other-in-Inconsistent.ensures.within trees others ids closes.within)
    closes

pub returns-in_ok-other-in-Inconsistent-clause-names : goal.returns-in_ok-other-in-Inconsistent-clause-names
returns-in_ok-other-in-Inconsistent-clause-names c = λ sorts trees others room given terms shows.
    let closes = subst (λ (e : GoalEnd). ShowsGoal sorts trees given room e) c.in-Inconsistent.is shows in
    let ids = subst (λ (ts : List TermId). AreTermsOf others ts trees) (sym c.deref.ensures.value) terms in
    c.in_ok-other-in-Inconsistent.ensures.names trees others ids closes.within

pub returns-in-Walked-clause-shows : goal.returns-in-Walked-clause-shows
returns-in-Walked-clause-shows c = λ sorts trees others room given terms shows.
    c.renumbered_end.ensures.shows sorts trees others room given terms
    (subst (λ (e : GoalEnd). ShowsGoal sorts trees given room e) c.in-Walked.is shows)

pub returns-in-Walked-clause-names : goal.returns-in-Walked-clause-names
returns-in-Walked-clause-names c = λ sorts trees others room given terms shows.
    c.renumbered_end.ensures.names sorts trees others room given terms
    (subst (λ (e : GoalEnd). ShowsGoal sorts trees given room e) c.in-Walked.is shows)
