-- The certificate closes the same branch under other numbers, and the leaf has the same facts.
use Rattle.sm_solve.proofs.Imports.{List, length, sym, ap, subst, ◌∙◌, Formula, TermId, all_numbered, assertions_in, AreFormulasWithin, AreTermsOf, Opens, TellsEnd, ShowsEnd}
use Rattle.sm_solve.specs.declared.ending.WalkEnd.{WalkEnd}
use Rattle.sm_solve.proofs.SolvingLemmas.{renumbered_closes}
use Rattle.sm_solve.proofs.solving.renumbered_end.Goals as goal

pub returns-in_ok-other-in-Closed-clause-shows : goal.returns-in_ok-other-in-Closed-clause-shows
returns-in_ok-other-in-Closed-clause-shows c = λ sorts trees others room given terms shows.
    let closes = subst (ShowsEnd sorts trees given room) c.in-Closed.is shows in
    let ids = subst (λ (ts : List TermId). AreTermsOf others ts trees) (sym c.deref.ensures.value) terms in
    renumbered_closes sorts trees others given room c.in-Closed.tree c.in_ok-other-in-Closed.other
    (c.in_ok-other-in-Closed.ensures.same trees others ids closes.within)
    (c.in_ok-other-in-Closed.ensures.within trees others ids closes.within)
    closes

pub returns-in_ok-other-in-Closed-clause-names : goal.returns-in_ok-other-in-Closed-clause-names
returns-in_ok-other-in-Closed-clause-names c = λ sorts trees others room given terms shows.
    let closes = subst (ShowsEnd sorts trees given room) c.in-Closed.is shows in
    let ids = subst (λ (ts : List TermId). AreTermsOf others ts trees) (sym c.deref.ensures.value) terms in
    c.in_ok-other-in-Closed.ensures.names trees others ids closes.within

pub returns-in_ok-list-in-Open-clause-tells : goal.returns-in_ok-list-in-Open-clause-tells
returns-in_ok-list-in-Open-clause-tells c = λ sorts trees others w terms tells.
    let told = subst (λ (e : WalkEnd). TellsEnd sorts trees e w) c.in-Open.is tells in
    let ids = subst (λ (ts : List TermId). AreTermsOf others ts trees) (sym c.deref-in-Open-2.ensures.value) terms in
    let within = subst (λ (fs : List Formula). AreFormulasWithin (length trees) (all_numbered fs)) (sym c.deref-in-Open.ensures.value)
    told.0 in (
      c.in_ok-list-in-Open.ensures.within trees others ids within,
      told.1 ∙ ap Opens (ap (λ (fs : List Formula). assertions_in sorts trees (all_numbered fs)) (sym c.deref-in-Open.ensures.value)
          ∙ sym (c.in_ok-list-in-Open.ensures.same sorts trees others ids within)),
    )
