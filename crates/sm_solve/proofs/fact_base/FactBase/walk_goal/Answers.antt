-- The facts with the contrary are a branch with all parts, over a table of its terms.
use Rattle.sm_solve.proofs.Imports.{◌≡◌, List, [], ◌∷◌, ◌++◌, IfOk, refl, ap, subst, ◌∙◌, on_ok_weaker, Sorts, Assertion, trees_in, sorts_in, Tree, with_parts, terms_of, all_numbered, assertions_in, Walked, walk_from, TellsEnd, ShowsEnd}
use Rattle.sm_solve.proofs.AtGoalLemmas.{led, goal_sorted, goal_named, renumbered_goal}
use Rattle.sm_solve.proofs.fact_base.FactBase.walk_goal.Goals as goal

pub walk_over-requires-clause-within : goal.walk_over-requires-clause-within
walk_over-requires-clause-within c = c.requires.3.within

pub walk_over-requires-clause-sorted : goal.walk_over-requires-clause-sorted
walk_over-requires-clause-sorted c = goal_sorted c.requires.0 c.requires.1 c.requires.2 c.args.self.now c.requires.3

pub walk_over-requires-clause-led : goal.walk_over-requires-clause-led
walk_over-requires-clause-led c = led c.requires.0 c.requires.1 c.requires.2 c.args.self.now c.requires.3

pub walk_over-requires-clause-named : goal.walk_over-requires-clause-named
walk_over-requires-clause-named c = goal_named c.requires.0 c.requires.1 c.requires.2 c.args.self.now c.requires.3

pub returns-clause-tells : goal.returns-clause-tells
returns-clause-tells c = λ table given contrary at.
    let own = c.args.self.now.terms.own in
    let all = with_parts (given ++ contrary ∷ []) in
    let facts = assertions_in (sorts_in own) (trees_in own) (all_numbered c.args.self.now.facts.items) in
    let same : facts ≡ all =
    ap (λ (s : Sorts). assertions_in s (trees_in own) (all_numbered c.args.self.now.facts.items)) at.shared.sorts ∙ at.facts in
    let by : Sorts → List Tree → List Assertion → Walked = λ s ts fs. walk_from s ts c.args.reach 1001 0 fs in
    let walked : by (sorts_in own) (trees_in own) facts ≡ by (sorts_in table) (terms_of all) all =
    ap (λ (s : Sorts). by s (trees_in own) facts) at.shared.sorts
    ∙ ap (λ (ts : List Tree). by (sorts_in table) ts facts) (at.shared.own ∙ at.terms)
    ∙ ap (by (sorts_in table) (terms_of all)) same in
    subst (λ (s : Sorts). IfOk c.walk_over.result (λ e. TellsEnd s (trees_in own) e (by (sorts_in table) (terms_of all) all)))
    at.shared.sorts
    (subst (λ (w : Walked). IfOk c.walk_over.result (λ e. TellsEnd (sorts_in own) (trees_in own) e w)) walked c.walk_over.ensures.tells)

pub returns-clause-shows : goal.returns-clause-shows
returns-clause-shows c = λ table given contrary at.
    let own = c.args.self.now.terms.own in
    let same = ap (λ (s : Sorts). assertions_in s (trees_in own) (all_numbered c.args.self.now.facts.items)) at.shared.sorts ∙ at.facts in
    subst (λ (s : Sorts). IfOk c.walk_over.result (ShowsEnd s (trees_in own) (given ++ contrary ∷ []) 1001)) at.shared.sorts
    (c.walk_over.ensures.shows (given ++ contrary ∷ []) same)

pub returns-clause-stays : goal.returns-clause-stays
returns-clause-stays c = λ table given contrary at.
    on_ok_weaker c.walk_over.result
    (λ kept. renumbered_goal table given contrary c.args.self.now _ refl refl kept refl refl c.walk_over.ensures.stays at) c.walk_over.ensures.kept
