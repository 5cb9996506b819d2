-- The branch over its own table is that of the facts and the contrary of the target, with all parts.
use Rattle.sm_solve.proofs.Imports.{◌++◌, ◌∷◌, [], List, length, sym, ap, subst, ◌∙◌, Sorts, negate, numbered, assertion_in, Formula, AreFormsSorted, trees_in, sorts_in, Tree, Tells, NamesOnly, with_parts, terms_of, all_numbered, assertions_in, AreFormulasWithin, walk_from, Shows}
use Rattle.sm_solve.proofs.NamingLemmas.{named_root}
use Rattle.sm_solve.proofs.SolvingLemmas.{given_sorted, walk_own, shows_certify}
use Rattle.sm_solve.proofs.solving.answered.Goals as goal

pub own_branch-requires : goal.own_branch-requires
own_branch-requires c =
    let count = length (trees_in c.args.table.now) in
    subst (λ (fs : List Formula). AreFormulasWithin count (all_numbered fs)) (sym c.deref.ensures.value)
    (c.in_ok-all.ensures.within count c.requires.facts c.requires.target)

pub walk_all-requires-clause-sorted : goal.walk_all-requires-clause-sorted
walk_all-requires-clause-sorted c =
    let sorts = sorts_in c.args.table.now in
    let trees = trees_in c.args.table.now in
    let given = assertions_in sorts trees (all_numbered c.args.facts.now) in
    let target = assertion_in sorts trees (numbered c.args.target.now) in
    let all = with_parts (given ++ negate target ∷ []) in
    let are = ap (λ (fs : List Formula). assertions_in sorts trees (all_numbered fs)) c.deref.ensures.value
    ∙ c.in_ok-all.ensures.facts sorts trees in
    let sorted = given_sorted sorts given target c.requires.facts_sorted c.requires.target_sorted in
    subst (AreFormsSorted (sorts_in c.in_ok-own.own.table)) (sym (c.in_ok-own.ensures.facts ∙ are))
    (subst (λ (s : Sorts). AreFormsSorted s all) (sym c.in_ok-own.ensures.sorts) sorted)

pub walk_all-requires-clause-named : goal.walk_all-requires-clause-named
walk_all-requires-clause-named c =
    let own = c.in_ok-own.own in
    named_root (trees_in own.table) (assertions_in (sorts_in own.table) (trees_in own.table) (all_numbered own.facts.items))
    (c.in_ok-own.ensures.terms ∙ ap terms_of (sym c.in_ok-own.ensures.facts))

pub returns-clause-answer : goal.returns-clause-answer
returns-clause-answer c =
    let sorts = sorts_in c.args.table.now in
    let trees = trees_in c.args.table.now in
    let others = trees_in c.own_branch.new.table in
    let own = c.in_ok-own.own in
    let given = assertions_in sorts trees (all_numbered c.args.facts.now) in
    let target = assertion_in sorts trees (numbered c.args.target.now) in
    let facts = assertions_in (sorts_in own.table) (trees_in own.table) (all_numbered own.facts.items) in
    let are = ap (λ (fs : List Formula). assertions_in sorts trees (all_numbered fs)) c.deref.ensures.value
    ∙ c.in_ok-all.ensures.facts sorts trees in
    let w = walk_from (sorts_in own.table) (trees_in own.table) c.args.reach 1001 0 facts in
    let told = c.in_ok-answer.ensures.tells (sorts_in own.table) (trees_in own.table) others w c.in_ok-own.ensures.numbers
    c.in_ok-end.ensures.tells in
    subst (Tells sorts others c.in_ok-answer.answer)
    (walk_own sorts (sorts_in own.table) (trees_in own.table) c.args.reach facts
    (assertions_in sorts trees (all_numbered c.deref.result.now)) (with_parts (given ++ negate target ∷ [])) c.in_ok-own.ensures.sorts
    c.in_ok-own.ensures.terms c.in_ok-own.ensures.facts are)
    (subst (λ (s : Sorts). Tells s others c.in_ok-answer.answer w) c.in_ok-own.ensures.sorts told)

pub returns-clause-certifies : goal.returns-clause-certifies
returns-clause-certifies c =
    let sorts = sorts_in c.args.table.now in
    let trees = trees_in c.args.table.now in
    let others = trees_in c.own_branch.new.table in
    let own = c.in_ok-own.own in
    let given = assertions_in sorts trees (all_numbered c.args.facts.now) in
    let target = assertion_in sorts trees (numbered c.args.target.now) in
    let all = given ++ negate target ∷ [] in
    let are = ap (λ (fs : List Formula). assertions_in sorts trees (all_numbered fs)) c.deref.ensures.value
    ∙ c.in_ok-all.ensures.facts sorts trees in
    let shown = c.in_ok-answer.ensures.shows (sorts_in own.table) (trees_in own.table) others 1001 all c.in_ok-own.ensures.numbers
    (c.in_ok-end.ensures.shows all (c.in_ok-own.ensures.facts ∙ are)) in
    shows_certify sorts others given target c.in_ok-answer.answer
    (subst (λ (s : Sorts). Shows s others all 1001 c.in_ok-answer.answer) c.in_ok-own.ensures.sorts shown)

pub returns-clause-names : goal.returns-clause-names
returns-clause-names c =
    let sorts = sorts_in c.args.table.now in
    let trees = trees_in c.args.table.now in
    let others = trees_in c.own_branch.new.table in
    let own = c.in_ok-own.own in
    let given = assertions_in sorts trees (all_numbered c.args.facts.now) in
    let target = assertion_in sorts trees (numbered c.args.target.now) in
    let all = given ++ negate target ∷ [] in
    let are = ap (λ (fs : List Formula). assertions_in sorts trees (all_numbered fs)) c.deref.ensures.value
    ∙ c.in_ok-all.ensures.facts sorts trees in
    let named = c.in_ok-answer.ensures.names (sorts_in own.table) (trees_in own.table) others 1001 all c.in_ok-own.ensures.numbers
    (c.in_ok-end.ensures.shows all (c.in_ok-own.ensures.facts ∙ are)) in
    subst (λ (ts : List Tree). NamesOnly ts others c.in_ok-answer.answer) (c.in_ok-own.ensures.terms ∙ ap terms_of are) named
