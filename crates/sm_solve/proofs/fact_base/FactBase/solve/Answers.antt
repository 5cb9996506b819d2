-- The walk with the contrary of the target is that of the obligation.
use Rattle.sm_solve.proofs.Imports.{◌≡◌, List, [], ◌∷◌, ◌++◌, length, sym, ap, subst, ◌∙◌, arith, Sorts, Assertion, negate, numbered, assertion_in, IsFormulaWithin, IsFormSorted, trees_in, sorts_in, Tree, contrary_negates, Tells, NamesOnly, with_parts, terms_of, walk_from, Shows, contrary_within, negate_sorted}
use Rattle.sm_solve.proofs.AtGoalLemmas.{terms_of_goal, room_counted}
use Rattle.sm_solve.proofs.SolvingLemmas.{shows_certify}
use Rattle.sm_solve.proofs.fact_base.FactBase.solve.Goals as goal

pub open_goal-requires-clause-within : goal.open_goal-requires-clause-within
open_goal-requires-clause-within c =
    let count = length (trees_in c.args.table.now) in
    subst (IsFormulaWithin count) (sym c.in_ok-contrary.ensures) (contrary_within count (numbered c.args.target.now) c.requires.within)

pub open_goal-requires-clause-sorted : goal.open_goal-requires-clause-sorted
open_goal-requires-clause-sorted c =
    let sorts = sorts_in c.args.table.now in
    let trees = trees_in c.args.table.now in
    let goal = assertion_in sorts trees (numbered c.args.target.now) in
    let is = ap (assertion_in sorts trees) c.in_ok-contrary.ensures ∙ contrary_negates sorts trees (numbered c.args.target.now) in
    subst (IsFormSorted sorts) (sym is) (negate_sorted sorts goal c.requires.sorted)

pub close_goal-requires : goal.close_goal-requires
close_goal-requires c =
    let given = c.requires.node.0 in
    let is = c.requires.node.1 in
    let table = c.open_goal.new.table in
    let form = assertion_in (sorts_in c.args.table.now) (trees_in c.args.table.now) (numbered c.in_ok-contrary.contrary) in
    let first = ap length is.shared.own in
    let many = room_counted c.args.table.now given c.args.self.now is in
    let len = c.len-len.ensures.len in (
      table,
      given,
      form,
      c.in_ok-end.ensures.stays table given form (c.in_ok-open_goal.ensures.goal given is),
      omega (arith, many),
      omega (arith, first, len),
    )

pub returns-clause-answer : goal.returns-clause-answer
returns-clause-answer c = λ given is.
    let sorts = sorts_in c.args.table.now in
    let trees = trees_in c.args.table.now in
    let table = c.open_goal.new.table in
    let goal = assertion_in sorts trees (numbered c.args.target.now) in
    let form = assertion_in sorts trees (numbered c.in_ok-contrary.contrary) in
    let against : form ≡ negate goal =
    ap (assertion_in sorts trees) c.in_ok-contrary.ensures ∙ contrary_negates sorts trees (numbered c.args.target.now) in
    let at = c.in_ok-open_goal.ensures.goal given is in
    let now = c.in_ok-end.ensures.stays table given form at in
    let all = with_parts (given ++ form ∷ []) in
    let ids = c.in_ok-numbers.numbers.list.items in
    let terms = terms_of_goal table given form _ now ids (c.in_ok-numbers.ensures ∙ c.as_slice.ensures.values) in
    let told = c.in_ok-answer.ensures.tells (sorts_in table) (trees_in c.end_of_goal.new.self.terms.own) (trees_in table)
    (walk_from (sorts_in table) (terms_of all) c.args.reach 1001 0 all) terms (c.in_ok-end.ensures.tells table given form at) in
    let same = c.in_ok-open_goal.ensures.grows.sorts in
    subst (λ (f : Assertion). let fs = with_parts (given ++ f ∷ []) in
    Tells sorts (trees_in table) c.in_ok-answer.answer (walk_from sorts (terms_of fs) c.args.reach 1001 0 fs)) against
    (subst (λ (s : Sorts). Tells s (trees_in table) c.in_ok-answer.answer (walk_from s (terms_of all) c.args.reach 1001 0 all)) same told)

pub returns-clause-certifies : goal.returns-clause-certifies
returns-clause-certifies c = λ given is.
    let sorts = sorts_in c.args.table.now in
    let trees = trees_in c.args.table.now in
    let table = c.open_goal.new.table in
    let goal = assertion_in sorts trees (numbered c.args.target.now) in
    let form = assertion_in sorts trees (numbered c.in_ok-contrary.contrary) in
    let against : form ≡ negate goal =
    ap (assertion_in sorts trees) c.in_ok-contrary.ensures ∙ contrary_negates sorts trees (numbered c.args.target.now) in
    let at = c.in_ok-open_goal.ensures.goal given is in
    let now = c.in_ok-end.ensures.stays table given form at in
    let ids = c.in_ok-numbers.numbers.list.items in
    let terms = terms_of_goal table given form _ now ids (c.in_ok-numbers.ensures ∙ c.as_slice.ensures.values) in
    let shown = c.in_ok-answer.ensures.shows (sorts_in table) (trees_in c.end_of_goal.new.self.terms.own) (trees_in table) 1001
    (given ++ form ∷ []) terms (c.in_ok-end.ensures.shows table given form at) in
    shows_certify sorts (trees_in table) given goal c.in_ok-answer.answer
    (subst (λ (f : Assertion). Shows sorts (trees_in table) (given ++ f ∷ []) 1001 c.in_ok-answer.answer) against
    (subst (λ (s : Sorts). Shows s (trees_in table) (given ++ form ∷ []) 1001 c.in_ok-answer.answer)
    c.in_ok-open_goal.ensures.grows.sorts shown))

pub returns-clause-names : goal.returns-clause-names
returns-clause-names c = λ given is.
    let sorts = sorts_in c.args.table.now in
    let trees = trees_in c.args.table.now in
    let table = c.open_goal.new.table in
    let goal = assertion_in sorts trees (numbered c.args.target.now) in
    let form = assertion_in sorts trees (numbered c.in_ok-contrary.contrary) in
    let against : form ≡ negate goal =
    ap (assertion_in sorts trees) c.in_ok-contrary.ensures ∙ contrary_negates sorts trees (numbered c.args.target.now) in
    let at = c.in_ok-open_goal.ensures.goal given is in
    let now = c.in_ok-end.ensures.stays table given form at in
    let ids = c.in_ok-numbers.numbers.list.items in
    let terms = terms_of_goal table given form _ now ids (c.in_ok-numbers.ensures ∙ c.as_slice.ensures.values) in
    let named = c.in_ok-answer.ensures.names (sorts_in table) (trees_in c.end_of_goal.new.self.terms.own) (trees_in table) 1001
    (given ++ form ∷ []) terms (c.in_ok-end.ensures.shows table given form at) in
    subst (λ (ts : List Tree). NamesOnly ts (trees_in table) c.in_ok-answer.answer)
    (now.shared.own ∙ now.terms ∙ ap (λ (f : Assertion). terms_of (with_parts (given ++ f ∷ []))) against) named

pub returns-clause-stays : goal.returns-clause-stays
returns-clause-stays c = λ given is.
    let table = c.open_goal.new.table in
    let form = assertion_in (sorts_in c.args.table.now) (trees_in c.args.table.now) (numbered c.in_ok-contrary.contrary) in
    let at = c.in_ok-open_goal.ensures.goal given is in
    let first = ap length is.shared.own in
    let many = room_counted c.args.table.now given c.args.self.now is in
    let len = c.len-len.ensures.len in
    c.close_goal.ensures table given form (c.in_ok-end.ensures.stays table given form at) (omega (arith, many))
    (omega (arith, first, len))
