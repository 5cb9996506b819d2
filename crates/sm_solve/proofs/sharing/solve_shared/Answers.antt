-- The obligation without the node is the same over the table that has grown, and the node stays.
use Rattle.sm_solve.proofs.Imports.{List, Sorts, Assertion, numbered, IsFormSorted, AreFormsSorted, trees_in, sorts_in, Tells, Certifies, terms_walked, NamesOnly, all_numbered, assertions_in, walk, facts_within_grown, form_kept}
use Rattle.sm_solve.proofs.StaysLemmas.{moved_on, moved_back}
use Rattle.sm_solve.proofs.sharing.solve_shared.Goals as goal

pub solve-requires-in-None-clause-facts : goal.solve-requires-in-None-clause-facts
solve-requires-in-None-clause-facts c =
    facts_within_grown c.args.table.now c.solve.new.table c.in_ok-answer.ensures.grows (all_numbered c.args.facts.now) c.requires.facts

pub solve-requires-in-None-clause-target : goal.solve-requires-in-None-clause-target
solve-requires-in-None-clause-target c =
    form_kept c.args.table.now c.solve.new.table c.in_ok-answer.ensures.grows (numbered c.args.target.now) c.requires.target

pub solve-requires-in-None-clause-facts_sorted : goal.solve-requires-in-None-clause-facts_sorted
solve-requires-in-None-clause-facts_sorted c =
    moved_on c.args.table.now c.solve.new.table c.in_ok-answer.ensures.grows (all_numbered c.args.facts.now) c.requires.facts
    (numbered c.args.target.now) c.requires.target (λ (s : Sorts) (given : List Assertion) (goal : Assertion). AreFormsSorted s given)
    c.requires.facts_sorted

pub solve-requires-in-None-clause-target_sorted : goal.solve-requires-in-None-clause-target_sorted
solve-requires-in-None-clause-target_sorted c =
    moved_on c.args.table.now c.solve.new.table c.in_ok-answer.ensures.grows (all_numbered c.args.facts.now) c.requires.facts
    (numbered c.args.target.now) c.requires.target (λ (s : Sorts) (given : List Assertion) (goal : Assertion). IsFormSorted s goal)
    c.requires.target_sorted

pub returns-in_ok-answer-in-None-clause-answer : goal.returns-in_ok-answer-in-None-clause-answer
returns-in_ok-answer-in-None-clause-answer c =
    moved_back c.args.table.now c.solve.new.table c.in_ok-answer.ensures.grows (all_numbered c.args.facts.now) c.requires.facts
    (numbered c.args.target.now) c.requires.target
    (λ (s : Sorts) (given : List Assertion) (goal : Assertion).
    Tells s (trees_in c.solve-in-None.new.table) c.in_ok-answer-in-None.answer (walk s c.args.reach given goal))
    c.in_ok-answer-in-None.ensures.answer

pub returns-in_ok-answer-in-None-clause-certifies : goal.returns-in_ok-answer-in-None-clause-certifies
returns-in_ok-answer-in-None-clause-certifies c =
    moved_back c.args.table.now c.solve.new.table c.in_ok-answer.ensures.grows (all_numbered c.args.facts.now) c.requires.facts
    (numbered c.args.target.now) c.requires.target
    (λ (s : Sorts) (given : List Assertion) (goal : Assertion).
    Certifies s (trees_in c.solve-in-None.new.table) given goal c.in_ok-answer-in-None.answer)
    c.in_ok-answer-in-None.ensures.certifies

pub returns-in_ok-answer-in-None-clause-names : goal.returns-in_ok-answer-in-None-clause-names
returns-in_ok-answer-in-None-clause-names c =
    moved_back c.args.table.now c.solve.new.table c.in_ok-answer.ensures.grows (all_numbered c.args.facts.now) c.requires.facts
    (numbered c.args.target.now) c.requires.target
    (λ (s : Sorts) (given : List Assertion) (goal : Assertion).
    NamesOnly (terms_walked given goal) (trees_in c.solve-in-None.new.table) c.in_ok-answer-in-None.answer)
    c.in_ok-answer-in-None.ensures.names

pub returns-in_ok-answer-in-None-clause-node : goal.returns-in_ok-answer-in-None-clause-node
returns-in_ok-answer-in-None-clause-node c =
    let v = c.args.table.now in
    let given = assertions_in (sorts_in v) (trees_in v) (all_numbered c.args.facts.now) in
    c.stays.ensures c.solve.new.table given (c.in_ok-answer.ensures.stays given c.requires.node) c.in_ok-answer-in-None.ensures.grows
