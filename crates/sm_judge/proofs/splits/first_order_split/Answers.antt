-- The first contrary that is split.
use Rattle.sm_judge.proofs.Imports.{◌<◌, ◌≤◌, false, length, arith, numbered, assertion_in, Tree, trees_in, sorts_in, order_split, all_numbered, assertions_in, seen_in}
use Rattle.sm_judge.proofs.BranchLineLemmas.{order_line}
use Rattle.sm_judge.proofs.ClosingLemmas.{fact_at, within_at}
use Rattle.sm_judge.proofs.FirstLemmas.{fact_here, fact_next, facts_end}
use Rattle.sm_judge.proofs.splits.first_order_split.Goals as goal

pub order_split-requires-clause-formula : goal.order_split-requires-clause-formula
order_split-requires-clause-formula c =
    let inside : c.loop-n.n < length c.args.facts.now = omega (arith, c.loop-n-test.true, c.len-n-end.ensures) in
    within_at (length (trees_in c.args.table.now)) c.args.facts.now c.loop-n.n c.at.result.now inside c.at.ensures
    c.requires

pub returns-in-Some-clause-split : goal.returns-in-Some-clause-split
returns-in-Some-clause-split c = λ terms equal apart.
    let trees = trees_in c.args.table.now in
    let sorts = sorts_in c.args.table.now in
    let facts = c.args.facts.now in
    let inside : c.loop-n.n < length facts = omega (arith, c.loop-n-test.true, c.len-n-end.ensures) in
    let b = seen_in sorts trees terms facts equal apart in
    fact_here sorts trees (order_split b) facts c.loop-n.n c.at.result.now inside c.at.ensures
    (c.loop-n.invariant terms equal apart) (c.in-Some.first, c.in-Some.second) (c.in-Some.ensures.split terms equal apart)

pub returns-in-Some-clause-line : goal.returns-in-Some-clause-line
returns-in-Some-clause-line c =
    let trees = trees_in c.args.table.now in
    let sorts = sorts_in c.args.table.now in
    let facts = c.args.facts.now in
    let inside : c.loop-n.n < length facts = omega (arith, c.loop-n-test.true, c.len-n-end.ensures) in
    let none = λ (t u : Tree). false in
    let b = seen_in sorts trees trees facts none none in
    let f = c.at.result.now in
    order_line b sorts (assertions_in sorts trees (all_numbered facts)) c.loop-n.n (assertion_in sorts trees (numbered f))
    (assertion_in sorts trees (numbered c.in-Some.first)) (assertion_in sorts trees (numbered c.in-Some.second))
    (fact_at sorts trees facts c.loop-n.n f inside c.at.ensures) (c.in-Some.ensures.split trees none none)

pub loop-n-preserved : goal.loop-n-preserved
loop-n-preserved c = λ terms equal apart.
    let trees = trees_in c.args.table.now in
    let sorts = sorts_in c.args.table.now in
    let facts = c.args.facts.now in
    let inside : c.loop-n.n < length facts = omega (arith, c.loop-n-test.true, c.len-n-end.ensures) in
    let b = seen_in sorts trees terms facts equal apart in
    fact_next sorts trees (order_split b) facts c.loop-n.n c.at.result.now inside c.at.ensures
    (c.loop-n.invariant terms equal apart) c.order_split.result (c.order_split.ensures.split terms equal apart) c.in_default.not-Some

pub returns-clause-split : goal.returns-clause-split
returns-clause-split c = λ terms equal apart.
    let trees = trees_in c.args.table.now in
    let sorts = sorts_in c.args.table.now in
    let facts = c.args.facts.now in
    let b = seen_in sorts trees terms facts equal apart in
    let past : length facts ≤ c.loop-n.n = omega (arith, c.loop-n-test.false, c.len-n-end.ensures) in
    facts_end sorts trees (order_split b) facts c.loop-n.n past (c.loop-n.invariant terms equal apart)
