-- The first disjunction that is split.
use Rattle.sm_judge.proofs.Imports.{◌<◌, ◌≤◌, ◌∙◌, length, sym, ap, arith, numbered, assertion_in, trees_in, sorts_in, part_split, all_numbered, assertions_in, seen_in, split_in}
use Rattle.sm_judge.proofs.BranchLineLemmas.{part_line}
use Rattle.sm_judge.proofs.ClosingLemmas.{fact_at, within_at}
use Rattle.sm_judge.proofs.FirstLemmas.{fact_here, fact_next, facts_end}
use Rattle.sm_judge.proofs.splits.first_part_split.Goals as goal

pub part_split-requires-clause-formula : goal.part_split-requires-clause-formula
part_split-requires-clause-formula g c =
    let inside : c.loop-n.n < length c.args.facts.now = omega (arith, c.loop-n-test.true, c.len-n-end.ensures) in
    within_at (length (trees_in c.args.table.now)) c.args.facts.now c.loop-n.n c.at.result.now inside c.at.ensures
    c.requires.facts

pub returns-in-Some-clause-split : goal.returns-in-Some-clause-split
returns-in-Some-clause-split g c = λ terms.
    let trees = trees_in c.args.table.now in
    let sorts = sorts_in c.args.table.now in
    let facts = c.args.facts.now in
    let inside : c.loop-n.n < length facts = omega (arith, c.loop-n-test.true, c.len-n-end.ensures) in
    let b = seen_in sorts trees terms facts (g.S.Sees.equal c.args.sees.now) (g.S.Sees.apart c.args.sees.now) in
    fact_here sorts trees (part_split b) facts c.loop-n.n c.at.result.now inside c.at.ensures
    (c.loop-n.invariant terms) (c.in-Some.first, c.in-Some.second)
    (sym (ap (split_in sorts trees) c.in-Some.is) ∙ c.in_ok-first.ensures.split terms)

pub returns-in-Some-clause-line : goal.returns-in-Some-clause-line
returns-in-Some-clause-line g c =
    let trees = trees_in c.args.table.now in
    let sorts = sorts_in c.args.table.now in
    let facts = c.args.facts.now in
    let inside : c.loop-n.n < length facts = omega (arith, c.loop-n-test.true, c.len-n-end.ensures) in
    let b = seen_in sorts trees trees facts (g.S.Sees.equal c.args.sees.now) (g.S.Sees.apart c.args.sees.now) in
    let f = c.at.result.now in
    part_line b sorts (assertions_in sorts trees (all_numbered facts)) c.loop-n.n (assertion_in sorts trees (numbered f))
    (assertion_in sorts trees (numbered c.in-Some.first)) (assertion_in sorts trees (numbered c.in-Some.second))
    (fact_at sorts trees facts c.loop-n.n f inside c.at.ensures)
    (sym (ap (split_in sorts trees) c.in-Some.is) ∙ c.in_ok-first.ensures.split trees)

pub loop-n-preserved : goal.loop-n-preserved
loop-n-preserved g c = λ terms.
    let trees = trees_in c.args.table.now in
    let sorts = sorts_in c.args.table.now in
    let facts = c.args.facts.now in
    let inside : c.loop-n.n < length facts = omega (arith, c.loop-n-test.true, c.len-n-end.ensures) in
    let b = seen_in sorts trees terms facts (g.S.Sees.equal c.args.sees.now) (g.S.Sees.apart c.args.sees.now) in
    fact_next sorts trees (part_split b) facts c.loop-n.n c.at.result.now inside c.at.ensures
    (c.loop-n.invariant terms) c.in_ok-first.field-0 (c.in_ok-first.ensures.split terms) c.in_default.not-Some

pub returns-clause-split : goal.returns-clause-split
returns-clause-split g c = λ terms.
    let trees = trees_in c.args.table.now in
    let sorts = sorts_in c.args.table.now in
    let facts = c.args.facts.now in
    let b = seen_in sorts trees terms facts (g.S.Sees.equal c.args.sees.now) (g.S.Sees.apart c.args.sees.now) in
    let past : length facts ≤ c.loop-n.n = omega (arith, c.loop-n-test.false, c.len-n-end.ensures) in
    facts_end sorts trees (part_split b) facts c.loop-n.n past (c.loop-n.invariant terms)
