-- The first term that is split.
use Rattle.sm_judge.proofs.Imports.{◌<◌, ◌≤◌, ◌∙◌, pos, [], length, arith, numbered, Lit, trees_in, sorts_in, tree_at, index_split, seen_in}
use Rattle.sm_judge.proofs.BranchLineLemmas.{cases_told, cases_within, cases_line}
use Rattle.sm_judge.proofs.FirstLemmas.{term_here, term_next, terms_end}
use Rattle.sm_judge.proofs.splits.first_index_split.Goals as goal

pub returns-in-Some-clause-split : goal.returns-in-Some-clause-split
returns-in-Some-clause-split g c = λ facts.
    let trees = trees_in c.args.table.now in
    let sorts = sorts_in c.args.table.now in
    let b = seen_in sorts trees trees facts (g.S.Sees.equal c.args.sees.now) (g.S.Sees.apart c.args.sees.now) in
    let inside : c.loop-n.n < length trees = omega (arith, c.loop-n-test.true, c.len-n-end.ensures.len) in
    let is = c.in-Some.ensures.split trees facts in
    cases_told sorts trees b (tree_at trees c.loop-n.n) (c.len-n-end.ensures.sorted c.loop-n.n inside) (numbered c.in-Some.first)
    (numbered c.in-Some.second) c.by_cases.result is c.by_cases.ensures
    ∙ term_here sorts trees (index_split b) trees c.loop-n.n (Lit (pos 0)) inside (c.loop-n.invariant facts)
    (c.in-Some.first, c.in-Some.second) is

pub returns-in-Some-clause-within : goal.returns-in-Some-clause-within
returns-in-Some-clause-within g c =
    let trees = trees_in c.args.table.now in
    let sorts = sorts_in c.args.table.now in
    let b = seen_in sorts trees trees [] (g.S.Sees.equal c.args.sees.now) (g.S.Sees.apart c.args.sees.now) in
    let inside : c.loop-n.n < length trees = omega (arith, c.loop-n-test.true, c.len-n-end.ensures.len) in
    let within = c.in-Some.ensures.within in
    cases_within sorts trees b (tree_at trees c.loop-n.n) (c.len-n-end.ensures.sorted c.loop-n.n inside) (numbered c.in-Some.first)
    (numbered c.in-Some.second) c.by_cases.result (c.in-Some.ensures.split trees []) c.by_cases.ensures (length trees) within.0 within.1

pub returns-in-Some-clause-line : goal.returns-in-Some-clause-line
returns-in-Some-clause-line g c =
    let trees = trees_in c.args.table.now in
    let sorts = sorts_in c.args.table.now in
    let b = seen_in sorts trees trees [] (g.S.Sees.equal c.args.sees.now) (g.S.Sees.apart c.args.sees.now) in
    let inside : c.loop-n.n < length trees = omega (arith, c.loop-n-test.true, c.len-n-end.ensures.len) in
    cases_line sorts trees b (tree_at trees c.loop-n.n) (c.len-n-end.ensures.sorted c.loop-n.n inside) (numbered c.in-Some.first)
    (numbered c.in-Some.second) c.by_cases.result (c.in-Some.ensures.split trees []) c.by_cases.ensures

pub loop-n-preserved : goal.loop-n-preserved
loop-n-preserved g c = λ facts.
    let trees = trees_in c.args.table.now in
    let sorts = sorts_in c.args.table.now in
    let b = seen_in sorts trees trees facts (g.S.Sees.equal c.args.sees.now) (g.S.Sees.apart c.args.sees.now) in
    let inside : c.loop-n.n < length trees = omega (arith, c.loop-n-test.true, c.len-n-end.ensures.len) in
    term_next sorts trees (index_split b) trees c.loop-n.n (Lit (pos 0)) inside (c.loop-n.invariant facts) c.index_split.result
    (c.index_split.ensures.split trees facts) c.in_default.not-Some

pub returns-clause-split : goal.returns-clause-split
returns-clause-split g c = λ facts.
    let trees = trees_in c.args.table.now in
    let b = seen_in (sorts_in c.args.table.now) trees trees facts (g.S.Sees.equal c.args.sees.now) (g.S.Sees.apart c.args.sees.now) in
    let past : length trees ≤ c.loop-n.n = omega (arith, c.loop-n-test.false, c.len-n-end.ensures.len) in
    terms_end (index_split b) trees c.loop-n.n past (c.loop-n.invariant facts)
