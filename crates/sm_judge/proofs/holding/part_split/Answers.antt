-- A disjunction that isn't held is split, and nothing else.
use Rattle.sm_judge.proofs.Imports.{◌∙◌, sym, trees_in, sorts_in, numbered, seen_in}
use Rattle.sm_judge.proofs.SplitLemmas.{part_of, other_part, held_part}
use Rattle.sm_judge.proofs.holding.part_split.Goals as goal

pub returns-then-is_held-clause-split : goal.returns-then-is_held-clause-split
returns-then-is_held-clause-split g c = λ terms.
    let sorts = sorts_in c.args.table.now in
    let trees = trees_in c.args.table.now in
    let b = seen_in sorts trees terms c.args.facts.now (g.S.Sees.equal c.args.sees.now) (g.S.Sees.apart c.args.sees.now) in
    held_part b sorts trees (numbered c.args.f.now) (sym (c.is_held.ensures terms) ∙ c.if-is_held.true)

pub returns-then-is_disjunction-clause-split : goal.returns-then-is_disjunction-clause-split
returns-then-is_disjunction-clause-split g c = λ terms.
    let sorts = sorts_in c.args.table.now in
    let trees = trees_in c.args.table.now in
    let b = seen_in sorts trees terms c.args.facts.now (g.S.Sees.equal c.args.sees.now) (g.S.Sees.apart c.args.sees.now) in
    part_of b sorts trees (numbered c.args.f.now) c.in_ok-split.split (sym c.is_disjunction.ensures ∙ c.if-is_disjunction.true)
    (sym (c.is_held.ensures terms) ∙ c.if-is_held.false) c.in_ok-split.ensures

pub returns-clause-split : goal.returns-clause-split
returns-clause-split g c = λ terms.
    let sorts = sorts_in c.args.table.now in
    let trees = trees_in c.args.table.now in
    let b = seen_in sorts trees terms c.args.facts.now (g.S.Sees.equal c.args.sees.now) (g.S.Sees.apart c.args.sees.now) in
    other_part b sorts trees (numbered c.args.f.now) (sym c.is_disjunction.ensures ∙ c.if-is_disjunction.false)
