-- By elements, else by disjunctions, else by contraries.
use Rattle.sm_judge.proofs.Imports.{◌≡◌, ◌∙◌, Some, List, sym, ap, subst, Formula, trees_in, sorts_in, or_other, first_of, index_split, part_split, order_split, all_numbered, assertions_in, seen_in, split_told}
use Rattle.sm_judge.proofs.FirstLemmas.{first_wins, second_wins}
use Rattle.sm_judge.proofs.closing.split_of.Goals as goal

pub returns-in-Some-clause-split : goal.returns-in-Some-clause-split
returns-in-Some-clause-split g c =
    let sorts = sorts_in c.args.table.now in
    let trees = trees_in c.args.table.now in
    let facts = c.args.facts.now in
    let b = seen_in sorts trees trees facts (g.S.Sees.equal c.args.sees.now) (g.S.Sees.apart c.args.sees.now) in
    let one = first_of (index_split b) b.terms in
    let two = first_of (part_split b) b.facts in
    let three = first_of (order_split b) b.facts in
    first_wins sorts trees c.in-Some.split one (or_other two three) (c.in-Some.ensures.split facts)

pub returns-in-Some-2-clause-split : goal.returns-in-Some-2-clause-split
returns-in-Some-2-clause-split g c =
    let sorts = sorts_in c.args.table.now in
    let trees = trees_in c.args.table.now in
    let facts = c.args.facts.now in
    let equal = g.S.Sees.equal c.args.sees.now in
    let apart = g.S.Sees.apart c.args.sees.now in
    let b = seen_in sorts trees trees facts equal apart in
    let one = first_of (index_split b) b.terms in
    let two = first_of (part_split b) b.facts in
    let three = first_of (order_split b) b.facts in
    let split = c.in-Some-2.split in
    let is : split_told sorts trees c.in_ok-split.field-0 ≡ two =
    subst (λ (fs : List Formula). split_told sorts trees c.in_ok-split.field-0
    ≡ first_of (part_split (seen_in sorts trees trees fs equal apart)) (assertions_in sorts trees (all_numbered fs)))
    c.in_ok-keyed.ensures (c.in_ok-split.ensures.split trees) in
    second_wins sorts trees c.first_index_split.result one (or_other two three) (split_told sorts trees (Some split))
    (c.first_index_split.ensures.split facts) c.in_default.not-Some
    (first_wins sorts trees split two three (sym (ap (split_told sorts trees) c.in-Some-2.is) ∙ is))

pub returns-clause-split : goal.returns-clause-split
returns-clause-split g c =
    let sorts = sorts_in c.args.table.now in
    let trees = trees_in c.args.table.now in
    let facts = c.args.facts.now in
    let equal = g.S.Sees.equal c.args.sees.now in
    let apart = g.S.Sees.apart c.args.sees.now in
    let b = seen_in sorts trees trees facts equal apart in
    let one = first_of (index_split b) b.terms in
    let two = first_of (part_split b) b.facts in
    let three = first_of (order_split b) b.facts in
    let split = split_told sorts trees c.first_order_split.result in
    let is : split_told sorts trees c.in_ok-split.field-0 ≡ two =
    subst (λ (fs : List Formula). split_told sorts trees c.in_ok-split.field-0
    ≡ first_of (part_split (seen_in sorts trees trees fs equal apart)) (assertions_in sorts trees (all_numbered fs)))
    c.in_ok-keyed.ensures (c.in_ok-split.ensures.split trees) in
    let last : split ≡ three =
    subst (λ (fs : List Formula). split
    ≡ first_of (order_split (seen_in sorts trees trees fs equal apart)) (assertions_in sorts trees (all_numbered fs)))
    c.in_ok-keyed.ensures (c.first_order_split.ensures.split trees equal apart) in
    second_wins sorts trees c.first_index_split.result one (or_other two three) split
    (c.first_index_split.ensures.split facts) c.in_default.not-Some
    (second_wins sorts trees c.in_ok-split.field-0 two three split is c.in_default-2.not-Some last)
