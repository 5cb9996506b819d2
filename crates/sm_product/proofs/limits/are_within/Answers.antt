-- Both limits.
use Rattle.sm_product.proofs.Imports.{nat_le, Bool, ◌&&◌, sym, ap, ◌∙◌, dues_in, facts_in}
use Rattle.sm_product.proofs.SizesLemmas.{within_is}
use Rattle.sm_product.proofs.limits.are_within.Goals as goal

pub returns-then-are_few_goals : goal.returns-then-are_few_goals
returns-then-are_few_goals c = λ sorts trees.
    let ds = dues_in sorts trees c.args.dues.now in
    within_is c.args.nodes ds c.are_few_facts.result
    (c.are_few_facts.ensures sorts trees
    ∙ ap (λ (b : Bool). b && nat_le (facts_in ds) 10000000)
    (sym (sym (c.are_few_goals.ensures sorts trees) ∙ c.if-are_few_goals.true)))

pub returns-else-are_few_goals : goal.returns-else-are_few_goals
returns-else-are_few_goals c = λ sorts trees.
    let ds = dues_in sorts trees c.args.dues.now in
    within_is c.args.nodes ds c.are_few_goals.result
    (c.if-are_few_goals.false
    ∙ ap (λ (b : Bool). b && nat_le (facts_in ds) 10000000)
    (sym (sym (c.are_few_goals.ensures sorts trees) ∙ c.if-are_few_goals.false)))
