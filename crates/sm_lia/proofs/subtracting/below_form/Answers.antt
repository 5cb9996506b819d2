-- Both sides are in the table.
use Rattle.sm_num.specs.declared.kind.Kind.TheVariants as kind
use Rattle.sm_lia.proofs.Imports.{then_with, trees_in, sorts_in, tree_at, difference, one_more}
use Rattle.sm_lia.proofs.subtracting.below_form.Goals as goal

pub returns : goal.returns
returns c = λ left right.
    let trees = trees_in c.args.table.now in
    c.fact_of.ensures (sorts_in c.args.table.now) trees
    (then_with (difference (tree_at trees c.args.t.0) (tree_at trees c.args.u.0) kind.Le) one_more)
    c.strict_difference.ensures
