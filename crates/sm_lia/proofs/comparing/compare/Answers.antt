-- Both are numbers.
use Rattle.sm_lia.proofs.Imports.{sym, ◌∙◌, trees_in, sorts_in, tree_at, linear_of}
use Rattle.sm_lia.proofs.ComparingLemmas.{both_numbers}
use Rattle.sm_lia.proofs.comparing.compare.Goals as goal

pub returns : goal.returns
returns c =
    let trees = trees_in c.args.table.now in
    let first = tree_at trees c.args.t.0 in
    let second = tree_at trees c.args.u.0 in
    both_numbers (sorts_in c.args.table.now) first second c.compare_forms.result
    (sym c.is_numeric.ensures ∙ c.if-not-is_numeric.false)
    (sym c.is_numeric-else-not-is_numeric.ensures ∙ c.if-not-is_numeric-2.false)
    (c.compare_forms.ensures trees (linear_of first) (linear_of second) c.in_ok-f.ensures c.in_ok-g.ensures)
