use Rattle.sm_trim.proofs.Imports.{◌∙◌, sym, ap, line_in, Pruned, LeftSplit, needs, pruned_in}
use Rattle.sm_trim.proofs.TreesLemmas.{first_in_place, second_in_place, both_in_place}
use Rattle.sm_trim.proofs.pruning.split.Goals as goal

pub returns-then-not-take_mark : goal.returns-then-not-take_mark
returns-then-not-take_mark c = λ trees p q first second.
    let t = c.take_mark.ensures c.args.at (needs p) first.marks in
    first_in_place trees c.args.at (line_in trees c.args.line.now) p q _ (sym c.if-not-take_mark.true ∙ t.0)
    (record { tree = first.tree; marks = t.1 })

pub returns-then-not-take_mark-2 : goal.returns-then-not-take_mark-2
returns-then-not-take_mark-2 c = λ trees p q first second.
    let t = c.take_mark.ensures c.args.at (needs p) first.marks in
    let u = c.take_mark-2.ensures c.args.at (needs q) second.marks in
    second_in_place trees c.args.at (line_in trees c.args.line.now) p q _ (sym c.if-not-take_mark.false ∙ t.0)
    (sym c.if-not-take_mark-2.true ∙ u.0) (record { tree = second.tree; marks = u.1 })

pub returns : goal.returns
returns c = λ trees p q first second.
    let t = c.take_mark.ensures c.args.at (needs p) first.marks in
    let u = c.take_mark-2.ensures c.args.at (needs q) second.marks in
    let line = line_in trees c.args.line.now in
    both_in_place trees c.args.at line p q _ c.in_ok-marks.marks (sym c.if-not-take_mark.false ∙ t.0)
    (sym c.if-not-take_mark-2.false ∙ u.0)
    (c.in_ok-tree.ensures trees
    ∙ ap (λ (one : Pruned). LeftSplit c.args.at line one (pruned_in trees c.args.second.tree)) first.tree
    ∙ ap (LeftSplit c.args.at line p) second.tree)
    (c.in_ok-marks.ensures c.args.at (needs p) (needs q) t.1 u.1) (c.in_ok-mark_line.ensures trees)
