-- By the forms, then by the sort.
use Rattle.sm_judge.proofs.Imports.{◌∙◌, trees_in, sorts_in, tree_at, linear_of}
use Rattle.sm_judge.proofs.TornLemmas.{sort_decides, forms_decide, form_at}
use Rattle.sm_judge.proofs.torn.is_partner.Goals as goal

pub returns-then-do_differ : goal.returns-then-do_differ
returns-then-do_differ c =
    let trees = trees_in c.args.table.now in
    let t = tree_at trees c.args.t.0 in
    let u = tree_at trees c.args.u.0 in
    let kept = form_at trees c.args.forms.now c.args.u.0 c.index-forms-u.result c.requires.forms c.requires.right c.index-forms-u.is in
    c.is_numeric.ensures
    ∙ sort_decides (sorts_in c.args.table.now) t u c.requires.number c.do_differ.result
    (c.do_differ.ensures trees (linear_of t) (linear_of u) c.requires.form kept) c.if-do_differ.true

pub returns-else-do_differ : goal.returns-else-do_differ
returns-else-do_differ c =
    let trees = trees_in c.args.table.now in
    let t = tree_at trees c.args.t.0 in
    let u = tree_at trees c.args.u.0 in
    let kept = form_at trees c.args.forms.now c.args.u.0 c.index-forms-u.result c.requires.forms c.requires.right c.index-forms-u.is in
    forms_decide (sorts_in c.args.table.now) t u c.requires.number c.do_differ.result
    (c.do_differ.ensures trees (linear_of t) (linear_of u) c.requires.form kept) c.if-do_differ.false
