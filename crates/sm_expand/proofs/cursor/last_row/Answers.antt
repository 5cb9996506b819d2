-- A copy that is none, and the counts of a block.
use Rattle.sm_expand.proofs.Imports.{rules, ◌≡◌, None, ap, ◌∙◌, NumberedPlan, node_over, head, numbered_last}
use Rattle.sm_expand.proofs.PlanViews.{last_block}
use Rattle.sm_expand.proofs.RowsLemmas.{no_fork}
use Rattle.sm_expand.proofs.cursor.last_row.Goals as goal

pub returns-in_err-copy-in-Fork-clause-row : goal.returns-in_err-copy-in-Fork-clause-row
returns-in_err-copy-in-Fork-clause-row c = λ sorts trees.
    let none : c.from_residual.result ≡ None = search rules in
    no_fork sorts trees c.args.last.now c.in-Fork.copy c.in-Fork.yes c.in-Fork.no c.from_residual.result c.in-Fork.is
    c.in_err-copy-in-Fork.ensures none

pub returns-in-Block-clause-row : goal.returns-in-Block-clause-row
returns-in-Block-clause-row c = λ sorts trees.
    let b = c.in-Block in
    ap (λ (p : NumberedPlan). node_over sorts trees (head p))
    (ap numbered_last b.is ∙ last_block b.k0 b.k1 b.k2 b.k3 b.keep b.inner b.after)
