-- Not too many splits.
use Rattle.sm_check.proofs.Imports.{sym, ◌∙◌, inl, inr, numbered_line}
use Rattle.sm_check.proofs.CertTaken.{splits_told}
use Rattle.sm_check.proofs.branches.splits_over.Goals as goal
use Rattle.sm_check.proofs.branches.splits_over.Goals.{then-splits_branch, else-splits_branch}

pub returns-then-over-le1000 : goal.returns-then-over-le1000
returns-then-over-le1000 c =
    (splits_told (numbered_line c.args.line.now) c.args.splits c.if-splits_branch.over
    (elim c.if-splits_branch.branch [
      | then-splits_branch w ↦ inl (sym c.splits_branch.ensures ∙ w.if-splits_branch.true, w.over-is ∙ w.saturating_add-over.ensures)
      | else-splits_branch w ↦ inr (sym c.splits_branch.ensures ∙ w.if-splits_branch.false, w.over-is)
    ])).0
    c.if-over-le1000.true

pub returns-else-over-le1000 : goal.returns-else-over-le1000
returns-else-over-le1000 c =
    (splits_told (numbered_line c.args.line.now) c.args.splits c.if-splits_branch.over
    (elim c.if-splits_branch.branch [
      | then-splits_branch w ↦ inl (sym c.splits_branch.ensures ∙ w.if-splits_branch.true, w.over-is ∙ w.saturating_add-over.ensures)
      | else-splits_branch w ↦ inr (sym c.splits_branch.ensures ∙ w.if-splits_branch.false, w.over-is)
    ])).1
    c.if-over-le1000.false
