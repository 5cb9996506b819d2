-- Not too many branching nodes.
use Rattle.sm_check.proofs.Imports.{sym, ◌∙◌, inl, inr, node_with}
use Rattle.sm_check.proofs.NodesLemmas.{above_told}
use Rattle.sm_check.proofs.nodes.above_it.Goals as goal
use Rattle.sm_check.proofs.nodes.above_it.Goals.{then-is_branching, else-is_branching}

pub returns-then-over-le1000 : goal.returns-then-over-le1000
returns-then-over-le1000 c = λ f.
    (above_told (node_with f c.args.line.now) c.args.above c.if-is_branching.over
    (elim c.if-is_branching.branch [
      | then-is_branching w ↦ inl (sym (c.is_branching.ensures f) ∙ w.if-is_branching.true, w.over-is ∙ w.saturating_add-over.ensures)
      | else-is_branching w ↦ inr (sym (c.is_branching.ensures f) ∙ w.if-is_branching.false, w.over-is)
    ])).0
    c.if-over-le1000.true

pub returns-else-over-le1000 : goal.returns-else-over-le1000
returns-else-over-le1000 c = λ f.
    (above_told (node_with f c.args.line.now) c.args.above c.if-is_branching.over
    (elim c.if-is_branching.branch [
      | then-is_branching w ↦ inl (sym (c.is_branching.ensures f) ∙ w.if-is_branching.true, w.over-is ∙ w.saturating_add-over.ensures)
      | else-is_branching w ↦ inr (sym (c.is_branching.ensures f) ∙ w.if-is_branching.false, w.over-is)
    ])).1
    c.if-over-le1000.false
