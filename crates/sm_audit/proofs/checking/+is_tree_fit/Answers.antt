-- The lines of a certificate are its own, the last one, and those of its parts.
use Rattle.sm_audit.proofs.Imports.{subst, OnTrue_at, OnTrue_from, IsTreeFit, AreLinesFit}
use Rattle.sm_audit.proofs.FitLemmas.{closed_fit, split_fit}
use Rattle.sm_audit.proofs.checking.+is_tree_fit.Goals as goal

pub returns-in-Close : goal.returns-in-Close
returns-in-Close t c =
    let since = c.args.since.now in
    let own = subst (AreLinesFit since c.args.node) c.as_slice.ensures.value (OnTrue_at c.if-not-are_lines_fit.false c.are_lines_fit.ensures) in
    OnTrue_from _ _
    (λ good. closed_fit since c.args.node c.args.tree.now c.in-Close.line c.in-Close.is own (OnTrue_at good c.is_line_fit.ensures))

pub returns-else-not-is_tree_fit : goal.returns-else-not-is_tree_fit
returns-else-not-is_tree_fit t c =
    let since = c.args.since.now in
    let fits = IsTreeFit since c.args.node in
    let own = subst (AreLinesFit since c.args.node) c.as_slice.ensures.value (OnTrue_at c.if-not-are_lines_fit.false c.are_lines_fit.ensures) in
    let last = OnTrue_at c.if-not-is_line_fit.false c.is_line_fit-in-Split.ensures in
    let first = subst fits c.deref.ensures (OnTrue_at c.if-not-is_tree_fit.false c.is_tree_fit.ensures) in
    OnTrue_from _ _
    (λ good. split_fit since c.args.node c.args.tree.now c.in-Split.line c.in-Split.first c.in-Split.second c.in-Split.is own last first
    (subst fits c.deref-in-Split.ensures (OnTrue_at good c.is_tree_fit-in-Split.ensures)))
