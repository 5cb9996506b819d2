-- The lines of a certificate are its own, the last one, and those of its parts.
use Rattle.calls.proofs.Imports.{length, subst, OnTrue_at, OnTrue_from, trees_in, lines_of, AreLinesWithin, CertTree}
use Rattle.calls.proofs.WithinLemmas.{closed_within, split_within}
use Rattle.calls.proofs.certificate.+is_tree_within.Goals as goal

pub returns-in-Close : goal.returns-in-Close
returns-in-Close t c =
    let n = length (trees_in c.args.scene.now.table) in
    let own = subst (AreLinesWithin n) c.deref.ensures.value (OnTrue_at c.if-not-are_lines_within.false c.are_lines_within.ensures) in
    OnTrue_from _ _ (λ good. closed_within n c.args.tree.now c.in-Close.line c.in-Close.is own (OnTrue_at good c.is_line_within.ensures))

pub returns-else-not-is_tree_within : goal.returns-else-not-is_tree_within
returns-else-not-is_tree_within t c =
    let n = length (trees_in c.args.scene.now.table) in
    let inside = λ (tree : CertTree). AreLinesWithin n (lines_of tree) in
    let own = subst (AreLinesWithin n) c.deref.ensures.value (OnTrue_at c.if-not-are_lines_within.false c.are_lines_within.ensures) in
    let last = OnTrue_at c.if-not-is_line_within.false c.is_line_within-in-Split.ensures in
    let first = subst inside c.deref-in-Split.ensures (OnTrue_at c.if-not-is_tree_within.false c.is_tree_within.ensures) in
    OnTrue_from _ _
    (λ good. split_within n c.args.tree.now c.in-Split.line c.in-Split.first c.in-Split.second c.in-Split.is own last first
    (subst inside c.deref-in-Split-2.ensures (OnTrue_at good c.is_tree_within-in-Split.ensures)))
