-- The lines of a certificate, and then what its last line leaves.
use Rattle.sm_write.proofs.Imports.{rules, ◌≡◌, ◌<◌, List, [], ◌∷◌, length, ap, sym, subst, ◌∙◌, arith, OnOk, trees_in, line_in, CertLine, Certificate, Closed, Split, lines_before, certificate_in, lines_of, AreLinesWithin, CertTree, tree_closed, tree_split, lines_closed, within_parts, ClosesBranch, value_of}
use Rattle.sm_cert.proofs.TreeLemmas.{own_within, split_within, first_within, second_within, first_fewer, second_fewer}
use Rattle.sm_write.proofs.SteppedLemmas.{WritesLine, closed_branch, split_branch, on_ok, writes_ok}
use Rattle.sm_write.proofs.trees.+tree.Goals as goal

pub write_lines-requires : goal.write_lines-requires
write_lines-requires t c =
    subst (AreLinesWithin (length (trees_in c.args.table.now))) (sym c.as_slice.ensures.value)
    (own_within (length (trees_in c.args.table.now)) c.args.tree.now c.requires)

pub write_line-requires : goal.write_line-requires
write_line-requires t c =
    let n = length (trees_in c.args.table.now) in
    let tree = c.args.tree.now in
    (within_parts n tree.lines.list.items (c.in-Close.line ∷ [])
    (subst (AreLinesWithin n) (lines_closed tree c.in-Close.line c.in-Close.is) c.requires)).1.0

pub write_line-requires-in-Split : goal.write_line-requires-in-Split
write_line-requires-in-Split t c =
    (split_within (length (trees_in c.args.table.now)) c.args.tree.now c.in-Split.line c.in-Split.first c.in-Split.second c.in-Split.is
    c.requires).0

pub write_tree-requires : goal.write_tree-requires
write_tree-requires t c =
    let n = length (trees_in c.args.table.now) in
    let side : AreLinesWithin n (lines_of c.deref.result.now) =
    first_within n c.args.tree.now c.in-Split.line c.in-Split.first c.in-Split.second c.deref.result.now c.in-Split.is c.deref.ensures
    c.requires in
    let fewer : length (lines_of c.deref.result.now) < length (lines_of c.args.tree.now) =
    first_fewer c.args.tree.now c.in-Split.line c.in-Split.first c.in-Split.second c.deref.result.now c.in-Split.is c.deref.ensures in
    let whole : length (lines_of c.args.tree.now) ≡ t = c.decreases in
    let less : length (lines_of c.deref.result.now) < t = omega arith in
    (less, search (rules, side))

pub write_tree-requires-in-Split : goal.write_tree-requires-in-Split
write_tree-requires-in-Split t c =
    let n = length (trees_in c.args.table.now) in
    let side : AreLinesWithin n (lines_of c.deref-in-Split.result.now) =
    second_within n c.args.tree.now c.in-Split.line c.in-Split.first c.in-Split.second c.deref-in-Split.result.now c.in-Split.is
    c.deref-in-Split.ensures c.requires in
    let fewer : length (lines_of c.deref-in-Split.result.now) < length (lines_of c.args.tree.now) =
    second_fewer c.args.tree.now c.in-Split.line c.in-Split.first c.in-Split.second c.deref-in-Split.result.now c.in-Split.is
    c.deref-in-Split.ensures in
    let whole : length (lines_of c.args.tree.now) ≡ t = c.decreases in
    let less : length (lines_of c.deref-in-Split.result.now) < t = omega arith in
    (less, search (rules, side))

pub returns-in-Close : goal.returns-in-Close
returns-in-Close t c =
    let v = c.args.table.now in
    let trees = trees_in v in
    let tree = c.args.tree.now in
    let l = c.in-Close.line in
    let old = value_of c.args.w.now in
    let mid = value_of c.write_lines.new.w in
    let new = value_of c.write_line.new.w in
    let whole : certificate_in trees tree ≡ lines_before trees c.as_slice.result.now (Closed (line_in trees l)) =
    tree_closed trees tree l c.in-Close.is
    ∙ ap (λ (lines : List CertLine). lines_before trees lines (Closed (line_in trees l))) (sym c.as_slice.ensures.value) in
    subst (λ (d : Certificate). OnOk c.write_line.result (ClosesBranch v old new d)) (sym whole)
    (on_ok c.write_line.result (WritesLine v mid new l)
    (ClosesBranch v old new (lines_before trees c.as_slice.result.now (Closed (line_in trees l))))
    (λ (writes : WritesLine v mid new l). closed_branch v old mid new c.as_slice.result.now l c.in_ok-write_lines.ensures writes)
    (writes_ok c.write_line.result v mid new l c.write_line.ensures))

pub returns-in_ok-write_tree-in-Split : goal.returns-in_ok-write_tree-in-Split
returns-in_ok-write_tree-in-Split t c =
    let v = c.args.table.now in
    let trees = trees_in v in
    let tree = c.args.tree.now in
    let l = c.in-Split.line in
    let old = value_of c.args.w.now in
    let mid = value_of c.write_lines.new.w in
    let at = value_of c.write_line-in-Split.new.w in
    let one = value_of c.write_tree.new.w in
    let new = value_of c.write_tree-in-Split.new.w in
    let first = certificate_in trees c.in-Split.first.value in
    let second = certificate_in trees c.in-Split.second.value in
    let whole : certificate_in trees tree ≡ lines_before trees c.as_slice.result.now (Split (line_in trees l) first second) =
    tree_split trees tree l c.in-Split.first c.in-Split.second c.in-Split.is
    ∙ ap (λ (lines : List CertLine). lines_before trees lines (Split (line_in trees l) first second)) (sym c.as_slice.ensures.value) in
    let left : ClosesBranch v at one first =
    subst (λ (s : CertTree). ClosesBranch v at one (certificate_in trees s)) c.deref.ensures c.in_ok-write_tree-in-Split.ensures in
    let right = subst (λ (s : CertTree). OnOk c.write_tree-in-Split.result (ClosesBranch v one new (certificate_in trees s)))
    c.deref-in-Split.ensures c.write_tree-in-Split.ensures in
    subst (λ (d : Certificate). OnOk c.write_tree-in-Split.result (ClosesBranch v old new d)) (sym whole)
    (on_ok c.write_tree-in-Split.result (ClosesBranch v one new second)
    (ClosesBranch v old new (lines_before trees c.as_slice.result.now (Split (line_in trees l) first second)))
    (λ (closes : ClosesBranch v one new second).
    split_branch v old mid at one new c.as_slice.result.now l first second c.in_ok-write_lines.ensures c.in_ok-write_line-in-Split.ensures
    left closes)
    right)
