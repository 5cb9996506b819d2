use Rattle.sm_trim.proofs.Imports.{◌≡◌, ◌∙◌, ℕ, suc, List, refl, ap, sym, arith, CertificateLine, moved_line, line_in, Certificate, Split, lines_before, certificate_in, tree_split, LeftLine, LeftTree, LeftSplit, new_number, numbered_on, closed_up, left_before, pruned_in}
use Rattle.sm_trim.proofs.TreesLemmas.{left_split}
use Rattle.sm_trim.proofs.closing.+closed_up.Goals as goal

pub returns-in_ok-two-in-Split-clause-closed : goal.returns-in_ok-two-in-Split-clause-closed
returns-in_ok-two-in-Split-clause-closed t c = λ trees.
    let old = c.args.moved.now.items in
    let left = c.in-Split.left in
    let line = line_in trees left.line in
    let p = pruned_in trees c.in-Split.first.value in
    let q = pruned_in trees c.in-Split.second.value in
    let end = LeftSplit left.before line p q in
    let out = c.in_ok-closing.closing.lines.list.items in
    let to = c.in_ok-closing.closing.to in
    let moved = c.close_lines.new.moved.items in
    let more = numbered_on moved left.before to 1 in
    let m = c.in_ok-line-in-Split.line in
    let next_is : c.in_ok-next-in-Split.next ≡ suc to = omega (arith, c.in_ok-next-in-Split.ensures) in
    let line_is : line_in trees m ≡ moved_line (new_number moved) line =
    c.in_ok-line-in-Split.ensures trees ∙ ap (λ (ns : List ℕ). moved_line (new_number ns) line) c.deref-in-Split.ensures.value in
    let first_is : certificate_in trees c.in_ok-one-in-Split.one.value ≡ closed_up more (suc to) p =
    ap (certificate_in trees) c.in_ok-one-in-Split.ensures.ok ∙ c.in_ok-closed_up-in-Split.ensures.closed trees
    ∙ ap (λ (ns : List ℕ). closed_up ns c.in_ok-next-in-Split.next (pruned_in trees c.deref-in-Split-2.result.now))
    c.in_ok-number_on-in-Split.ensures
    ∙ ap (λ (n : ℕ). closed_up more n (pruned_in trees c.deref-in-Split-2.result.now)) next_is
    ∙ ap (λ (u : LeftTree). closed_up more (suc to) (pruned_in trees u)) c.deref-in-Split-2.ensures in
    let second_is : certificate_in trees c.in_ok-two-in-Split.two.value ≡ closed_up more (suc to) q =
    ap (certificate_in trees) c.in_ok-two-in-Split.ensures.ok ∙ c.in_ok-closed_up-in-Split-2.ensures.closed trees
    ∙ ap (λ (ns : List ℕ). closed_up ns c.in_ok-next-in-Split.next (pruned_in trees c.deref-in-Split-3.result.now))
    (c.in_ok-closed_up-in-Split.ensures.kept ∙ c.in_ok-number_on-in-Split.ensures)
    ∙ ap (λ (n : ℕ). closed_up more n (pruned_in trees c.deref-in-Split-3.result.now)) next_is
    ∙ ap (λ (u : LeftTree). closed_up more (suc to) (pruned_in trees u)) c.deref-in-Split-3.ensures in
    tree_split trees _ m c.in_ok-one-in-Split.one c.in_ok-two-in-Split.two refl
    ∙ ap (λ (k : CertificateLine). lines_before trees out (Split k (certificate_in trees c.in_ok-one-in-Split.one.value)
    (certificate_in trees c.in_ok-two-in-Split.two.value))) line_is
    ∙ ap (λ (d : Certificate). lines_before trees out (Split (moved_line (new_number moved) line) d
    (certificate_in trees c.in_ok-two-in-Split.two.value))) first_is
    ∙ ap (λ (d : Certificate). lines_before trees out (Split (moved_line (new_number moved) line) (closed_up more (suc to) p) d)) second_is
    ∙ sym (c.in_ok-closing.ensures.closed trees end)
    ∙ ap (λ (ls : List LeftLine). closed_up old c.args.to (left_before trees ls end)) c.deref.ensures.value
    ∙ ap (closed_up old c.args.to) (sym (left_split trees c.args.tree.now left c.in-Split.first c.in-Split.second c.in-Split.is))
