use Rattle.sm_trim.proofs.Imports.{◌≡◌, ◌∙◌, ℕ, suc, List, IfOk, ap, sym, subst, arith, line_in, CertLine, Certificate, Split, lines_before, certificate_in, CertTree, tree_split, pruned, facts_past, Leaves}
use Rattle.sm_trim.proofs.pruning.+pruned.Goals as goal

pub returns-in_ok-below-in-Split : goal.returns-in_ok-below-in-Split
returns-in_ok-below-in-Split t c = λ trees.
    let at = c.args.at in
    let line = c.in-Split.line in
    let first = certificate_in trees c.in-Split.first.value in
    let second = certificate_in trees c.in-Split.second.value in
    let rest = Split (line_in trees line) first second in
    let ls = c.deref-in-Split-3.result.now in
    let past = c.in_ok-past.past in
    let next = c.in_ok-next-in-Split.next in
    let past_is : past ≡ facts_past trees at ls =
    c.in_ok-past.ensures trees ∙ ap (facts_past trees at) (c.deref.ensures.value ∙ sym c.deref-in-Split-3.ensures.value) in
    let next_is : next ≡ suc past = omega (arith, c.in_ok-next-in-Split.ensures) in
    let one : Leaves trees (suc past) (pruned (suc past) first) c.in_ok-one-in-Split.one =
    subst (λ (n : ℕ). Leaves trees n (pruned n first) c.in_ok-one-in-Split.one) next_is
    (subst (λ (d : CertTree). Leaves trees next (pruned next (certificate_in trees d)) c.in_ok-one-in-Split.one)
    c.deref-in-Split.ensures (c.in_ok-one-in-Split.ensures trees)) in
    let two : Leaves trees (suc past) (pruned (suc past) second) c.in_ok-two-in-Split.two =
    subst (λ (n : ℕ). Leaves trees n (pruned n second) c.in_ok-two-in-Split.two) next_is
    (subst (λ (d : CertTree). Leaves trees next (pruned next (certificate_in trees d)) c.in_ok-two-in-Split.two)
    c.deref-in-Split-2.ensures (c.in_ok-two-in-Split.ensures trees)) in
    let below : Leaves trees past (pruned past rest) c.in_ok-below-in-Split.below =
    c.in_ok-below-in-Split.ensures trees (pruned (suc past) first) (pruned (suc past) second) one two in
    let whole : certificate_in trees c.args.tree.now ≡ lines_before trees ls rest =
    tree_split trees c.args.tree.now line c.in-Split.first c.in-Split.second c.in-Split.is
    ∙ ap (λ (lines : List CertLine). lines_before trees lines rest) (sym c.deref-in-Split-3.ensures.value) in
    subst (λ (d : Certificate). IfOk c.prune_lines-in-Split.result (Leaves trees at (pruned at d))) (sym whole)
    (c.prune_lines-in-Split.ensures trees at rest
    (subst (λ (n : ℕ). Leaves trees n (pruned n rest) c.in_ok-below-in-Split.below) past_is below))
