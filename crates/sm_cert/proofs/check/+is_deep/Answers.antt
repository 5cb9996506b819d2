use Rattle.sm_cert.proofs.Imports.{◌≡◌, ◌-◌, nat_lt, true, false, length, sym, ap, ◌∙◌, subst, splits_above, certificate_in, lines_of, AreLinesWithin, CertTree, IsCertificateSorted}
use Rattle.sm_cert.proofs.NamedLemmas.{closed_sorted, split_sorted}
use Rattle.sm_cert.proofs.TreeLemmas.{split_within}
use Rattle.sm_cert.proofs.CheckLemmas.{split_depth, closed_depth, none_allowed, none_deep, first_deep, second_deep}
use Rattle.sm_cert.proofs.check.+is_deep.Goals as goal

pub returns-in-Close-clause-deep : goal.returns-in-Close-clause-deep
returns-in-Close-clause-deep t c =
    λ trees. none_deep c.args.allowed
    ∙ ap (nat_lt c.args.allowed) (sym (closed_depth trees c.args.tree.now c.in-Close.field-0 c.in-Close.is))

pub returns-then-allowed-eq0-clause-deep : goal.returns-then-allowed-eq0-clause-deep
returns-then-allowed-eq0-clause-deep t c = λ trees.
    sym (none_allowed c.args.allowed _ c.if-allowed-eq0.true) ∙
    ap (nat_lt c.args.allowed) (sym (split_depth trees c.args.tree.now c.in-Split.field-0 c.in-Split.first c.in-Split.second c.in-Split.is))

pub returns-then-is_deep-clause-deep : goal.returns-then-is_deep-clause-deep
returns-then-is_deep-clause-deep t c = λ trees.
    let deep : nat_lt (c.args.allowed - 1) (splits_above (certificate_in trees c.in-Split.first.value)) ≡ true =
    ap (λ (tree : CertTree). nat_lt (c.args.allowed - 1) (splits_above (certificate_in trees tree))) (sym c.deref.ensures)
    ∙ sym (c.is_deep.ensures.deep trees) ∙ c.if-is_deep.true in
    sym (first_deep c.args.allowed (splits_above (certificate_in trees c.in-Split.first.value))
    (splits_above (certificate_in trees c.in-Split.second.value)) c.if-allowed-eq0.false deep) ∙
    ap (nat_lt c.args.allowed) (sym (split_depth trees c.args.tree.now c.in-Split.field-0 c.in-Split.first c.in-Split.second c.in-Split.is))

pub returns-else-is_deep-clause-deep : goal.returns-else-is_deep-clause-deep
returns-else-is_deep-clause-deep t c = λ trees.
    let flat : nat_lt (c.args.allowed - 1) (splits_above (certificate_in trees c.in-Split.first.value)) ≡ false =
    ap (λ (tree : CertTree). nat_lt (c.args.allowed - 1) (splits_above (certificate_in trees tree))) (sym c.deref.ensures)
    ∙ sym (c.is_deep.ensures.deep trees) ∙ c.if-is_deep.false in
    c.is_deep-in-Split.ensures.deep trees ∙
    ap (λ (tree : CertTree). nat_lt (c.args.allowed - 1) (splits_above (certificate_in trees tree))) c.deref-in-Split.ensures ∙
    second_deep c.args.allowed (splits_above (certificate_in trees c.in-Split.first.value))
    (splits_above (certificate_in trees c.in-Split.second.value)) c.if-allowed-eq0.false flat ∙
    ap (nat_lt c.args.allowed) (sym (split_depth trees c.args.tree.now c.in-Split.field-0 c.in-Split.first c.in-Split.second c.in-Split.is))

pub returns-in-Close-clause-named : goal.returns-in-Close-clause-named
returns-in-Close-clause-named t c =
    λ flat sorts trees all within. closed_sorted sorts trees c.args.tree.now c.in-Close.field-0 c.in-Close.is all within

pub returns-else-is_deep-clause-named : goal.returns-else-is_deep-clause-named
returns-else-is_deep-clause-named t c = λ flat sorts trees all within.
    let parts = split_within (length trees) c.args.tree.now c.in-Split.field-0 c.in-Split.first c.in-Split.second c.in-Split.is within in
    let good = λ (tree : CertTree). IsCertificateSorted sorts (certificate_in trees tree) in
    let inside = λ (tree : CertTree). AreLinesWithin (length trees) (lines_of tree) in
    let first = subst good c.deref.ensures
    (c.is_deep.ensures.named c.if-is_deep.false sorts trees all (subst inside (sym c.deref.ensures) parts.1)) in
    let second = subst good c.deref-in-Split.ensures
    (c.is_deep-in-Split.ensures.named flat sorts trees all (subst inside (sym c.deref-in-Split.ensures) parts.2)) in
    split_sorted sorts trees c.args.tree.now c.in-Split.field-0 c.in-Split.first c.in-Split.second c.in-Split.is all within first second
