-- The terms of a certificate whose lines name terms of a table are sorted.
use Rattle.sm_cert.proofs.Imports.{◌≡◌, ℕ, List, [], ◌∷◌, ◌++◌, length, sym, subst, Box, Global, Sorts, Tree, AreTreesSorted, line_in, IsLineWithin, CertLine, Certificate, Closed, Split, IsCertificateSorted, lines_before, certificate_in, lines_of, AreLinesWithin, CertTree}
use Rattle.sm_cert.specs.declared.tree.CertEnd.TheVariants as ends
use Rattle.sm_cert.proofs.CheckLemmas.{tree_closed, tree_split, lines_closed, within_parts, line_sorted}
use Rattle.sm_cert.proofs.TreeLemmas.{own_within, split_within}

-- lines before a certificate
before_sorted : (sorts : Sorts) (trees : List Tree) (ls : List CertLine) (c : Certificate) → AreTreesSorted sorts trees →
    AreLinesWithin (length trees) ls →
    IsCertificateSorted sorts c → IsCertificateSorted sorts (lines_before trees ls c)
before_sorted sorts trees [] c all within good = good
before_sorted sorts trees (l ∷ ls) c all within good =
    (line_sorted sorts trees l all within.0, before_sorted sorts trees ls c all within.1 good)

-- a tree that a line closes
pub closed_sorted : (sorts : Sorts) (trees : List Tree) (t : CertTree) (l : CertLine) → t.last ≡ ends.Close l → AreTreesSorted sorts trees →
    AreLinesWithin (length trees) (lines_of t) → IsCertificateSorted sorts (certificate_in trees t)
closed_sorted sorts trees t l e all within =
    let parts = within_parts (length trees) t.lines.list.items (l ∷ [])
    (subst (λ (ls : List CertLine). AreLinesWithin (length trees) ls) (lines_closed t l e) within) in
    subst (λ (c : Certificate). IsCertificateSorted sorts c) (sym (tree_closed trees t l e))
    (before_sorted sorts trees t.lines.list.items (Closed (line_in trees l)) all parts.0 (line_sorted sorts trees l all parts.1.0))

-- a tree that a line splits
pub split_sorted : (sorts : Sorts) (trees : List Tree) (t : CertTree) (l : CertLine) (c d : Box CertTree Global) →
    t.last ≡ ends.Split l c d → AreTreesSorted sorts trees →
    AreLinesWithin (length trees) (lines_of t) → IsCertificateSorted sorts (certificate_in trees c.value) →
    IsCertificateSorted sorts (certificate_in trees d.value) →
    IsCertificateSorted sorts (certificate_in trees t)
split_sorted sorts trees t l c d e all within first second =
    subst (λ (k : Certificate). IsCertificateSorted sorts k) (sym (tree_split trees t l c d e))
    (before_sorted sorts trees t.lines.list.items (Split (line_in trees l) (certificate_in trees c.value) (certificate_in trees d.value))
    all (own_within (length trees) t within)
    (line_sorted sorts trees l all (split_within (length trees) t l c d e within).0, first, second))
