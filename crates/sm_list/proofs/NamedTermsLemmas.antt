-- A certificate whose lines are within a table names only terms of the table.
use Rattle.sm_list.proofs.Imports.{◌≡◌, ◌<◌, ℕ, List, [], ◌∷◌, length, sym, subst, slice_get-get_or, Box, Global, Tree, tree_at, EachNamed, line_in, numbered_line, IsLineWithin, CertLine, each_with, each_more, Certificate, Closed, Split, EachTerm, lines_before, certificate_in, lines_of, AreLinesWithin, CertTree, tree_closed, tree_split, lines_closed, within_parts, IsOneOf}
use Rattle.sm_cert.specs.declared.tree.CertEnd.TheVariants as ends
use Rattle.sm_cert.proofs.TreeLemmas.{own_within, split_within}
use Rattle.sm_pairs.proofs.AmongLemmas.{there_among}

-- the term with a number is one of them
one_at : (trees : List Tree) (n : ℕ) → n < length trees → IsOneOf trees (tree_at trees n)
one_at trees n h = there_among trees n (tree_at trees n) (slice_get-get_or trees n _ h)

-- the terms that a line names are among those of the table
line_names : (trees : List Tree) (l : CertLine) → IsLineWithin (length trees) l → EachNamed (IsOneOf trees) (line_in trees l)
line_names trees l h =
    each_with (IsOneOf trees) (tree_at trees) (numbered_line l)
    (each_more (λ (n : ℕ). n < length trees) (λ (n : ℕ). IsOneOf trees (tree_at trees n)) (numbered_line l) (one_at trees) h)

-- lines before a certificate
lines_name : (trees : List Tree) (ls : List CertLine) (c : Certificate) → AreLinesWithin (length trees) ls →
    EachTerm (IsOneOf trees) c → EachTerm (IsOneOf trees) (lines_before trees ls c)
lines_name trees [] c h named = named
lines_name trees (l ∷ ls) c h named = (line_names trees l h.0, lines_name trees ls c h.1 named)

-- a tree that a line closes
pub closed_names : (trees : List Tree) (t : CertTree) (l : CertLine) → t.last ≡ ends.Close l →
    AreLinesWithin (length trees) (lines_of t) → EachTerm (IsOneOf trees) (certificate_in trees t)
closed_names trees t l e within =
    let parts = within_parts (length trees) t.lines.list.items (l ∷ [])
    (subst (λ (ls : List CertLine). AreLinesWithin (length trees) ls) (lines_closed t l e) within) in
    subst (λ (c : Certificate). EachTerm (IsOneOf trees) c) (sym (tree_closed trees t l e))
    (lines_name trees t.lines.list.items (Closed (line_in trees l)) parts.0 (line_names trees l parts.1.0))

-- a tree that a line splits
pub split_names : (trees : List Tree) (t : CertTree) (l : CertLine) (c d : Box CertTree Global) → t.last ≡ ends.Split l c d →
    AreLinesWithin (length trees) (lines_of t) →
    EachTerm (IsOneOf trees) (certificate_in trees c.value) → EachTerm (IsOneOf trees) (certificate_in trees d.value) →
    EachTerm (IsOneOf trees) (certificate_in trees t)
split_names trees t l c d e within first second =
    subst (λ (k : Certificate). EachTerm (IsOneOf trees) k) (sym (tree_split trees t l c d e))
    (lines_name trees t.lines.list.items (Split (line_in trees l) (certificate_in trees c.value) (certificate_in trees d.value))
    (own_within (length trees) t within)
    (line_names trees l (split_within (length trees) t l c d e within).0, first, second))
