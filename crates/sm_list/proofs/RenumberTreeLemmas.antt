-- A certificate under other numbers of terms is the same certificate.
use Rattle.sm_list.proofs.Imports.{◌≡◌, List, [], ◌∷◌, ◌++◌, length, map, refl, sym, ap, ◌∙◌, subst, Box, Global, TermId, Tree, line_in, CertLine, Certificate, Next, Closed, Split, EachTerm, lines_before, certificate_in, lines_of, AreLinesWithin, CertTree, tree_closed, tree_split, lines_closed, lines_split, within_parts, IsOneOf, IsLineUnder, AreLinesUnder, AreTermsOf}
use Rattle.sm_theory.specs.Lines.{CertificateLine}
use Rattle.sm_cert.specs.declared.tree.CertEnd.TheVariants as ends
use Rattle.sm_list.proofs.NamedTermsLemmas.{closed_names, split_names}
use Rattle.sm_list.proofs.RenumberLemmas.{line_stands, within-append}

-- lines before a certificate
abbrev before : List CertificateLine → Certificate → Certificate
before [] c = c
before (l ∷ ls) c = Next l (before ls c)

before_is : (trees : List Tree) (ls : List CertLine) (c : Certificate) → lines_before trees ls c ≡ before (map (line_in trees) ls) c
before_is trees [] c = refl
before_is trees (l ∷ ls) c = ap (Next (line_in trees l)) (before_is trees ls c)

same_before : (trees others : List Tree) (xs ys : List CertLine) (c d : Certificate) → map (line_in others) ys ≡ map (line_in trees) xs →
    d ≡ c →
    lines_before others ys d ≡ lines_before trees xs c
same_before trees others xs ys c d lines same =
    before_is others ys d ∙ ap (λ (ls : List CertificateLine). before ls d) lines ∙ ap (before (map (line_in trees) xs)) same
    ∙ sym (before_is trees xs c)

-- two trees that stand for one certificate, which names only terms of the first table; the terms of
-- the other are in its table
pub record TreeStands (trees others : List Tree) (t u : CertTree) : Type 0 where
  pub same : certificate_in others u ≡ certificate_in trees t
  pub there : AreLinesWithin (length others) (lines_of u)
  pub names : EachTerm (IsOneOf trees) (certificate_in others u)

-- which a line closes
pub closed_stands : (trees others : List Tree) (numbers : List TermId) → AreTermsOf others numbers trees →
    (t u : CertTree) (l m : CertLine) →
    t.last ≡ ends.Close l → u.last ≡ ends.Close m → AreLinesUnder numbers t.lines.list.items u.lines.list.items → IsLineUnder numbers l m →
    AreLinesWithin (length trees) (lines_of t) → TreeStands trees others t u
closed_stands trees others numbers are t u l m first second lines last within =
    let parts = within_parts (length trees) t.lines.list.items (l ∷ []) (subst (AreLinesWithin (length trees)) (lines_closed t l first)
    within) in
    let above = lines trees others are parts.0 in
    let end = line_stands trees others numbers l m are last parts.1.0 in
    let one : certificate_in others u ≡ certificate_in trees t =
    tree_closed others u m second
    ∙ same_before trees others t.lines.list.items u.lines.list.items (Closed (line_in trees l)) (Closed (line_in others m)) above.0
    (ap Closed end.same)
    ∙ sym (tree_closed trees t l first) in
    record {
      same = one;
      there =
          subst (AreLinesWithin (length others)) (sym (lines_closed u m second))
          (within-append (length others) u.lines.list.items (m ∷ []) above.1 (end.there, tt));
      names = subst (λ (k : Certificate). EachTerm (IsOneOf trees) k) (sym one) (closed_names trees t l first within);
    }

-- two trees that a line splits stand for one certificate, where their sides do
pub split_stands : (trees others : List Tree) (numbers : List TermId) → AreTermsOf others numbers trees → (t u : CertTree) (l m : CertLine)
    (c d p q : Box CertTree Global) →
    t.last ≡ ends.Split l c d → u.last ≡ ends.Split m p q → AreLinesUnder numbers t.lines.list.items u.lines.list.items →
    IsLineUnder numbers l m →
    (AreLinesWithin (length trees) (lines_of c.value) → TreeStands trees others c.value p.value) →
    (AreLinesWithin (length trees) (lines_of d.value) → TreeStands trees others d.value q.value) →
    AreLinesWithin (length trees) (lines_of t) → TreeStands trees others t u
split_stands trees others numbers are t u l m c d p q first second lines last one other within =
    let under = lines_of c.value ++ lines_of d.value in
    let parts = within_parts (length trees) t.lines.list.items (l ∷ under) (subst (AreLinesWithin (length trees)) (lines_split t l c d
    first) within) in
    let above = lines trees others are parts.0 in
    let end = line_stands trees others numbers l m are last parts.1.0 in
    let sides = within_parts (length trees) (lines_of c.value) (lines_of d.value) parts.1.1 in
    let left = one sides.0 in
    let right = other sides.1 in
    let split : Split (line_in others m) (certificate_in others p.value) (certificate_in others q.value)
    ≡ Split (line_in trees l) (certificate_in trees c.value) (certificate_in trees d.value) =
    ap (λ (x : CertificateLine). Split x (certificate_in others p.value) (certificate_in others q.value)) end.same
    ∙ ap (λ (x : Certificate). Split (line_in trees l) x (certificate_in others q.value)) left.same
    ∙ ap (Split (line_in trees l) (certificate_in trees c.value)) right.same in
    let whole : certificate_in others u ≡ certificate_in trees t =
    tree_split others u m p q second
    ∙ same_before trees others t.lines.list.items u.lines.list.items
    (Split (line_in trees l) (certificate_in trees c.value) (certificate_in trees d.value))
    (Split (line_in others m) (certificate_in others p.value) (certificate_in others q.value)) above.0 split
    ∙ sym (tree_split trees t l c d first) in
    record {
      same = whole;
      there =
          subst (AreLinesWithin (length others)) (sym (lines_split u m p q second))
          (within-append (length others) u.lines.list.items (m ∷ (lines_of p.value ++ lines_of q.value)) above.1
          (end.there, within-append (length others) (lines_of p.value) (lines_of q.value) left.there right.there));
      names =
          subst (λ (k : Certificate). EachTerm (IsOneOf trees) k) (sym whole)
          (split_names trees t l c d first within
          (subst (λ (k : Certificate). EachTerm (IsOneOf trees) k) left.same left.names)
          (subst (λ (k : Certificate). EachTerm (IsOneOf trees) k) right.same right.names));
    }
