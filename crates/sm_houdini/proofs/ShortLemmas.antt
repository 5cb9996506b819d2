-- Certificates whose lines are short, line by line.
use Rattle.sm_houdini.proofs.Imports.{◌≡◌, ℕ, ◌+◌, ◌<◌, List, [], ◌∷◌, ◌++◌, length, take, get_or, sym, ap, ◌∙◌, subst, Bool, true, false, Box, Global, take_more, Tree, line_in, CertLine, Certificate, Next, Split, certificate_in, lines_before, CertTree, tree_split, IsShortLine, IsShort, never_true}
use Rattle.sm_cert.specs.declared.tree.CertEnd.TheVariants as ends
use Rattle.sm_solve.proofs.ReadingLemmas.{before_last}

pub lines_short : (trees : List Tree) (ls : List CertLine) (i : ℕ) (l : CertLine) (c : Certificate) →
    ((d : Certificate) → IsShort d → IsShort (lines_before trees (take i ls) d)) → i < length ls → l ≡ get_or ls i l →
    IsShortLine (line_in trees l) → IsShort c → IsShort (lines_before trees (take (i + 1) ls) c)
lines_short trees ls i l c before h e line short =
    subst (λ (xs : List CertLine). IsShort (lines_before trees xs c))
    (sym (take_more ls i l h ∙ ap (λ (k : CertLine). take i ls ++ k ∷ []) (sym e)))
    (subst IsShort (sym (before_last trees (take i ls) l c)) (before (Next (line_in trees l) c) (line, short)))

pub not_both : {A : Type 0} (b : Bool) → b ≡ false → b ≡ true → A
not_both b isnt is = never_true (sym isnt ∙ is)

-- a certificate that splits
pub split_short : (trees : List Tree) (t : CertTree) (l : CertLine) (c d : Box CertTree Global) (ls : List CertLine) →
    t.last ≡ ends.Split l c d → ls ≡ t.lines.list.items → ((k : Certificate) → IsShort k → IsShort (lines_before trees ls k)) →
    IsShortLine (line_in trees l) → IsShort (certificate_in trees c.value) → IsShort (certificate_in trees d.value) →
    IsShort (certificate_in trees t)
split_short trees t l c d ls e same before line first second =
    let end = Split (line_in trees l) (certificate_in trees c.value) (certificate_in trees d.value) in
    subst IsShort (sym (tree_split trees t l c d e))
    (subst (λ (ks : List CertLine). IsShort (lines_before trees ks end)) same (before end (line, first, second)))
