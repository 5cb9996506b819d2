-- Lines that read only the facts that they name, one after the other.
use Rattle.sm_solve.proofs.Imports.{◌≡◌, ◌<◌, ◌+◌, ℕ, false, get_or, List, [], ◌∷◌, ◌++◌, length, take, refl, sym, ap, subst, ◌∙◌, take_more, Tree, reads_all, line_in, CertLine, Certificate, Closed, NamesWhatItReads, certificate_in, lines_before, CertTree, tree_closed}
use Rattle.sm_cert.specs.declared.tree.CertEnd.TheVariants as ends
use Rattle.sm_cert.specs.Certificates.{Next}

-- what stands under lines names what it reads, and so do they
abbrev pub LeadTo : List CertLine → Type 0
LeadTo lines = (trees : List Tree) (c : Certificate) → NamesWhatItReads c → NamesWhatItReads (lines_before trees lines c)

-- a last line stands above the certificate
pub before_last : (trees : List Tree) (lines : List CertLine) (line : CertLine) (c : Certificate) →
    lines_before trees (lines ++ line ∷ []) c ≡ lines_before trees lines (Next (line_in trees line) c)
before_last trees [] line c = refl
before_last trees (l ∷ ls) line c = ap (Next (line_in trees l)) (before_last trees ls line c)

-- one line more
pub lead_more : (lines : List CertLine) (n : ℕ) (line : CertLine) → n < length lines → line ≡ get_or lines n line →
    ((trees : List Tree) → false ≡ reads_all (line_in trees line)) → LeadTo (take n lines) → LeadTo (take (n + 1) lines)
lead_more lines n line less is few before = λ trees c named.
    let more : take (n + 1) lines ≡ take n lines ++ line ∷ [] =
    take_more lines n line less ∙ ap (λ (l : CertLine). take n lines ++ l ∷ []) (sym is) in
    subst (λ (ls : List CertLine). NamesWhatItReads (lines_before trees ls c)) (sym more)
    (subst NamesWhatItReads (sym (before_last trees (take n lines) line c))
    (before trees (Next (line_in trees line) c) (sym (few trees), named)))

-- a certificate whose last line closes it
pub closed_names : (tree : CertTree) (line : CertLine) → tree.last ≡ ends.Close line → LeadTo tree.lines.list.items →
    ((trees : List Tree) → false ≡ reads_all (line_in trees line)) → (trees : List Tree) → NamesWhatItReads (certificate_in trees tree)
closed_names tree line is lead few trees =
    subst NamesWhatItReads (sym (tree_closed trees tree line is)) (lead trees (Closed (line_in trees line)) (sym (few trees)))
