-- Cited by public clauses: the certificates that the program's own stand for, and the faults that
-- tell why one is refused.
use Rattle.std.specs.Prelude.{◌≡◌, ℕ, ◌-◌, ◌^◌, min, Option, Some, List, [], ◌∷◌, ◌++◌}
use Rattle.sm_term.specs.Terms.{Tree}
use Rattle.sm_theory.specs.Views.{line_in, IsLineWithin}
use Rattle.sm_theory.specs.declared.line.CertLine.{CertLine}
use Rattle.sm_cert.specs.declared.tree.CertTree.{fold-CertTree}
pub use Rattle.sm_cert.specs.declared.tree.CertTree.{CertTree, fold-roll-CertTree, fold_out-CertTree, ind-CertTree, map-CertTree, roll-CertTree, CertTree-F}
pub use Rattle.sm_cert.specs.declared.tree.CertEnd.{CertEnd, fold-CertEnd, fold-roll-CertEnd, map-CertEnd, roll-CertEnd, CertEnd-F}
use Rattle.sm_cert.specs.declared.tree.CertEnd.TheOpen as layer
use Rattle.sm_cert.specs.declared.error.CertFault.{CertFault}
use Rattle.sm_cert.specs.declared.error.CertFault.TheVariants as fault
use Rattle.sm_cert.specs.Certificates.{Certificate, Next, Closed, Split, Refused, Bad, TooManySplits}
pub use Rattle.sm_cert.specs.declared.tree.CertEnd.TheVariants.{rolls-Close, rolls-Split}

-- lines one under another, and then a certificate
abbrev pub lines_before : List Tree → List CertLine → Certificate → Certificate
lines_before trees [] c = c
lines_before trees (line ∷ rest) c = Next (line_in trees line) (lines_before trees rest c)

-- one tree, where its end is a certificate already
abbrev pub tree_layer : List Tree → CertTree-F Certificate Certificate → Certificate
tree_layer trees t = lines_before trees t.lines.list.items t.last

-- one end, where the trees under it are certificates already
abbrev pub end_layer : List Tree → CertEnd-F Certificate Certificate → Certificate
end_layer trees (layer.Close line) = Closed (line_in trees line)
end_layer trees (layer.Split line c d) = Split (line_in trees line) c.value d.value

-- the certificate that a tree of the program stands for
abbrev pub certificate_in : List Tree → CertTree → Certificate
certificate_in trees = fold-CertTree Certificate Certificate (end_layer trees) (tree_layer trees)

-- all lines of an end, in preorder, where those of the trees under it are told
abbrev pub end_lines : CertEnd-F (List CertLine) (List CertLine) → List CertLine
end_lines (layer.Close line) = line ∷ []
end_lines (layer.Split line c d) = line ∷ (c.value ++ d.value)

-- those of a tree, where those of its end are told
abbrev pub tree_lines : CertTree-F (List CertLine) (List CertLine) → List CertLine
tree_lines t = t.lines.list.items ++ t.last

-- all lines of a tree of the program, in preorder
abbrev pub lines_of : CertTree → List CertLine
lines_of = fold-CertTree (List CertLine) (List CertLine) end_lines tree_lines

-- the terms that lines name are in a table of `count` terms
abbrev pub AreLinesWithin : ℕ → List CertLine → Type 0
AreLinesWithin count [] = Unit {0}
AreLinesWithin count (line ∷ rest) = IsLineWithin count line × AreLinesWithin count rest

-- a fault tells why a certificate is refused; the number of a line stops at the greatest `u64`
abbrev pub FaultTells : CertFault → Option Refused → Type 0
FaultTells (fault.Wrong line) why = (n : ℕ) × (why ≡ Some (Bad n)) × (line ≡ min n (2 ^ 64 - 1))
FaultTells fault.Deep why = why ≡ Some TooManySplits
FaultTells fault.Memory why = Unit {0}
