-- Cited by public clauses: certificates of the program, of which no line names a term past a table's
-- end.
use Rattle.std.specs.Prelude.{ℕ, List, [], ◌∷◌}
use Rattle.sm_cert.specs.Views.{lines_of, AreLinesWithin}
use Rattle.sm_cert.specs.declared.tree.CertTree.{CertTree}

-- the terms that the lines of each certificate name are in a table of `count` terms
abbrev pub AreTreesWithin : ℕ → List CertTree → Type 0
AreTreesWithin count [] = Unit {0}
AreTreesWithin count (tree ∷ rest) =
    AreLinesWithin count (lines_of tree) × AreTreesWithin count rest
