-- Certificates whose lines name terms of the table.
use Rattle.calls.proofs.Imports.{◌≡◌, ◌<◌, ◌+◌, ℕ, List, [], ◌∷◌, ◌++◌, length, get_or, drop, sym, subst, drop_more, IsLineWithin, lines_of, AreLinesWithin, CertTree}
use Rattle.std.specs.Prelude.{Box}
use Rattle.std.specs.declared.alloc.Global.{Global}
use Rattle.sm_theory.specs.declared.line.CertLine.{CertLine}
use Rattle.sm_cert.specs.declared.tree.CertEnd.TheVariants as ends
use Rattle.sm_cert.proofs.CheckLemmas.{lines_closed, lines_split}
use Rattle.sm_list.proofs.RenumberLemmas.{within-append}

-- a line and those behind it
pub line_before : (n : ℕ) (ls : List CertLine) (i : ℕ) (d : CertLine) → i < length ls → IsLineWithin n (get_or ls i d)
    → AreLinesWithin n (drop (i + 1) ls) → AreLinesWithin n (drop i ls)
line_before n ls i d less one rest = subst (AreLinesWithin n) (sym (drop_more ls i d less)) (one, rest)

-- a certificate that a line closes
pub closed_within : (n : ℕ) (t : CertTree) (l : CertLine) → t.last ≡ ends.Close l → AreLinesWithin n t.lines.list.items
    → IsLineWithin n l → AreLinesWithin n (lines_of t)
closed_within n t l e own last =
    subst (AreLinesWithin n) (sym (lines_closed t l e)) (within-append n t.lines.list.items (l ∷ []) own (last, tt))

-- one that a line splits
pub split_within : (n : ℕ) (t : CertTree) (l : CertLine) (c d : Box CertTree Global) → t.last ≡ ends.Split l c d
    → AreLinesWithin n t.lines.list.items → IsLineWithin n l → AreLinesWithin n (lines_of c.value) → AreLinesWithin n (lines_of d.value)
    → AreLinesWithin n (lines_of t)
split_within n t l c d e own last first second =
    subst (AreLinesWithin n) (sym (lines_split t l c d e))
    (within-append n t.lines.list.items (l ∷ (lines_of c.value ++ lines_of d.value)) own
    (last, within-append n (lines_of c.value) (lines_of d.value) first second))
