-- The copies as the program names them. Public clauses cite them.
-- With one of something for each copy, as a function from the copy.
use Rattle.std.specs.Prelude.{ℕ, List, codes}
use Rattle.sm_syntax.specs.claim.ConflictFree.{Copy, O, A, B, M}
use Rattle.sm_syntax.specs.text.Parts.{by_copy}
use Rattle.sm_syntax.specs.declared.copies.CopyName.{CopyName}
use Rattle.sm_syntax.specs.declared.copies.CopyName.TheVariants as name
pub use Rattle.sm_syntax.specs.declared.copies.PerCopy.{PerCopy}

-- the copy that a name names
abbrev pub copy_named : CopyName → Copy
copy_named name.O = O
copy_named name.A = A
copy_named name.B = B
copy_named name.M = M

-- the number of a copy: 0 for the base, 1 and 2 for the variants, 3 for the candidate
abbrev pub number_of : Copy → ℕ
number_of = by_copy 0 1 2 3

-- the letter of a copy
abbrev pub letter_of : Copy → List ℕ
letter_of = by_copy (codes "O") (codes "A") (codes "B") (codes "M")

-- what each copy has
abbrev pub of_copy : {T : Type 0} → PerCopy T → Copy → T
of_copy p = by_copy p.base p.variant_a p.variant_b p.candidate
