-- What a merge keeps at one cell. Public clauses cite it.
-- After Sousa, Dillig and Lahiri, "Verified Three-Way Program Merge" (OOPSLA 2018).
use Rattle.std.specs.Prelude.{◌≡◌, ◌⊎◌, ℕ, ℤ}
use Rattle.sm_syntax.specs.declared.tree.Sort.{Sort}
use Rattle.sm_syntax.specs.declared.tree.Sort.TheVariants.{Num, Arr}
use Rattle.sm_syntax.specs.claim.Stores.{number, array, Store}

-- at one cell: a change that the variant made is in the candidate
abbrev pub KeepsChange : ℤ → ℤ → ℤ → Type 0
KeepsChange base variant candidate = (base ≡ variant) ⊎ (candidate ≡ variant)

-- at one cell: the candidate has no change that neither variant made
abbrev pub AddsNothing : ℤ → ℤ → ℤ → ℤ → Type 0
AddsNothing base a b candidate = base ≡ a → a ≡ b → candidate ≡ base

-- at one cell: the candidate has both changes, and no other
pub record Keeps (base a b candidate : ℤ) : Type 0 where
  pub change_of_a : KeepsChange base a candidate
  pub change_of_b : KeepsChange base b candidate
  pub no_other : AddsNothing base a b candidate

-- a cell of a store: a number variable, or one element of an array
pub data Cell : Type 0 where
  Scalar : ℕ → Cell
  Element : ℕ → ℤ → Cell

-- the whole number in a cell
abbrev pub content : Store → Cell → ℤ
content s (Scalar x) = number (s x)
content s (Element a i) = array (s a) i

-- the variable that a cell belongs to, with its sort
abbrev pub variable : Cell → ℕ × Sort
variable (Scalar x) = (x, Num)
variable (Element a i) = (a, Arr)
