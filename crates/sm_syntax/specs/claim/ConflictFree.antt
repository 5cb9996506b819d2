-- When a three-way merge is free of conflicts. Public clauses cite it.
-- After Sousa, Dillig and Lahiri, "Verified Three-Way Program Merge" (OOPSLA 2018). It speaks of
-- runs alone: no product of programs, no symbols and no proofs. It says nothing of a start store
-- from which one of the four doesn't end.
use Rattle.std.specs.Prelude.{◌≡◌, ℕ, zero, suc, IsTrue, Option, Some, None, List, Contains}
use Rattle.sm_syntax.specs.declared.tree.Sort.{Sort}
use Rattle.sm_syntax.specs.claim.Syntax.{Condition, Code}
use Rattle.sm_syntax.specs.claim.Stores.{Store}
use Rattle.sm_syntax.specs.claim.Meaning.{truth_of, run}
use Rattle.sm_syntax.specs.claim.Fill.{Fillings, fill}
use Rattle.sm_syntax.specs.claim.Keeps.{Keeps, Cell, content, variable}

-- the four programs: the base O, the variants A and B, and the candidate M
pub data Copy : Type 0 where
  O A B M : Copy

-- the copy with a number
abbrev pub copy_of : ℕ → Copy
copy_of zero = O
copy_of (suc zero) = A
copy_of (suc (suc zero)) = B
copy_of (suc (suc (suc n))) = M

-- the start stores that count: all of them, or those in which the assumption is true
abbrev pub Meets : Option Condition → Store → Type 0
Meets None s = Unit {0}
Meets (Some b) s = IsTrue (truth_of b s)

-- from each start store that counts and from which all four end, Keeps holds at each cell of an
-- output
abbrev pub IsConflictFree : Option Condition → List (ℕ × Sort) → (Copy → Code) → Type 0
IsConflictFree assumed outputs program =
    (n : ℕ) (s : Store) (end : Copy → Store) →
    Meets assumed s →
    ((c : Copy) → run n (program c) s ≡ Some (end c)) →
    (cell : Cell) → Contains outputs (variable cell) →
    Keeps
    (content (end O) cell)
    (content (end A) cell)
    (content (end B) cell)
    (content (end M) cell)

-- a task: what it assumes, its outputs, the shared code, and each copy's fillings
pub record Task : Type 0 where
  pub assumed : Option Condition
  pub outputs : List (ℕ × Sort)
  pub shared : Code
  pub fillings : Copy → Fillings

-- the code of a copy
abbrev pub program_of : Task → Copy → Code
program_of t c = fill (t.fillings c) t.shared

-- the merge of a task is free of conflicts
abbrev pub ConflictFree : Task → Type 0
ConflictFree t = IsConflictFree t.assumed t.outputs (program_of t)
