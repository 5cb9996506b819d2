-- Cited by public clauses: the statements that shared code is filled with in each copy.
use Rattle.std.specs.Prelude.{◌≡◌, List}
use Rattle.sm_syntax.specs.claim.ConflictFree.{Copy}
use Rattle.sm_syntax.specs.claim.Fill.{fill}
use Rattle.sm_syntax.specs.claim.Syntax.{Code, End, Skip, Assign, Write, If, While, Hole}
use Rattle.sm_syntax.specs.text.Parts.{Parts}
use Rattle.sm_syntax.specs.text.Sorts.{Sorts, IsWellSorted}
use Rattle.sm_syntax.specs.trees.Copies.{of_copy}
use Rattle.sm_syntax.specs.declared.copies.PerCopy.{PerCopy}
use Rattle.sm_syntax.specs.trees.Views.{code_of}
use Rattle.sm_syntax.specs.declared.tree.Stmt.{Stmt}
use Rattle.sm_syntax.specs.declared.tree.Block.{Block}
use Rattle.sm_plan.specs.Views.{code_before}
use denote.Bor.{Bor}

-- the code of each copy's statements
abbrev pub piece_of : PerCopy (Bor (List Stmt)) → Copy → Code
piece_of pieces c = code_before (of_copy pieces c).now End

-- the code of each copy's block
abbrev pub block_codes : PerCopy (Bor Block) → Copy → Code
block_codes blocks c = code_of (of_copy blocks c).now

-- the statements of each copy are this code, filled as in a task, and are well sorted
pub record AreFilledAs (sorts : Sorts) (t : Parts) (code : Code)
    (pieces : PerCopy (Bor (List Stmt))) : Type 0 where
  pub filled : (c : Copy) → piece_of pieces c ≡ fill (t.fillings c) code
  pub sorted : (c : Copy) → IsWellSorted sorts (piece_of pieces c)

-- the first block of the statement that code begins with, nothing where that has none
abbrev pub first_inside : Code → Code
first_inside End = End
first_inside (Skip k) = End
first_inside (Assign x e k) = End
first_inside (Write a i e k) = End
first_inside (If b c d k) = c
first_inside (While b c k) = c
first_inside (Hole h k) = End

-- the second one
abbrev pub second_inside : Code → Code
second_inside End = End
second_inside (Skip k) = End
second_inside (Assign x e k) = End
second_inside (Write a i e k) = End
second_inside (If b c d k) = d
second_inside (While b c k) = End
second_inside (Hole h k) = End
