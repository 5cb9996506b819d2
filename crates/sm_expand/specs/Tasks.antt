-- Cited by public clauses: the tasks that have these parts, whatever their fillings are.
use Rattle.std.specs.Prelude.{◌≡◌, ℕ, Option, List}
use Rattle.sm_syntax.specs.claim.ConflictFree.{Copy, Task, program_of}
use Rattle.sm_syntax.specs.claim.Syntax.{Condition, Code}
use Rattle.sm_syntax.specs.declared.tree.Sort.{Sort}

-- a task assumes this, and has these outputs and these four programs
pub record HasParts (t : Task) (b : Option Condition) (outputs : List (ℕ × Sort))
    (code : Copy → Code) : Type 0 where
  pub assumes : t.assumed ≡ b
  pub asks : t.outputs ≡ outputs
  pub programs : (c : Copy) → program_of t c ≡ code c
