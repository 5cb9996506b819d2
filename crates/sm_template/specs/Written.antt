-- Cited by public clauses: the names that code of the copies writes, in order of declaration.
use Rattle.std.specs.Prelude.{ℕ, Bool, List, filter}
use Rattle.std.specs.List.{list_any}
use Rattle.sm_syntax.specs.declared.tree.Sort.{Sort}
use Rattle.sm_syntax.specs.Assigns.{assigns}
use Rattle.sm_syntax.specs.claim.Syntax.{Code}
use Rattle.sm_syntax.specs.claim.ConflictFree.{Copy}
use Rattle.sm_plan.specs.Copies.{copies}

-- whether a copy's code writes a name
abbrev pub is_written : (Copy → Code) → ℕ → Bool
is_written code x = list_any (λ (c : Copy). assigns (code c) x) copies

-- the declared names that a copy's code writes, each with its sort
abbrev pub names_written : List (ℕ × Sort) → (Copy → Code) → List (ℕ × Sort)
names_written declared code = filter (λ (d : ℕ × Sort). is_written code d.0) declared
