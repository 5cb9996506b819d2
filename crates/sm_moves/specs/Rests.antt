-- Cited by public clauses: what is left of the programs of the four copies.
use Rattle.sm_syntax.specs.claim.Syntax.{Code}
use Rattle.sm_syntax.specs.claim.ConflictFree.{Copy}
use Rattle.sm_syntax.specs.trees.Copies.{of_copy}
use Rattle.sm_syntax.specs.declared.copies.PerCopy.{PerCopy}
use Rattle.sm_plan.specs.Views.{rest_code}
use Rattle.sm_plan.specs.declared.rest.Continuation.{Continuation}

-- the code that is left of each copy
abbrev pub codes_in : PerCopy Continuation → Copy → Code
codes_in rests c = rest_code (of_copy rests c)
