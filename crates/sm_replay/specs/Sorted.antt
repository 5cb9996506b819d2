-- Tasks that may be run: each name stands as it is declared. Public clauses cite it.
use Rattle.std.specs.Prelude.{ℕ, Option, Some, None, List, [], ◌∷◌}
use Rattle.sm_syntax.specs.declared.tree.Sort.{Sort}
use Rattle.sm_syntax.specs.text.Conditions.{Refusal, first_of_all, first_of_lists, first_sort_fault}
use Rattle.sm_syntax.specs.text.Uses.{names_tested, names_used}
use Rattle.sm_syntax.specs.claim.ConflictFree.{Copy, program_of}
use Rattle.sm_syntax.specs.text.Parts.{Parts, sort_of, task_of}
use Rattle.sm_syntax.specs.claim.Syntax.{Condition}

-- the names of an assumption with the sorts with which they stand
abbrev pub names_assumed : Option Condition → List (ℕ × Sort)
names_assumed None = []
names_assumed (Some b) = names_tested b

-- the first name of the assumption or of one of the four programs that isn't declared as it stands
unfoldable pub sort_fault : Parts → Option Refusal
sort_fault t =
    first_of_all
    (first_sort_fault (sort_of t.declared) (names_assumed t.assumed)
    ∷ first_of_lists (λ (c : Copy). first_sort_fault (sort_of t.declared)
    (names_used (program_of (task_of t) c))) ∷ [])
