-- Code without a fault is well sorted.
use Rattle.calls.proofs.Imports.{◌≡◌, ℕ, None, List, [], ◌∷◌, length, sort_of, IsWellSorted, Sort, all_declared}
use Rattle.sm_syntax.specs.claim.Syntax.{Code}
use Rattle.sm_syntax.specs.text.Conditions.{TooMany, first_of_all, first_sort_fault, sort_refusal, double_name, first_output_fault, over, size_fault, program_fault, code_nodes, code_depth}
use Rattle.sm_syntax.specs.text.Uses.{names_used}
use Rattle.sm_syntax.specs.Laws.{WellSortedIsAll}
use Rattle.sm_syntax.proofs.Refusals.{neither_refuses, declared_sort}

-- code that isn't refused
pub faultless_sorted : (ds : List (ℕ × Sort)) (outputs : List ℕ) (c : Code) → WellSortedIsAll → program_fault ds outputs c ≡ None
    → IsWellSorted (sort_of ds) c
unfolding program_fault
faultless_sorted ds outputs c law none =
    let names = first_sort_fault (sort_of ds) (names_used c) in
    let sizes = over 200 (length ds) TooMany ∷ size_fault (code_nodes c) (code_depth c) ∷ [] in
    let after = neither_refuses (double_name ds) (first_of_all (first_output_fault (sort_of ds) [] outputs ∷ names ∷ sizes)) none in
    let rest = neither_refuses (first_output_fault (sort_of ds) [] outputs) (first_of_all (names ∷ sizes)) after.1 in
    (law (sort_of ds) c).1 (all_declared (sort_of ds) (names_used c) (neither_refuses names (first_of_all sizes) rest.1).0)
