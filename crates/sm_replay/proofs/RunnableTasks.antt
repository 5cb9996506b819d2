-- Which tasks may be run.
use Rattle.sm_replay.proofs.Imports.{◌≡◌, ℕ, Option, Some, None, List, [], ◌∷◌, length, refl, sym, ap, subst, ◌∙◌, PerCopy, Block, Copy, O, A, B, M, program_of, Parts, sort_of, task_of, Sorts, IsWellSorted, Sort, Condition, Code, AreFilled, code_in, AreSorted, IsWellSortedAssumption}
use Rattle.sm_syntax.specs.text.Conditions.{TooMany, first_of_all, first_of_lists, first_sort_fault, double_name, first_output_fault, over, size_fault, program_fault, double_hole, hole_in_filling, unknown_hole, missing_filling, ill_formed}
use Rattle.sm_syntax.specs.text.Conditions.{ill_assumed, first_refusal, code_nodes, code_depth, condition_nodes, condition_depth}
use Rattle.sm_syntax.specs.text.Uses.{names_used}
use Rattle.sm_syntax.specs.claim.Fill.{fill}
use Rattle.sm_syntax.specs.text.Spells.{Spells}
use Rattle.sm_eval.proofs.Faultless.{code_sorted, condition_sorted}
use Rattle.sm_replay.specs.Sorted.{names_assumed, sort_fault}
use Rattle.sm_syntax.proofs.Refusals.{neither_refuses, each_none, none_of_lists}

-- a program without a fault has no name that isn't declared as it stands
program_names : (declared : List (ℕ × Sort)) (outputs : List ℕ) (c : Code) → program_fault declared outputs c ≡ None
    → first_sort_fault (sort_of declared) (names_used c) ≡ None
unfolding program_fault
program_names declared outputs c none =
    let names = first_sort_fault (sort_of declared) (names_used c) in
    let sizes = over 200 (length declared) TooMany ∷ size_fault (code_nodes c) (code_depth c) ∷ [] in
    let after = neither_refuses (double_name declared) (first_of_all (first_output_fault (sort_of declared) [] outputs ∷ names ∷ sizes)) none in
    let rest = neither_refuses (first_output_fault (sort_of declared) [] outputs) (first_of_all (names ∷ sizes)) after.1 in
    (neither_refuses names (first_of_all sizes) rest.1).0

-- an assumption without a fault has no name that isn't declared as it stands
assumed_names : (declared : List (ℕ × Sort)) (assumed : Option Condition) → ill_assumed declared assumed ≡ None
    → first_sort_fault (sort_of declared) (names_assumed assumed) ≡ None
unfolding ill_assumed first_sort_fault
assumed_names declared None none = refl
assumed_names declared (Some b) none = (neither_refuses _ (first_of_all (size_fault (condition_nodes b) (condition_depth b) ∷ [])) none).0

-- the conditions on programs and on the assumption hold where all do
last_two : (t : Parts) → first_refusal t ≡ None → (ill_formed t ≡ None) × (ill_assumed t.declared t.assumed ≡ None)
unfolding first_refusal
last_two t none =
    let a = neither_refuses (double_hole t) _ none in
    let b = neither_refuses (hole_in_filling t) _ a.1 in
    let c = neither_refuses (unknown_hole t) _ b.1 in
    let d = neither_refuses (missing_filling t) _ c.1 in
    let e = neither_refuses (ill_formed t) _ d.1 in
    (e.0, (neither_refuses (ill_assumed t.declared t.assumed) None e.1).0)

-- the programs of a task that meets the conditions
valid_programs : (t : Parts) → ill_formed t ≡ None → (c : Copy) → program_fault t.declared t.outputs (program_of (task_of t) c) ≡ None
unfolding ill_formed
valid_programs t none c = each_none (λ (c : Copy). program_fault t.declared t.outputs (fill (t.fillings c) t.shared)) none c

-- a task that meets all conditions may be run
pub valid_runs : (t : Parts) → first_refusal t ≡ None → sort_fault t ≡ None
unfolding sort_fault
valid_runs t none =
    let both = last_two t none in
    let names = λ (c : Copy). first_sort_fault (sort_of t.declared) (names_used (program_of (task_of t) c)) in
    let each : (c : Copy) → names c ≡ None =
    λ (c : Copy). program_names t.declared t.outputs (program_of (task_of t) c) (valid_programs t both.0 c) in
    rw (assumed_names t.declared t.assumed both.1, none_of_lists names each)

-- the parts of that
parts_run : (t : Parts) → sort_fault t ≡ None
    → (first_sort_fault (sort_of t.declared) (names_assumed t.assumed) ≡ None) ×
    (first_of_lists (λ (c : Copy). first_sort_fault (sort_of t.declared) (names_used (program_of (task_of t) c))) ≡ None)
unfolding sort_fault
parts_run t none =
    let both = neither_refuses (first_sort_fault (sort_of t.declared) (names_assumed t.assumed)) _ none in
    (both.0, (neither_refuses _ None both.1).0)

-- each program may be run
pub may_run : (t : Parts) → sort_fault t ≡ None → (c : Copy) → IsWellSorted (sort_of t.declared) (program_of (task_of t) c)
may_run t none c =
    code_sorted (sort_of t.declared) (program_of (task_of t) c)
    (each_none (λ (c : Copy). first_sort_fault (sort_of t.declared) (names_used (program_of (task_of t) c))) (parts_run t none).1 c)

-- an assumption by its names
sorted_assumption : (declared : List (ℕ × Sort)) (assumed : Option Condition)
    → first_sort_fault (sort_of declared) (names_assumed assumed) ≡ None → IsWellSortedAssumption (sort_of declared) assumed
sorted_assumption declared None none = tt
sorted_assumption declared (Some b) none = condition_sorted (sort_of declared) b none

-- the assumption may be computed
pub may_assume : (t : Parts) → sort_fault t ≡ None → IsWellSortedAssumption (sort_of t.declared) t.assumed
may_assume t none = sorted_assumption t.declared t.assumed (parts_run t none).0

-- in sorts that are those of the declarations
pub runs : (t : Parts) (sorts : Sorts) → sort_fault t ≡ None → sorts ≡ sort_of t.declared → (c : Copy)
    → IsWellSorted sorts (program_of (task_of t) c)
runs t sorts none same c = subst (λ (s : Sorts). IsWellSorted s (program_of (task_of t) c)) (sym same) (may_run t none c)

pub assumes : (t : Parts) (sorts : Sorts) → sort_fault t ≡ None → sorts ≡ sort_of t.declared → IsWellSortedAssumption sorts t.assumed
assumes t sorts none same = subst (λ (s : Sorts). IsWellSortedAssumption s t.assumed) (sym same) (may_assume t none)

-- each name of filled programs stands as it is declared
pub filled_sorted : (t : Parts) (programs : PerCopy Block) → sort_fault t ≡ None → AreFilled t programs → AreSorted t.declared programs
filled_sorted t programs none filled c =
    let fault = λ (k : Code). first_sort_fault (sort_of t.declared) (names_used k) in
    ap fault (filled c) ∙ each_none (λ (d : Copy). fault (program_of (task_of t) d)) (parts_run t none).1 c

-- so each may be run
pub sorted_runs : (declared : List (ℕ × Sort)) (sorts : Sorts) (programs : PerCopy Block) → AreSorted declared programs
    → sorts ≡ sort_of declared → (c : Copy) → IsWellSorted sorts (code_in programs c)
sorted_runs declared sorts programs sorted same c =
    subst (λ (s : Sorts). IsWellSorted s (code_in programs c)) (sym same) (code_sorted (sort_of declared) (code_in programs c) (sorted c))

-- a task that a text spells may be run
pub spelled_runs : (bytes : List ℕ) (t : Parts) → Spells bytes t → sort_fault t ≡ None
spelled_runs bytes t s = valid_runs t s.valid
