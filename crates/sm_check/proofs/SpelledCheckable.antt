-- A task that a text spells stands as it is declared, and its declared names are numbered from 0 on.
use Rattle.sm_check.proofs.Imports.{◌≡◌, ℕ, Option, Some, None, List, [], ◌∷◌, ◌++◌, length, ap, ◌∙◌, AllByRecursion, Copy, O, A, B, M, program_of, Condition, Code, End, While, Parts, sort_of, sorted_outputs, task_of, Sorts, IsAsDeclared, IsWellSorted, IsWellSortedCondition, Sort}
use Rattle.std.specs.Option.{option_or}
use Rattle.sm_syntax.proofs.EachUse.{well_sorted_is_all}
use Rattle.sm_syntax.proofs.Uses.{first_sort_fault-append, first_sort_fault-none}
use Rattle.sm_syntax.specs.claim.Fill.{fill}
use Rattle.sm_syntax.specs.text.Conditions.{Refusal, TooMany, first_of_all, first_sort_fault, sort_refusal, double_name, first_output_fault, output_refusal, is_in, over, size_fault, program_fault, double_hole, hole_in_filling, unknown_hole}
use Rattle.sm_syntax.specs.text.Conditions.{missing_filling, ill_formed, ill_assumed, first_refusal, code_nodes, code_depth, condition_nodes, condition_depth}
use Rattle.sm_syntax.specs.text.Uses.{names_tested, names_used}
use Rattle.sm_text.proofs.Numbering.DeclaredInOrder.{declared_in_order}
use Rattle.sm_plan.specs.SortedStates.{AreOutputsDeclared, IsAssumptionSorted}
use Rattle.sm_check.specs.Laws.{SpelledIsCheckable}
use Rattle.sm_syntax.proofs.Refusals.{neither_refuses, declared_sort, each_none, has_sort}

-- names without a fault are declared as they stand
pub all_declared : (sorts : Sorts) (uses : List (ℕ × Sort)) → first_sort_fault sorts uses ≡ None
    → AllByRecursion (λ (u : ℕ × Sort). IsAsDeclared sorts u.0 u.1) uses
unfolding first_sort_fault
all_declared sorts [] none = tt
all_declared sorts (u ∷ uses) none =
    let both = neither_refuses (sort_refusal (sorts u.0) u.1 u.0) (first_sort_fault sorts uses) none in
    (declared_sort (sorts u.0) u.1 u.0 both.0, all_declared sorts uses both.1)

code_sorted : (sorts : Sorts) (c : Code) → first_sort_fault sorts (names_used c) ≡ None → IsWellSorted sorts c
code_sorted sorts c none = (well_sorted_is_all sorts c).1 (all_declared sorts (names_used c) none)

-- a condition has the names of a loop that does nothing
condition_sorted : (sorts : Sorts) (b : Condition) → first_sort_fault sorts (names_tested b) ≡ None → IsWellSortedCondition sorts b
condition_sorted sorts b none =
    let more : (xs : List (ℕ × Sort)) → first_sort_fault sorts xs ≡ None → first_sort_fault sorts (xs ++ []) ≡ None =
    λ xs free. first_sort_fault-append sorts xs [] ∙ ap (λ (o : Option Refusal). option_or o (first_sort_fault sorts [])) free
    ∙ first_sort_fault-none sorts in
    (code_sorted sorts (While b End End) (more (names_tested b ++ []) (more (names_tested b) none))).0

outputs_declared : (declared : List (ℕ × Sort)) (seen outputs : List ℕ) → first_output_fault (sort_of declared) seen outputs ≡ None
    → AreOutputsDeclared (sort_of declared) (sorted_outputs declared outputs)
outputs_declared declared seen [] none = tt
outputs_declared declared seen (x ∷ rest) none =
    let both =
    neither_refuses (output_refusal (sort_of declared x) (is_in seen x) x) (first_output_fault (sort_of declared) (x ∷ seen) rest) none in
    (has_sort (sort_of declared x) (is_in seen x) x both.0, outputs_declared declared (x ∷ seen) rest both.1)

-- a program without a fault: its outputs are declared, and its names as they stand
program_free : (declared : List (ℕ × Sort)) (outputs : List ℕ) (c : Code) → program_fault declared outputs c ≡ None
    → (first_output_fault (sort_of declared) [] outputs ≡ None) × (first_sort_fault (sort_of declared) (names_used c) ≡ None)
unfolding program_fault
program_free declared outputs c none =
    let names = first_sort_fault (sort_of declared) (names_used c) in
    let sizes = over 200 (length declared) TooMany ∷ size_fault (code_nodes c) (code_depth c) ∷ [] in
    let after = neither_refuses (double_name declared) (first_of_all (first_output_fault (sort_of declared) [] outputs ∷ names ∷ sizes)) none in
    let rest = neither_refuses (first_output_fault (sort_of declared) [] outputs) (first_of_all (names ∷ sizes)) after.1 in
    (rest.0, (neither_refuses names (first_of_all sizes) rest.1).0)

-- an assumption without a fault is sorted
assumption_sorted : (declared : List (ℕ × Sort)) (assumed : Option Condition) → ill_assumed declared assumed ≡ None
    → IsAssumptionSorted (sort_of declared) assumed
unfolding ill_assumed
assumption_sorted declared None none = tt
assumption_sorted declared (Some b) none =
    let names = first_sort_fault (sort_of declared) (names_tested b) in
    condition_sorted (sort_of declared) b
    (neither_refuses names (first_of_all (size_fault (condition_nodes b) (condition_depth b) ∷ [])) none).0

-- the conditions on programs and on the assumption hold where all do
last_two : (t : Parts) → first_refusal t ≡ None → (ill_formed t ≡ None) × (ill_assumed t.declared t.assumed ≡ None)
unfolding first_refusal
last_two t none =
    let a = neither_refuses (double_hole t) _ none in
    let b = neither_refuses (hole_in_filling t) _ a.1 in
    let c = neither_refuses (unknown_hole t) _ b.1 in
    let d = neither_refuses (missing_filling t) _ c.1 in
    let e = neither_refuses (ill_formed t) _ d.1 in
    (e.0, (neither_refuses (ill_assumed t.declared t.assumed) None e.1).0)

-- each program is well formed
formed_programs : (t : Parts) → ill_formed t ≡ None → (c : Copy)
    → program_fault t.declared t.outputs (program_of (task_of t) c) ≡ None
unfolding ill_formed
formed_programs t none c = each_none (λ (d : Copy). program_fault t.declared t.outputs (fill (t.fillings d) t.shared)) none c

pub spelled_checkable : SpelledIsCheckable
spelled_checkable bytes t spells =
    let both = last_two t spells.valid in
    let free = λ (c : Copy). program_free t.declared t.outputs (program_of (task_of t) c) (formed_programs t both.0 c) in
    record {
      sorted =
          record {
            programs = λ c. code_sorted (sort_of t.declared) (program_of (task_of t) c) (free c).1;
            assumed = assumption_sorted t.declared t.assumed both.1;
            outputs = outputs_declared t.declared [] t.outputs (free O).0;
          };
      numbered = declared_in_order bytes t spells;
    }
