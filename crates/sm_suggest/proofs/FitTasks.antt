-- A task that some text spells is fit for a decision.
use Rattle.sm_suggest.proofs.Imports.{◌≡◌, ℕ, false, Option, Some, None, List, [], ◌∷◌, refl, Copy, O, A, filling, fill, Condition, Code, Hole, ListOf, HoleInFilling, at_hole, first_outside, holes_inside, double_hole, unknown_hole, missing_filling, double_name, first_output_fault, output_refusal, is_in, Parts, sort_of, sorted_outputs, Sorts, Sort, has_hole, SpelledAreFit, neither_refuses, each_none, has_sort}
use Rattle.sm_syntax.specs.text.Conditions.{hole_in_filling, ill_formed, first_refusal, program_fault}
use Rattle.sm_text.proofs.Numbering.DeclaredInOrder.{declared_in_order}
use Rattle.sm_replay.proofs.RunnableTasks.{may_assume, may_run, spelled_runs}
use Rattle.sm_replay.specs.Judging.{IsWellSortedAssumption}
use Rattle.sm_plan.specs.SortedStates.{AreOutputsDeclared, IsAssumptionSorted}
use Rattle.sm_moves.proofs.NoHoles.{no_filling, none_outside}

no_hole_at : (c : Copy) (o : Option ℕ) → at_hole HoleInFilling (ListOf c) o ≡ None → o ≡ None
no_hole_at c None e = refl
no_hole_at c (Some h) e = absurd cc

holes_free : (t : Parts) → hole_in_filling t ≡ None → (c : Copy) (h : ℕ) → has_hole (filling (t.fillings c) h) ≡ false
unfolding hole_in_filling
holes_free t none c h =
    let outside = λ (d : Copy). first_outside [] (holes_inside (t.fillings d)) in
    let here = each_none (λ (d : Copy). at_hole HoleInFilling (ListOf d) (outside d)) none c in
    no_filling (t.fillings c) (none_outside (holes_inside (t.fillings c)) (no_hole_at c (outside c) here)) h

outputs_declared : (declared : List (ℕ × Sort)) (seen outputs : List ℕ) → first_output_fault (sort_of declared) seen outputs ≡ None
    → AreOutputsDeclared (sort_of declared) (sorted_outputs declared outputs)
outputs_declared declared seen [] none = tt
outputs_declared declared seen (x ∷ rest) none =
    let both =
    neither_refuses (output_refusal (sort_of declared x) (is_in seen x) x) (first_output_fault (sort_of declared) (x ∷ seen) rest) none in
    (has_sort (sort_of declared x) (is_in seen x) x both.0, outputs_declared declared (x ∷ seen) rest both.1)

-- the outputs of a program without a fault are declared
outputs_free : (declared : List (ℕ × Sort)) (outputs : List ℕ) (c : Code) → program_fault declared outputs c ≡ None
    → first_output_fault (sort_of declared) [] outputs ≡ None
unfolding program_fault
outputs_free declared outputs c none =
    let after = neither_refuses (double_name declared) _ none in
    (neither_refuses (first_output_fault (sort_of declared) [] outputs) _ after.1).0

base_formed : (t : Parts) → ill_formed t ≡ None → program_fault t.declared t.outputs (fill (t.fillings O) t.shared) ≡ None
unfolding ill_formed
base_formed t none = each_none (λ (c : Copy). program_fault t.declared t.outputs (fill (t.fillings c) t.shared)) none O

-- the conditions on fillings and on programs hold where all do
two_conditions : (t : Parts) → first_refusal t ≡ None → (hole_in_filling t ≡ None) × (ill_formed t ≡ None)
unfolding first_refusal
two_conditions t none =
    let a = neither_refuses (double_hole t) _ none in
    let b = neither_refuses (hole_in_filling t) _ a.1 in
    let c = neither_refuses (unknown_hole t) _ b.1 in
    let d = neither_refuses (missing_filling t) _ c.1 in
    (b.0, (neither_refuses (ill_formed t) _ d.1).0)

-- the assumption, as two layers have it
assumption_sorted : (sorts : Sorts) (assumed : Option Condition) → IsWellSortedAssumption sorts assumed → IsAssumptionSorted sorts assumed
assumption_sorted sorts None sorted = tt
assumption_sorted sorts (Some b) sorted = sorted

pub spelled_are_fit : SpelledAreFit
spelled_are_fit t has =
    let runs = spelled_runs has.0 t has.1 in
    let two = two_conditions t has.1.valid in
    let formed = base_formed t two.1 in
    record {
      runs = runs;
      sorted =
          record {
            programs = may_run t runs;
            assumed = assumption_sorted (sort_of t.declared) t.assumed (may_assume t runs);
            outputs =
                outputs_declared t.declared [] t.outputs
                (outputs_free t.declared t.outputs (fill (t.fillings O) t.shared) formed);
          };
      numbered = declared_in_order has.0 t has.1;
      no_hole = holes_free t two.0;
    }
