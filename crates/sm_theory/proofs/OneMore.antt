-- The number 1 put to a form: the form with 1 more.
use Rattle.sm_theory.proofs.Imports.{◌≡◌, ℕ, ℤ, pos, List, ap, ◌∙◌, Linear, IsKept, Outcome, Fits, then_with, computed, combined, combined_number, formed, constant_form, one_more}
use Rattle.sm_num.proofs.OneForm.{computed_once, merged_once}
use Rattle.sm_num.specs.declared.op.Op.TheVariants as op

-- a kept form and the number 1 are the form with 1 more
pub combined_one : (f : Linear ℕ) → IsKept f → combined f (pos 1) (constant_form (pos 1)) (pos 1) f.kind ≡ one_more f
combined_one f kept =
    ap (λ (ps : Outcome (List (ℕ × ℤ))). formed ps (combined_number (pos 1) f.constant (pos 1) (pos 1)) f.kind)
    (merged_once 0 f.parts kept.parts)
    ∙ ap (λ (a : Outcome ℤ). formed (Fits f.parts)
    (then_with a (λ (a : ℤ). then_with (computed op.Mul (pos 1) (pos 1)) (λ (b : ℤ). computed op.Add a b))) f.kind)
    (computed_once f.constant kept.constant)
