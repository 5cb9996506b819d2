-- What is made for each copy.
use Rattle.sm_plan.proofs.Imports.{◌≡◌, Result, Ok, Err, IfOk-at_ok, Copy, O, A, B, M, of_copy, PerCopy}
use Rattle.std.specs.Prelude.{IfOk}

-- what holds of each of four results holds of what they made
pub each_made : {T E : Type 0} (P : Copy → T → Type 0) (base a b candidate : Result T E) (all : Result (PerCopy T) E) →
    IfOk all (λ (p : PerCopy T). (base ≡ Ok p.base) × (a ≡ Ok p.variant_a) × (b ≡ Ok p.variant_b) × (candidate ≡ Ok p.candidate)) →
    IfOk base (P O) → IfOk a (P A) → IfOk b (P B) → IfOk candidate (P M) → (c : Copy) → IfOk all (λ (p : PerCopy T). P c (of_copy p c))
each_made P base a b candidate (Ok p) made on_base on_a on_b on_candidate O = IfOk-at_ok (P O) made.0 on_base
each_made P base a b candidate (Ok p) made on_base on_a on_b on_candidate A = IfOk-at_ok (P A) made.1 on_a
each_made P base a b candidate (Ok p) made on_base on_a on_b on_candidate B = IfOk-at_ok (P B) made.2 on_b
each_made P base a b candidate (Ok p) made on_base on_a on_b on_candidate M = IfOk-at_ok (P M) made.3 on_candidate
each_made P base a b candidate (Err e) made on_base on_a on_b on_candidate c = tt
