-- The divisor of some parts isn't 0.
use Rattle.sm_num.proofs.Imports.{◌≡◌, ◌<◌, ℕ, ℤ, List, length, arith, sym, ap, subst, ◌∙◌, divisor_of_parts}
use Rattle.sm_num.proofs.KeptForms.{some_by_test, divisor_is_some}
use Rattle.sm_num.proofs.tightening.tighten.Goals as goal

pub tighten_equation-requires-clause-some : goal.tighten_equation-requires-clause-some
tighten_equation-requires-clause-some c =
    let ps = c.f.inside.parts.items in
    let count = c.deref.ensures.len in
    let held : 0 < length c.deref.result.now = subst (λ (n : ℕ). 0 < n) (sym count)
    (some_by_test _ (sym c.is_empty.ensures ∙ c.if-is_empty.false)) in
    let some : 0 < length ps = subst (λ (l : List (ℕ × ℤ)). 0 < length l) c.deref.ensures.value held in
    let more = divisor_is_some ps c.f.invariant.parts some in
    let same : c.parts_divisor-d.result ≡ divisor_of_parts ps = c.parts_divisor-d.ensures ∙ ap divisor_of_parts c.deref.ensures.value in
    λ none. omega arith
