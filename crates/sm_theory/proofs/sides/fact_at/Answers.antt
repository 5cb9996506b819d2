use Rattle.sm_theory.proofs.Imports.{◌≡◌, ℕ, List, Option, Some, None, slice_get, option_copied, Bor, sym, ap, subst, ◌∙◌, slice_get-get_or, slice_get_past, FactStands, Fact, OptionStands}
use Rattle.std.specs.Slice.{IsItemAt}
use Rattle.sm_theory.proofs.SidesLemmas.{fact_found}
use Rattle.sm_theory.proofs.sides.fact_at.Goals as goal

-- what is got is the element
got : (fs : List Fact) (n : ℕ) (r : Option (Bor Fact)) → IsItemAt fs n r → option_copied r ≡ slice_get fs n
got fs n None h = sym (slice_get_past fs n h.3)
got fs n (Some f) h = ap Some (h.3.1 f.now) ∙ sym (slice_get-get_or fs n f.now h.3.0)

pub returns : goal.returns
returns c = λ sorts trees facts all.
    let n = c.args.n in
    let found = got c.deref.result.now n c.get.result c.get.ensures.lookup in
    let here = subst (λ fs. option_copied c.get.result ≡ slice_get fs n) c.deref.ensures.value found in
    let stands = fact_found sorts trees c.args.branch.now.list.items facts all n in
    subst (λ o. OptionStands (FactStands sorts trees) o (slice_get facts n)) (sym here) stands
