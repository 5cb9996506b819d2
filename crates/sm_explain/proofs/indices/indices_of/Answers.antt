-- The indices of four lists.
use Rattle.sm_explain.proofs.Imports.{◌≡◌, ℤ, pos, List, subst, Copy, Element, content, end_in}
use Rattle.sm_explain.proofs.MergedCells.{Within, of_four}
use Rattle.sm_explain.proofs.indices.indices_of.Goals as goal

pub returns-clause-each : goal.returns-clause-each
returns-clause-each c =
    let with_a = c.in_ok-with_a.with_a.items in
    let with_b = c.in_ok-with_b.with_b.items in
    let all = c.in_ok-all.all.items in
    of_four (λ (k : Copy) (i : ℤ). content (end_in c.args.ends.now k) (Element c.args.a.0 i) ≡ pos 0)
    c.in_ok-base.base.items c.in_ok-of_a.of_a.items c.in_ok-of_b.of_b.items c.in_ok-candidate.candidate.items with_a with_b all
    c.in_ok-base.ensures.each c.in_ok-of_a.ensures.each c.in_ok-of_b.ensures.each c.in_ok-candidate.ensures.each
    (subst (λ (xs : List ℤ). Within xs with_a) c.deref.ensures.value c.in_ok-with_a.ensures.left)
    (subst (λ (xs : List ℤ). Within xs with_a) c.deref-2.ensures.value c.in_ok-with_a.ensures.right)
    (subst (λ (xs : List ℤ). Within xs with_b) c.deref-3.ensures.value c.in_ok-with_b.ensures.left)
    (subst (λ (xs : List ℤ). Within xs with_b) c.deref-4.ensures.value c.in_ok-with_b.ensures.right)
    (subst (λ (xs : List ℤ). Within xs all) c.deref-5.ensures.value c.in_ok-all.ensures.left)
    (subst (λ (xs : List ℤ). Within xs all) c.deref-6.ensures.value c.in_ok-all.ensures.right)
