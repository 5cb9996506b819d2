-- One part more goes to its place, or there is none.
use Rattle.sm_exact.proofs.Imports.{◌≡◌, ◌-◌, ◌+ℤ◌, ◌*ℤ◌, ℕ, ℤ, pos, List, ◌∷◌, suc, get_or, drop, sym, ap, subst, ◌∙◌, arith, ints, AreParts, coefficient, Eq, same_atom, atom_form, HasNoPlace, ArePlaced}
use Rattle.std.proofs.Math.Seq.{drop-cons}
use Rattle.sm_exact.proofs.CoefficientLemmas.{part_fits}
use Rattle.sm_exact.proofs.PlacingLemmas.{combined_at, combined_constant, one_placed, whole_placed, part_counts, none_case}
use Rattle.sm_exact.proofs.placing.placed.Goals as goal

pub returns-in_default : goal.returns-in_default
returns-in_default c =
    let ps = c.parts-parts.result.now in
    let i = c.loop-left.left - 1 in
    let k = (get_or ps i (0, pos 0)).0 in
    let within = c.loop-left.invariant.within in
    let kept = subst (AreParts 0) (sym c.parts-parts.ensures.parts) c.parts-parts.ensures.kept.parts in (
      k,
      none_case (HasNoPlace c.args.terms.now k) c.place_of.result c.place_of.ensures.none c.in_default.not-Some,
      λ (e : coefficient same_atom k c.args.f.now.parts ≡ pos 0).
          part_counts 0 i ps kept (omega (arith, within, c.loop-left-test.true))
          (ap (coefficient same_atom k) c.parts-parts.ensures.parts ∙ e),
    )

pub add_part-requires : goal.add_part-requires
add_part-requires c =
    let within = c.loop-left.invariant.within in
    let kept = subst (AreParts 0) (sym c.parts-parts.ensures.parts) c.parts-parts.ensures.kept.parts in
    part_fits (c.loop-left.left - 1) c.parts-parts.result.now kept (omega (arith, within, c.loop-left-test.true))

pub loop-left-preserved : goal.loop-left-preserved
loop-left-preserved c =
    let ps = c.parts-parts.result.now in
    let i = c.loop-left.left - 1 in
    let p = get_or ps i (0, pos 0) in
    let d = c.loop-left.sum in
    let h = c.in_ok-sum-2.sum in
    let n = c.in-Some.place in
    let within = c.loop-left.invariant.within in
    let none = c.loop-left.invariant.constant in
    let one : suc i ≡ c.loop-left.left = omega (arith, c.loop-left-test.true) in
    let shown = drop-cons ps i (0, pos 0) (omega (arith, within, c.loop-left-test.true))
    ∙ ap (λ (m : ℕ). p ∷ drop m ps) one in
    let constant = combined_constant d (atom_form n) h (pos 1) p.1 Eq c.in_ok-sum-2.ensures in
    record {
      within = omega (arith, within);
      parts = subst (λ (ds : List (ℕ × ℤ)). ArePlaced c.args.terms.now ds h.parts) (sym shown)
          (one_placed c.args.terms.now p (drop c.loop-left.left ps) d.parts h.parts n c.requires c.in-Some.ensures.some
          (combined_at d (atom_form n) h (pos 1) p.1 Eq c.in_ok-sum-2.ensures) c.loop-left.invariant.parts);
      constant = constant ∙ nothing d.constant p.1 none;
    }
  where
    nothing : (y z : ℤ) → y ≡ pos 0 → (pos 1 *ℤ y) +ℤ (z *ℤ pos 0) ≡ pos 0
    nothing y z none = omega (arith, ints)

pub returns : goal.returns
returns c =
    let d = c.loop-left.sum in
    let start : c.loop-left.left ≡ 0 = omega (arith, c.loop-left-test.false) in
    let parts = subst (λ (m : ℕ). ArePlaced c.args.terms.now (drop m c.parts-parts.result.now) d.parts) start c.loop-left.invariant.parts in
    whole_placed c.args.terms.now c.args.f.now d c.in_ok-form.form
    (subst (λ (ds : List (ℕ × ℤ)). ArePlaced c.args.terms.now ds d.parts) c.parts-parts.ensures.parts parts)
    c.loop-left.invariant.constant c.parts-parts-2.ensures.kept c.in_ok-form.ensures
