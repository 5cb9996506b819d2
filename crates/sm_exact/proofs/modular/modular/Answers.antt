-- The part at a place goes behind those before it.
use Rattle.sm_exact.proofs.Imports.{ℕ, sym, ap, subst, ◌∙◌, to_z, of_z, w128, Linear, AreParts}
use Rattle.sm_exact.specs.Rows.{AreBelow}
use Rattle.sm_exact.proofs.CoefficientLemmas.{part_fits}
use Rattle.sm_exact.proofs.ModularLemmas.{same_bits, turn_below, turn_parts}
use Rattle.sm_exact.proofs.modular.modular.Goals as goal

pub turned-q-requires-clause-number : goal.turned-q-requires-clause-number
turned-q-requires-clause-number c =
    let kept = subst (AreParts 0) (sym c.parts-parts.ensures.parts) c.parts-parts.ensures.kept.parts in
    part_fits c.loop-part.part-index c.parts-parts.result.now kept c.loop-part-test.true

pub loop-part-preserved : goal.loop-part-preserved
loop-part-preserved c =
    let ps = c.parts-parts.result.now in
    let kept = subst (AreParts 0) (sym c.parts-parts.ensures.parts) c.parts-parts.ensures.kept.parts in
    let above = subst (AreBelow c.args.s) (sym c.parts-parts.ensures.parts) c.requires.above in
    let q = to_z w128 (of_z w128 c.turned-q.result) in
    record {
      kind = ap (λ (f : Linear ℕ). f.kind) c.in_ok-d-2.ensures;
      constant = ap (λ (f : Linear ℕ). f.constant) c.in_ok-d-2.ensures ∙ c.loop-part.invariant.constant;
      below = turn_below c.args.t c.args.a.now c.args.s c.loop-part.part-index ps c.loop-part.d c.in_ok-d-2.d q c.loop-part-test.true
          c.in_ok-d-2.ensures kept above c.loop-part.invariant.below;
      parts = turn_parts c.args.t c.args.a.now c.args.s c.loop-part.part-index ps c.loop-part.d c.in_ok-d-2.d q c.loop-part-test.true
          c.in_ok-d-2.ensures (same_bits c.turned-q.result c.turned-q.ensures.range ∙ c.turned-q.ensures.value) c.loop-part.invariant.parts;
    }
