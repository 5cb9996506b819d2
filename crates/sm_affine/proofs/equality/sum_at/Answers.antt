-- A part more goes from those that are left to the sum so far.
use Rattle.std.proofs.Common.{◌≡◌, ℤ, ◌+◌, ◌+ℤ◌, drop, rules, sym, subst}
use Rattle.std.proofs.lemmas.Int.{to_z-of_z}
use Rattle.std.specs.Int.{w128}
use mir.Val.{SFits}
use Rattle.sm_num.specs.Forms.{sum_of_parts}
use Rattle.sm_num.specs.FormLaws.{value_of_form}
use Rattle.sm_affine.specs.Equalities.{number_in, columns_of, form_of}
use Rattle.sm_affine.proofs.SumLemmas.{sum_more}
use Rattle.sm_affine.proofs.equality.sum_at.Goals as goal

pub loop-part-preserved : goal.loop-part-preserved
loop-part-preserved c =
    let items = c.deref-part-items.result.now in
    let i = c.loop-part.part-index in
    let v = number_in c.args.row.now in
    let next = c.in_ok-next.next in
    let fits : SFits w128 next = search rules in
    subst (λ (z : ℤ). value_of_form v (form_of c.args.equality.now) ≡ sum_of_parts v (columns_of (drop (i + 1) items)) +ℤ z)
    (sym (to_z-of_z w128 next fits))
    (sum_more v items i _ _ next c.loop-part-test.true c.loop-part.invariant c.in_ok-next.ensures)
