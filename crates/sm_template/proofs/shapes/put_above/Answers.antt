-- The kinds with one literal more.
use Rattle.sm_template.proofs.Imports.{◌≡◌, ◌∙◌, ℤ, to_z, of_z, arith, List, ◌++◌, take, get_or, sym, ap, w128, to_z-of_z, append_assoc, CopyName, Shape, above_by, above_any}
use Rattle.std.proofs.Common.{pos}
use Rattle.sm_template.proofs.FrontLemmas.{flat_more}
use Rattle.sm_template.proofs.shapes.put_above.Goals as goal

pub loop-v-preserved : goal.loop-v-preserved
loop-v-preserved c =
    let literals = c.args.literals.now in
    let i = c.loop-v.v-index in
    let v = get_or literals i (pos 0) in
    let pair : CopyName × CopyName = (c.args.c, c.args.d) in
    let start = c.args.list.now.items in
    let read : to_z w128 (of_z w128 v) ≡ v = grind (arith, to_z-of_z) in
    c.in_ok-put_literal.ensures
    ∙ ap (λ (z : ℤ). c.loop-v.list.items ++ above_by pair z) read
    ∙ ap (λ (l : List Shape). l ++ above_by pair v) c.loop-v.invariant
    ∙ append_assoc start (above_any (take i literals) pair) (above_by pair v)
    ∙ ap (λ (l : List Shape). start ++ l)
    (sym (flat_more (above_by pair) literals i (pos 0) c.loop-v-test.true))
