-- Value by value.
use Rattle.sm_explain.proofs.Imports.{◌++◌, codes, ℤ, ap, ◌∙◌, to_z-of_z, w128, labelled}
use Rattle.sm_explain.proofs.RowsSound.{put_five}
use Rattle.sm_explain.proofs.rows.put_values.Goals as goal

pub returns : goal.returns
returns c =
    let old = c.args.out.now.items in
    let p = c.put_value.new.out.items in
    let q = c.put_value-2.new.out.items in
    let r = c.put_value-3.new.out.items in
    let s = c.put_value-4.new.out.items in
    put_five old p q r s c.extend_from_slice.new.self.items (labelled (codes " base ") c.args.base) (labelled (codes " A ") c.args.a)
    (labelled (codes " B ") c.args.b) (labelled (codes " candidate ") c.args.candidate) (codes "\n")
    (c.in_ok-put_value.ensures ∙ ap (λ (z : ℤ). old ++ labelled (codes " base ") z) (to_z-of_z w128 c.args.base c.ranges.base))
    (c.in_ok-put_value-2.ensures ∙ ap (λ (z : ℤ). p ++ labelled (codes " A ") z) (to_z-of_z w128 c.args.a c.ranges.a))
    (c.in_ok-put_value-3.ensures ∙ ap (λ (z : ℤ). q ++ labelled (codes " B ") z) (to_z-of_z w128 c.args.b c.ranges.b))
    (c.in_ok-put_value-4.ensures
    ∙ ap (λ (z : ℤ). r ++ labelled (codes " candidate ") z) (to_z-of_z w128 c.args.candidate c.ranges.candidate))
    c.in_ok-extend_from_slice.ensures.items
