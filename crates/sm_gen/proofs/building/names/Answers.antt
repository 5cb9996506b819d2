use Rattle.sm_gen.proofs.Imports.{map, length, ap, ◌∙◌, arith, length-map-range_with_len, range_with_len, with_text, name_of}
use Rattle.sm_gen.proofs.NameTexts.{names_more}
use Rattle.sm_gen.proofs.building.names.Goals as goal

pub add-requires : goal.add-requires
add-requires c =
    let n = c.loop-number.number in
    let many = ap length c.loop-number.invariant ∙ length-map-range_with_len name_of 0 n in
    omega (arith, many, c.loop-number-test.true, c.from-number-end.ensures, c.ranges.size.fits)

pub loop-number-preserved : goal.loop-number-preserved
loop-number-preserved c =
    let n = c.loop-number.number in
    c.in_ok-add.ensures.ok
    ∙ ap (λ t. with_text t c.as_str.result.now) c.loop-number.invariant
    ∙ ap (with_text (map name_of (range_with_len 0 n))) (c.as_str.ensures.value ∙ c.in_ok-text.ensures)
    ∙ names_more n (omega (arith, c.loop-number-test.true, c.from-number-end.ensures, c.ranges.size.fits))
