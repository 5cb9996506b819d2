use Rattle.sm_text.proofs.Imports.{◌+◌, ◌*◌, ◌^◌, ◌≤◌, Some, None, pos, sym, ap, arith, digits_value}
use Rattle.std.proofs.Common.{if◌then◌else◌}
use Rattle.sm_text.proofs.Cut.Fronts.{digits_value-next, too_wide}
use Rattle.sm_text.proofs.lexing.front.value_of.Goals as goal

pub returns-then-value-unit : goal.returns-then-value-unit
returns-then-value-unit c =
    let digits = c.args.digits.now in
    let i = c.loop-digit.digit-index in
    let value = c.loop-digit.value in
    let unit = c.from-unit.result in
    let wide : 2 ^ 127 ≤ 10 * value + unit = omega (arith, c.if-value-unit.true) in
    let next = digits_value-next digits i value unit c.requires c.loop-digit-test.true c.loop-digit.invariant.0 c.from-unit.ensures in
    sym (ap (λ b. if b then Some (pos (digits_value 10 digits)) else None) (too_wide digits (i + 1) (10 * value + unit) next wide))

pub loop-digit-preserved : goal.loop-digit-preserved
loop-digit-preserved c =
    let next = digits_value-next c.args.digits.now c.loop-digit.digit-index c.loop-digit.value c.from-unit.result c.requires
    c.loop-digit-test.true c.loop-digit.invariant.0 c.from-unit.ensures in
    (next, omega (arith, c.if-value-unit.false))
