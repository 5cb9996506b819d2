use Rattle.sm_proof.proofs.Imports.{◌≡◌, ◌+◌, ◌*◌, take, subst, arith, rules, AllDigits, digits_value, take_all}
use Rattle.sm_proof.proofs.MagnitudeLemmas.{other_is_none, wide_is_none, next_value, next_digits, value_spelled}
use Rattle.sm_proof.proofs.number.value_of.Goals as goal

pub returns-then-not-is_ascii_digit : goal.returns-then-not-is_ascii_digit
returns-then-not-is_ascii_digit c =
    other_is_none c.args.word.now c.loop-digit.digit-index c.loop-digit-test.true (search rules)

pub returns-then-value-unit : goal.returns-then-value-unit
returns-then-value-unit c =
    let word = c.args.word.now in
    let i = c.loop-digit.digit-index in
    let next = next_value word i c.loop-digit.value c.from-unit.result c.loop-digit-test.true (search rules) c.loop-digit.invariant.value
    c.from-unit.ensures in
    wide_is_none word (i + 1) (10 * c.loop-digit.value + c.from-unit.result) next (omega (arith, c.if-value-unit.true))

pub loop-digit-preserved : goal.loop-digit-preserved
loop-digit-preserved c =
    let word = c.args.word.now in
    let i = c.loop-digit.digit-index in
    record {
      digits = next_digits word i c.loop-digit-test.true (search rules) c.loop-digit.invariant.digits;
      value = next_value word i c.loop-digit.value c.from-unit.result c.loop-digit-test.true (search rules) c.loop-digit.invariant.value
          c.from-unit.ensures;
      low = omega (arith, c.if-value-unit.false);
    }

pub returns : goal.returns
returns c =
    let word = c.args.word.now in
    let all : take c.loop-digit.digit-index word ≡ word = take_all c.loop-digit.digit-index word (omega (arith, c.loop-digit-test.false)) in
    value_spelled word c.loop-digit.value
    (subst (AllDigits 10) all c.loop-digit.invariant.digits)
    (subst (λ ds. c.loop-digit.value ≡ digits_value 10 ds) all c.loop-digit.invariant.value)
    c.loop-digit.invariant.low c.requires.some c.requires.lead
