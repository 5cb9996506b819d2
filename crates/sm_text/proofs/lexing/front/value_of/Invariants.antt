use Rattle.sm_text.proofs.Imports.{◌≡◌, ◌<◌, ◌^◌, take, digits_value}
use Rattle.sm_text.proofs.lexing.front.value_of.Given as goal

-- the number that the digits so far write
abbrev pub invariant-loop-digit : goal.invariant-loop-digit
invariant-loop-digit l = (l.value ≡ digits_value 10 (take l.digit-index l.digits)) × (l.value < 2 ^ 127)
