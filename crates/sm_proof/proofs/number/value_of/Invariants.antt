use Rattle.sm_proof.proofs.Imports.{◌≡◌, ◌≤◌, ◌^◌, take, AllDigits, digits_value}
use Rattle.sm_proof.proofs.number.value_of.Given as goal

-- the bytes so far are digits, and the number that they write
abbrev pub invariant-loop-digit : goal.invariant-loop-digit
invariant-loop-digit l = record {
  digits : AllDigits 10 (take l.digit-index l.word);
  value : l.value ≡ digits_value 10 (take l.digit-index l.word);
  low : l.value ≤ 2 ^ 127;
}
