use Rattle.sm_words.proofs.Imports.{◌≡◌, drop, all_ascii_digits}
use Rattle.sm_words.proofs.numbers.has_digits.Given as goal

-- what is left of the bytes decides for all of them
abbrev pub invariant-loop-byte : goal.invariant-loop-byte
invariant-loop-byte l = all_ascii_digits (drop l.byte-index l.bytes) ≡ all_ascii_digits l.bytes
