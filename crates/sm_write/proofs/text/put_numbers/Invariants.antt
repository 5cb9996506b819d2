-- The numbers so far and those that are left are all of them.
use Rattle.sm_write.proofs.Imports.{◌≡◌, ◌++◌, drop, numbers_text}
use Rattle.sm_write.proofs.text.put_numbers.Given as goal

abbrev pub invariant-loop-n : goal.invariant-loop-n
invariant-loop-n l = l.text.items ++ numbers_text (drop l.n-index l.numbers) ≡ l.fn.text.items ++ numbers_text l.numbers
