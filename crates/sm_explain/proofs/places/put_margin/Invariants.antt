-- The blanks so far.
use Rattle.sm_explain.proofs.Imports.{◌≡◌, ◌++◌, map, take, blank_under}
use Rattle.sm_explain.proofs.places.put_margin.Given as goal

abbrev pub invariant-loop-byte : goal.invariant-loop-byte
invariant-loop-byte l = l.out.items ≡ l.fn.out.items ++ map blank_under (take l.byte-index l.bytes)
