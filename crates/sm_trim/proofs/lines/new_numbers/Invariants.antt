-- The new numbers of the facts so far.
use Rattle.sm_trim.proofs.Imports.{◌≡◌, take, map, new_number}
use Rattle.sm_trim.proofs.lines.new_numbers.Given as goal

abbrev pub invariant-loop-n : goal.invariant-loop-n
invariant-loop-n l = l.list.items ≡ map (new_number l.moved) (take l.n-index l.n-items)
