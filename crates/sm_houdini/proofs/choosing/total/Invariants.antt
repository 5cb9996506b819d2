-- How many are chosen so far.
use Rattle.sm_houdini.proofs.Imports.{◌≡◌, take, rows, total}
use Rattle.sm_houdini.proofs.choosing.total.Given as goal

abbrev pub invariant-loop-numbers : goal.invariant-loop-numbers
invariant-loop-numbers l = l.count ≡ total (rows (take l.numbers-index l.numbers-items))
