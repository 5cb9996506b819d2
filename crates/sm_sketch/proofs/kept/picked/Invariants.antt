-- The templates of the numbers so far.
use Rattle.sm_sketch.proofs.Imports.{◌≡◌, take, pointed, picked_forms}
use Rattle.sm_sketch.proofs.kept.picked.Given as goal

abbrev pub invariant-loop-number : goal.invariant-loop-number
invariant-loop-number l = pointed l.list.items ≡ picked_forms l.templates (take l.number-index l.numbers)
