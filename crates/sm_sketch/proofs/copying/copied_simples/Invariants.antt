-- The copies so far are the nodes so far.
use Rattle.std.proofs.Common.{◌≡◌, take}
use Rattle.sm_sketch.proofs.copying.copied_simples.Given as goal

abbrev pub invariant-loop-simple : goal.invariant-loop-simple
invariant-loop-simple l = l.list.items ≡ take l.simple-index l.simple-items
