-- The table goes on from the one at the start.
use Rattle.calls.specs.Scenes.{Continues}
use Rattle.calls.proofs.term.put_terms.Given as goal

abbrev pub invariant-loop-part : goal.invariant-loop-part
invariant-loop-part l = Continues l.fn.scene.table l.scene.table
