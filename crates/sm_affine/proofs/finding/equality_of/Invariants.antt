-- The parts so far give the column.
use Rattle.sm_affine.specs.Equalities.{GivesColumn}
use Rattle.sm_affine.proofs.finding.equality_of.Given as goal

abbrev pub invariant-loop-share : goal.invariant-loop-share
invariant-loop-share l = GivesColumn l.column l.equality.parts.items
