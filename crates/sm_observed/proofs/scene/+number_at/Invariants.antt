-- The parts of a term stand before it.
use Rattle.sm_observed.proofs.scene.+number_at.Given as goal

abbrev pub decreases-number_at : goal.decreases-number_at
decreases-number_at l = l.t.0
